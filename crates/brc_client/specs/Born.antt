-- A list that is made with its values: it is made empty, with room for them, and they go in one after the other.
use Rattle.std.specs.Prelude.{◌≡◌, ◌≢◌, ◌<◌, ◌≤◌, ℕ, List, [], ◌∷◌, Some, None, Result, Err, IfOk, IfErr, OnOk}
use Rattle.std.specs.Prelude.{length, take, slice_get}
use Rattle.std.specs.declared.alloc.Global.{Global}
use Rattle.brc_words.specs.declared.fault.Fault.TheVariants as faults
use Rattle.brc_words.specs.declared.limits.TheConstants.{MOST_ENTRIES}
use Rattle.brc_count.specs.declared.handed.HandedBack.{HandedBack}
use Rattle.brc_count.specs.Frames.{HandleSeen}
use Rattle.brc_count.specs.Locking.{cell_in}
use Rattle.brc_things.specs.declared.value.Value.{Value}
use Rattle.brc_places.specs.Calls.{MadeBy}
use Rattle.brc_places.specs.Value_Calls.{PutValueBy}
use Rattle.brc_places.specs.declared.place_makers.Make.TheVariants as makes
use Rattle.brc_places.specs.declared.valued.PutBy.TheVariants as puts
use Rattle.brc_client.specs.declared.data.Datum.{Datum}
use Rattle.brc_client.specs.declared.status.Status.{Status}
use Rattle.brc_client.specs.declared.status.Status.TheVariants as statuses
use Rattle.brc_client.specs.Clients.{ClientSeen, Names, NamesAs, KeepsNumbers}
use Rattle.brc_client.specs.Calls.{ByHeap, Adds, Releases}
use Rattle.brc_client.specs.Value_Row.{HasNumber, AllNamed, FirstNameless, NoneTwice, StandsTwice}
use Rattle.brc_client.specs.Valued.{NoneMade, LacksNoneOf, StandsFor, PutsDatum}

-- ---- the numbers among the values

-- The numbers may be given: each object's names something, and none stands twice.
pub record AreGiven (client : ClientSeen) (items : List Datum) : Type 0 where
  pub named : AllNamed client.handles client.numbers items
  pub apart : NoneTwice items

-- Or they may not: Foreign or Stale of the first that names none; Same, if each names something.
pub data NotGiven (client : ClientSeen) (items : List Datum) (status : Status) : Type 0 where
  Nameless : FirstNameless client.handles client.numbers items status → NotGiven client items status
  Twice : AllNamed client.handles client.numbers items → StandsTwice items → status ≡ statuses.Same
      → NotGiven client items status

-- there are not too many values, and their numbers may be given
pub record MayGoIn (client : ClientSeen) (items : List Datum) : Type 0 where
  pub few : length items ≤ MOST_ENTRIES
  pub given : AreGiven client items

-- the number of each object that went in names nothing, and every other number names what it named
pub record SpendsNumbers (items : List Datum) (old new : ClientSeen) : Type 0 where
  pub none : (at number : ℕ) → HasNumber items at number → Names new number → ⊥
  pub others : (n : ℕ) (h : HandleSeen) → ((at : ℕ) → HasNumber items at n → ⊥) → NamesAs old n h → NamesAs new n h

-- ---- the values go in

-- Each went in at the end of the list, from the first on, as `list_push_value` puts one.
abbrev pub PushesEach : ℕ → List Datum → ClientSeen → ClientSeen → Type 0
PushesEach list [] old new = new ≡ old
PushesEach list (datum ∷ rest) old new =
    (mid : ClientSeen) × PutsDatum (PutValueBy puts.Push) old mid list datum None × PushesEach list rest mid new

-- The heap refused one, with a fault of `list_push_value`. All places and numbers are as they were.
pub record RefusesPush (list : ℕ) (datum : Datum) (old new : ClientSeen) (status : Status) : Type 0 where
  pub object : HandleSeen
  pub names_object : NamesAs old list object
  pub none : HandleSeen
  pub kept : old.none ≡ Some none
  pub value : Value Global
  pub stands : StandsFor old list datum value
  pub handed : HandedBack (Value Global)
  pub told : status ≡ statuses.Fault handed.fault
  pub did : PutValueBy puts.Push old.frame new.frame object.place none none value (Err handed)
  pub same_handles : new.handles ≡ old.handles
  pub same_numbers : new.numbers ≡ old.numbers
  pub same_none : new.none ≡ old.none

-- ---- the call

-- a handle to None is kept, which scalars want, and every number names what it named
pub record KeepsNone (old new : ClientSeen) : Type 0 where
  pub made : NoneMade old new
  pub same_handles : new.handles ≡ old.handles
  pub same_numbers : new.numbers ≡ old.numbers

-- An empty list was made, and this is its number. Before that a handle to None was there.
pub record BeginsList (old made : ClientSeen) (list : ℕ) : Type 0 where
  pub ready : ClientSeen
  pub none : KeepsNone old ready
  pub adds : Adds (MadeBy makes.«List» ready.frame) ready made list

-- A list was made, and all values went in.
pub record ListOf (items : List Datum) (old new : ClientSeen) (list : ℕ) : Type 0 where
  pub may : MayGoIn old items
  pub made : ClientSeen
  pub begins : BeginsList old made list
  pub pushes : PushesEach list items made new

-- The heap refused the value at an index, after those before it had gone in.
pub record StopsPushing (list : ℕ) (items : List Datum) (old new : ClientSeen) (status : Status) : Type 0 where
  pub at : ℕ
  pub datum : Datum
  pub here : slice_get items at ≡ Some datum
  pub mid : ClientSeen
  pub pushes : PushesEach list (take at items) old mid
  pub refuses : RefusesPush list datum mid new status

-- A list was made, and the heap refused a value. The list was released, with all that had gone in.
-- A new list is known to no other thread, and has room, so no value is refused; but the heap's clauses don't say so.
pub record StopsList (items : List Datum) (old new : ClientSeen) (status : Status) : Type 0 where
  pub may : MayGoIn old items
  pub list : ℕ
  pub made : ClientSeen
  pub begins : BeginsList old made list
  pub last : ClientSeen
  pub stops : StopsPushing list items made last status
  pub releases : Releases last new list

-- Why there is no list, in this order: there are too many values; their numbers may not be given; a place for a handle
-- to None was wanting; the list wasn't made. Then every number names what it named. Or it was made, and released.
pub data NoListOf (items : List Datum) (old new : ClientSeen) (status : Status) : Type 0 where
  TooMany : MOST_ENTRIES < length items → status ≡ statuses.Fault faults.Full → new ≡ old → NoListOf items old new status
  Ungiven : length items ≤ MOST_ENTRIES → NotGiven old items status → new ≡ old → NoListOf items old new status
  NoneLacks : MayGoIn old items → LacksNoneOf old new status → new.handles ≡ old.handles → new.numbers ≡ old.numbers
      → NoListOf items old new status
  ListLacks : MayGoIn old items → (ready : ClientSeen) → KeepsNone old ready
      → ByHeap (λ fault. MadeBy makes.«List» ready.frame new.frame (Err fault)) status → KeepsNumbers ready new
      → NoListOf items old new status
  Stops : StopsList items old new status → NoListOf items old new status

-- All clauses of the call as one fact.
pub record MakesListOf (items : List Datum) (old new : ClientSeen) (answer : Result ℕ Status) : Type 0 where
  pub made : IfOk answer (ListOf items old new)
  pub refused : IfErr answer (NoListOf items old new)
  pub names : IfOk answer (Names new)
  pub spent : OnOk answer (SpendsNumbers items old new)

-- ---- what a push asks for

-- a handle to None is kept
abbrev pub HoldsNone : ClientSeen → Type 0
HoldsNone client =
    (none : HandleSeen) × (client.none ≡ Some none) × (cell_in client.frame none.place ≡ Some 0)

-- the list has a number, and each value from the index on that is an object has one of its own
pub record Awaits (client : ClientSeen) (list : ℕ) (items : List Datum) (from : ℕ) : Type 0 where
  pub list_named : Names client list
  pub none : HoldsNone client
  pub named : (at number : ℕ) → from ≤ at → HasNumber items at number → Names client number
  pub others : (at number : ℕ) → from ≤ at → HasNumber items at number → list ≢ number
