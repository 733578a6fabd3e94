-- What a call by numbers comes to: which call of the heap was made, on which handle, and what became of the numbers.
use Rattle.std.specs.Prelude.{◌≡◌, ◌≢◌, ℕ, Bool, List, Option, Some, None, Result, Ok, Err, IfOk, IfErr, OnErr}
use Rattle.std.specs.Prelude.{MatchOption, slice_set, get_or}
use Rattle.std.specs.declared.alloc.Global.{Global}
use Rattle.brc_words.specs.declared.fault.Fault.{Fault}
use Rattle.brc_words.specs.declared.key.Key.{Key}
use Rattle.brc_count.specs.law.declared.world.event.Source.TheVariants as sources
use Rattle.brc_count.specs.declared.handed.HandedBack.{HandedBack}
use Rattle.brc_count.specs.Frames.{FrameSeen, HandleSeen, GivenHandle, Refused, IsAsBefore, place_seen}
use Rattle.brc_count.specs.Locking.{cell_in}
use Rattle.brc_count.specs.Owned.{Loses}
use Rattle.brc_things.specs.Looking.{BytesShown, TextShown, TextIs}
use Rattle.brc_handles.specs.Handles.{slot}
use Rattle.brc_client.specs.declared.status.Status.{Status}
use Rattle.brc_client.specs.declared.status.Status.TheVariants as statuses
use Rattle.brc_client.specs.Numbers.{number_at, place_in, once_more}
use Rattle.brc_client.specs.Clients.{ClientSeen, NamesAs, NamesNone, Names}

-- the number names a handle, of which this is so
pub record OfNamed (client : ClientSeen) (number : ℕ) (P : HandleSeen → Type 0) : Type 0 where
  pub handle : HandleSeen
  pub names : NamesAs client number handle
  pub so : P handle

-- the status is a fault of the heap's, of which this is so
abbrev pub ByHeap : (Fault → Type 0) → Status → Type 0
ByHeap P (statuses.Fault fault) = P fault
ByHeap P _ = ⊥

-- Why a call on the object of one number was refused: the number names none, and nothing was done; or the heap refused.
pub data RefusedOf (call : ℕ → Fault → Type 0) (old new : ClientSeen) (number : ℕ) (status : Status) : Type 0 where
  Unnamed : NamesNone old number status → new ≡ old → RefusedOf call old new number status
  OnObject : OfNamed old number (λ object. ByHeap (call object.place) status) → RefusedOf call old new number status

-- ---- a call that gives a handle

-- The call gave a handle. It lies in the place that has its number in the frame, which was empty, and this is its number.
pub record Adds (call : FrameSeen Global → Result HandleSeen Fault → Type 0) (old new : ClientSeen) (number : ℕ)
    : Type 0 where
  pub given : HandleSeen
  pub did : call new.frame (Ok given)
  pub empty : slot old.handles given.place ≡ None
  pub set : new.handles ≡ slice_set old.handles given.place (Some given)
  pub numbers : new.numbers ≡ old.numbers
  pub is : number ≡ number_at new.numbers given.place

-- one reference more to the object of a place, or why there is none
pub record Retained (old : FrameSeen Global) (k : ℕ) (new : FrameSeen Global) (result : Result HandleSeen Fault)
    : Type 0 where
  pub given : IfOk result (λ given. (c : ℕ) → place_seen old.heap.cells old.seat.log k ≡ Some c
      → GivenHandle old new (sources.Frame k) c given)
  pub refused : IfErr result (Refused old)
  pub unchanged : OnErr result (IsAsBefore old new)

-- a call that gives a key beside the handle, as a call that gives the handle
abbrev pub WithKey : Key Global → (Result (Key Global × HandleSeen) Fault → Type 0) → Result HandleSeen Fault → Type 0
WithKey key call (Ok given) = call (Ok (key, given))
WithKey key call (Err fault) = call (Err fault)

-- ---- a call that spends a number

-- The reference of the number went by the call. Its place is empty, and was vacated once more.
pub record Releases (old new : ClientSeen) (number : ℕ) : Type 0 where
  pub gone : HandleSeen
  pub names : NamesAs old number gone
  pub loses : Loses old.frame new.frame gone
  pub set : new.handles ≡ slice_set old.handles (place_in number) None
  pub uses : new.numbers.uses
      ≡ slice_set old.numbers.uses (place_in number) (once_more (get_or old.numbers.uses (place_in number) 0))
  pub stamp : new.numbers.stamp ≡ old.numbers.stamp
  pub of : new.numbers.of ≡ old.numbers.of

-- The reference of one number went by the call into the object of another. Its place has what came out for it, under a
-- number of its own, or is empty.
pub record PutsIn (call : ℕ → HandleSeen → Result (Option HandleSeen) (HandedBack HandleSeen) → Type 0)
    (old new : ClientSeen) (container value : ℕ) (result : Option ℕ) : Type 0 where
  pub object : HandleSeen
  pub names_object : NamesAs old container object
  pub given : HandleSeen
  pub names_given : NamesAs old value given
  pub others : container ≢ value
  pub answer : Option HandleSeen
  pub did : call object.place given (Ok answer)
  pub left : new.handles ≡ slice_set old.handles (place_in value) answer
  pub uses : new.numbers.uses
      ≡ slice_set old.numbers.uses (place_in value) (once_more (get_or old.numbers.uses (place_in value) 0))
  pub stamp : new.numbers.stamp ≡ old.numbers.stamp
  pub of : new.numbers.of ≡ old.numbers.of
  pub told : MatchOption answer (result ≡ None) (λ came. result ≡ Some (number_at new.numbers (place_in value)))

-- Why it didn't: the container's number names none, then the value's; or they are one number: nothing was done. Or the
-- heap refused, and the value has its number still.
pub data PutsNot (call : ℕ → HandleSeen → Result (Option HandleSeen) (HandedBack HandleSeen) → Type 0)
    (old new : ClientSeen) (container value : ℕ) (status : Status) : Type 0 where
  ContainerUnnamed : NamesNone old container status → new ≡ old → PutsNot call old new container value status
  ValueUnnamed : Names old container → NamesNone old value status → new ≡ old
      → PutsNot call old new container value status
  OneNumber : Names old container → container ≡ value → status ≡ statuses.Same → new ≡ old
      → PutsNot call old new container value status
  ValueRefused : (object given : HandleSeen) (handed : HandedBack HandleSeen) → NamesAs old container object
      → NamesAs old value given → container ≢ value → status ≡ statuses.Fault handed.fault → handed.value ≡ given
      → call object.place given (Err handed) → PutsNot call old new container value status

-- ---- a look

-- what the call on the object of the number answered; or why it was refused
module _ {T : Type 0} where
  abbrev pub Looks : (ℕ → Result T Fault → Type 0) → ClientSeen → ClientSeen → ℕ → Result T Status → Type 0
  Looks call old new number (Ok found) = OfNamed old number (λ object. call object.place (Ok found))
  Looks call old new number (Err status) = RefusedOf (λ k fault. call k (Err fault)) old new number status

-- how long the text in the place is, and its bytes from one on, in room that had `had` and has `has`
abbrev pub Shown : ℕ → List ℕ → List ℕ → FrameSeen Global → FrameSeen Global → ℕ → Result ℕ Fault → Type 0
Shown from had has old new k result = TextShown old new k from had has result

-- the same of any bytes
abbrev pub ShownBytes : ℕ → List ℕ → List ℕ → FrameSeen Global → FrameSeen Global → ℕ → Result ℕ Fault → Type 0
ShownBytes from had has old new k result = BytesShown old new k from had has result

-- whether it has just these bytes
abbrev pub IsBytes : List ℕ → FrameSeen Global → FrameSeen Global → ℕ → Result Bool Fault → Type 0
IsBytes bytes old new k result = TextIs old new k bytes result

-- both numbers name references to one object, or to two
abbrev pub IsOne : ClientSeen → HandleSeen → HandleSeen → Type 0
IsOne client one other = cell_in client.frame one.place ≡ cell_in client.frame other.place
