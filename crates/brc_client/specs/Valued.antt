-- Calls by values on numbers: what came out, what went in, and the handle to None that a client keeps for scalars.
use Rattle.std.specs.Prelude.{◌≡◌, ◌≢◌, ◌<◌, ⊤, ℕ, List, Option, Some, None, Result, Ok, Err, IfOk, IfErr, OnOk, OnErr, IfSome, slice_set, get_or}
use Rattle.std.specs.declared.alloc.Global.{Global}
use Rattle.brc_words.specs.declared.fault.Fault.{Fault}
use Rattle.brc_words.specs.declared.key.Key.{Key}
use Rattle.brc_words.specs.declared.note.Note.{Note}
use Rattle.brc_count.specs.law.declared.world.event.Source.TheVariants as sources
use Rattle.brc_count.specs.declared.handed.HandedBack.{HandedBack}
use Rattle.brc_count.specs.Frames.{FrameSeen, HandleSeen, GivenHandle, Refused, IsAsBefore}
use Rattle.brc_count.specs.Locking.{cell_in}
use Rattle.brc_handles.specs.Handles.{slot, IsApart, ComesIn}
use Rattle.brc_things.specs.declared.value.Pair.{Pair}
use Rattle.brc_things.specs.declared.value.Value.{Value}
use Rattle.brc_things.specs.declared.value.Value.TheVariants as values
use Rattle.brc_things.specs.Value_Calls.{DictPairValue}
use Rattle.brc_client.specs.declared.data.Datum.{Datum}
use Rattle.brc_client.specs.declared.data.PairDatum.{PairDatum}
use Rattle.brc_client.specs.declared.data.Datum.TheVariants.{Scalar, Object}
use Rattle.brc_client.specs.declared.status.Status.{Status}
use Rattle.brc_client.specs.declared.status.Status.TheVariants as statuses
use Rattle.brc_client.specs.Numbers.{NumbersSeen, number_at, place_in, stamp_in, once_more}
use Rattle.brc_client.specs.Clients.{ClientSeen, KeptGoes, Names, NamesAs, NamesNone, NamesOneIn, KeepsNames, KeepsNumbers, SpendsName}
use Rattle.brc_client.specs.Calls.{OfNamed, RefusedOf, Adds}

-- ---- what comes out

-- a call that gives an object's handle with this note, as one that gives the handle
abbrev pub WithNote : Note → (Result (Value Global) Fault → Type 0) → Result HandleSeen Fault → Type 0
WithNote note call (Ok given) = call (Ok (values.Object given note))
WithNote note call (Err fault) = call (Err fault)

-- The call gave a value. A scalar is its note, and no number changed. An object has a number, as `Adds` has it.
abbrev pub AddsDatum : (FrameSeen Global → Result (Value Global) Fault → Type 0) → ClientSeen → ClientSeen → Datum → Type 0
AddsDatum call old new (Scalar note) =
    call new.frame (Ok (values.Scalar note)) × (new.handles ≡ old.handles) × (new.numbers ≡ old.numbers)
AddsDatum call old new (Object number note) = Adds (λ frame. WithNote note (call frame)) old new number

-- a call that gives a value in a pair, with this key and so many pairs, as one that gives the value
abbrev pub WithPair : Key Global → ℕ → (Result (Pair Global) Fault → Type 0) → Result (Value Global) Fault → Type 0
WithPair key of call (Ok value) = call (Ok (record { key = key; value = value; of = of }))
WithPair key of call (Err fault) = call (Err fault)

-- the number of an object names something
abbrev pub NamesDatumIn : List (Option HandleSeen) → NumbersSeen → Datum → Type 0
NamesDatumIn handles numbers (Scalar note) = ⊤
NamesDatumIn handles numbers (Object number note) = NamesOneIn handles numbers number

abbrev pub NamesDatum : ClientSeen → Datum → Type 0
NamesDatum client = NamesDatumIn client.handles client.numbers

-- What the heap's call on the object of a number gave is a scalar, or has a number; or the call was refused.
pub record GivesDatum (call : FrameSeen Global → FrameSeen Global → ℕ → Result (Value Global) Fault → Type 0) (number : ℕ)
    (old new : ClientSeen) (answer : Result Datum Status) : Type 0 where
  pub gave : IfOk answer (λ datum. OfNamed old number
      (λ object. AddsDatum (λ frame. call old.frame frame object.place) old new datum))
  pub refused : IfErr answer (RefusedOf (λ k fault. call old.frame new.frame k (Err fault)) old new number)
  pub names : IfOk answer (NamesDatum new)
  pub keeps : KeepsNames old new
  pub unchanged : OnErr answer (KeepsNumbers old new)
  pub none : new.none ≡ old.none

-- the same of the pair at the index of the dictionary of a number: a copy of its key, the value, and how many pairs there are
pub record GivesPairDatum (dict index : ℕ) (old new : ClientSeen) (answer : Result PairDatum Status) : Type 0 where
  pub gave : IfOk answer (λ pair. OfNamed old dict (λ object. AddsDatum
      (λ frame value. WithPair pair.key pair.of (DictPairValue old.frame frame object.place index) value)
      old new pair.datum))
  pub refused : IfErr answer (RefusedOf (λ k fault. DictPairValue old.frame new.frame k index (Err fault)) old new dict)
  pub names : IfOk answer (λ pair. NamesDatum new pair.datum)
  pub keeps : KeepsNames old new
  pub unchanged : OnErr answer (KeepsNumbers old new)
  pub none : new.none ≡ old.none

-- ---- the handle to None

-- The client has a handle to None for a scalar: the one that it kept, or a new one. One that was kept and isn't to None
-- is let go of first; none ever is.
pub data ReadiesNone (old ready : FrameSeen Global) (kept : Option HandleSeen) (none : HandleSeen) : Type 0 where
  IsKept : kept ≡ Some none → ready ≡ old → ReadiesNone old ready kept none
  IsMade : (mid : FrameSeen Global) → KeptGoes old kept mid → GivenHandle mid ready (sources.Immortal 0) 0 none
      → ReadiesNone old ready kept none

-- why it has none: a place for one was wanting
pub record LacksNone (old new : FrameSeen Global) (kept : Option HandleSeen) (fault : Fault) : Type 0 where
  pub mid : FrameSeen Global
  pub goes : KeptGoes old kept mid
  pub refused : Refused mid fault
  pub unchanged : IsAsBefore mid new

-- so of a client, from before to behind it
pub record NoneMade (old new : ClientSeen) : Type 0 where
  pub none : HandleSeen
  pub kept : new.none ≡ Some none
  pub readies : ReadiesNone old.frame new.frame old.none none
  pub cell : cell_in new.frame none.place ≡ Some 0

-- so of a client, which keeps none then
pub record LacksNoneOf (old new : ClientSeen) (status : Status) : Type 0 where
  pub fault : Fault
  pub told : status ≡ statuses.Fault fault
  pub lacks : LacksNone old.frame new.frame old.none fault
  pub gone : new.none ≡ None

-- the number names a handle of this client, by its stamp, too
abbrev pub IsFound : ClientSeen → ℕ → Type 0
IsFound client number = Names client number × (stamp_in number ≡ client.numbers.stamp)

-- or why not: the container's number names none, and nothing was done; or a place was wanting
pub data NoneRefused (old new : ClientSeen) (container : ℕ) (status : Status) : Type 0 where
  Nameless : NamesNone old container status → new ≡ old → NoneRefused old new container status
  Placeless : (fault : Fault) → Names old container → status ≡ statuses.Fault fault
      → LacksNone old.frame new.frame old.none fault → new.none ≡ None → NoneRefused old new container status

-- ---- what goes in

-- the value that a datum stands for: a scalar's note; or the handle that its number names, which isn't the container's
abbrev pub StandsFor : ClientSeen → ℕ → Datum → Value Global → Type 0
StandsFor client container (Scalar note) value = value ≡ values.Scalar note
StandsFor client container (Object number note) value =
    (handle : HandleSeen) × NamesAs client number handle × (container ≢ number) × (value ≡ values.Object handle note)

-- the places once the value went in: an object's is empty
abbrev pub left_by : Datum → List (Option HandleSeen) → List (Option HandleSeen)
left_by (Scalar note) handles = handles
left_by (Object number note) handles = slice_set handles (place_in number) None

-- the numbers then: an object's place was vacated once more
pub record SpendsPlace (was is : NumbersSeen) (place : ℕ) : Type 0 where
  pub uses : is.uses ≡ slice_set was.uses place (once_more (get_or was.uses place 0))
  pub stamp : is.stamp ≡ was.stamp
  pub of : is.of ≡ was.of

abbrev pub SpendsDatum : Datum → NumbersSeen → NumbersSeen → Type 0
SpendsDatum (Scalar note) was is = is ≡ was
SpendsDatum (Object number note) was is = SpendsPlace was is (place_in number)

-- What came out for it, over the places that it left. An object lies in the place that has its number in the frame.
abbrev pub ComesBack : List (Option HandleSeen) → List (Option HandleSeen) → NumbersSeen → Option (Value Global)
    → Option Datum → Type 0
ComesBack left handles numbers None told = (told ≡ None) × (handles ≡ left)
ComesBack left handles numbers (Some (values.Scalar note)) told = (told ≡ Some (Scalar note)) × (handles ≡ left)
ComesBack left handles numbers (Some (values.Object given note)) told =
    (told ≡ Some (Object (number_at numbers given.place) note))
    × (handles ≡ slice_set left given.place (Some given))

-- An object that came out is in none of the places, and that of its number is empty.
abbrev pub IsLoose : List (Option HandleSeen) → Option (Value Global) → Type 0
IsLoose handles None = ⊤
IsLoose handles (Some (values.Scalar note)) = ⊤
IsLoose handles (Some (values.Object given note)) =
    (given.place < 65536) × (slot handles given.place ≡ None) × IsApart given handles

-- It is in one of them then.
abbrev pub LiesThen : List (Option HandleSeen) → List (Option HandleSeen) → Option (Value Global) → Type 0
LiesThen before after None = after ≡ before
LiesThen before after (Some (values.Scalar note)) = after ≡ before
LiesThen before after (Some (values.Object given note)) = ComesIn before after given

-- each number but an object's that went in names what it named
abbrev pub SpendsDatumName : ClientSeen → ClientSeen → Datum → Type 0
SpendsDatumName old new (Scalar note) = KeepsNames old new
SpendsDatumName old new (Object number note) = SpendsName old new number

module _ (call : FrameSeen Global → FrameSeen Global → ℕ → HandleSeen → HandleSeen → Value Global
    → Result (Option (Value Global)) (HandedBack (Value Global)) → Type 0) where
  -- The value went by the call into the object of a number, and what came out for it is told.
  pub record PutsDatum (old new : ClientSeen) (container : ℕ) (datum : Datum) (told : Option Datum) : Type 0 where
    pub object : HandleSeen
    pub names_object : NamesAs old container object
    pub ready : FrameSeen Global
    pub none : HandleSeen
    pub readies : ReadiesNone old.frame ready old.none none
    pub after : HandleSeen
    pub kept : new.none ≡ Some after
    pub value : Value Global
    pub stands : StandsFor old container datum value
    pub came : Option (Value Global)
    pub did : call ready new.frame object.place none after value (Ok came)
    pub back : ComesBack (left_by datum old.handles) new.handles new.numbers came told
    pub numbers : SpendsDatum datum old.numbers new.numbers

  -- Why it didn't, in this order: the container's number names none, then that of an object; they are one number; a place
  -- for a handle to None was wanting; or the heap refused.
  pub data PutsNoDatum (old new : ClientSeen) (container : ℕ) (datum : Datum) (status : Status) : Type 0 where
    ContainerNameless : NamesNone old container status → new ≡ old → PutsNoDatum old new container datum status
    ObjectNameless : (number : ℕ) (note : Note) → datum ≡ Object number note → Names old container
        → NamesNone old number status → new ≡ old → PutsNoDatum old new container datum status
    OneNumber : (note : Note) → datum ≡ Object container note → Names old container → status ≡ statuses.Same → new ≡ old
        → PutsNoDatum old new container datum status
    NoneWanting : (fault : Fault) → Names old container → status ≡ statuses.Fault fault
        → LacksNone old.frame new.frame old.none fault → new.none ≡ None → PutsNoDatum old new container datum status
    HeapRefused : (object none : HandleSeen) (ready : FrameSeen Global) (value : Value Global)
        (handed : HandedBack (Value Global)) → NamesAs old container object → ReadiesNone old.frame ready old.none none
        → new.none ≡ Some none → StandsFor old container datum value → status ≡ statuses.Fault handed.fault
        → handed.value ≡ value → call ready new.frame object.place none none value (Err handed)
        → PutsNoDatum old new container datum status

  -- The value went into the object of a number by the heap's call, and what came out for it has a number if it is an
  -- object. Or the call was refused, and every number names what it named.
  pub record TakesDatum (container : ℕ) (datum : Datum) (old new : ClientSeen) (answer : Result (Option Datum) Status)
      : Type 0 where
    pub took : IfOk answer (PutsDatum old new container datum)
    pub refused : IfErr answer (PutsNoDatum old new container datum)
    pub spent : OnOk answer (SpendsDatumName old new datum)
    pub came : IfOk answer (λ came. IfSome came (NamesDatum new))
    pub handles : OnErr answer (new.handles ≡ old.handles)
    pub numbers : OnErr answer (new.numbers ≡ old.numbers)
