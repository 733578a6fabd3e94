-- Values that go into a container by numbers, if what stands there is still what was expected.
use Rattle.std.specs.Prelude.{◌≡◌, ◌⊎◌, ℕ, Bool, true, false, Option, Some, None, Result, Ok, Err, IfOk, IfErr, OnOk, OnErr}
use Rattle.std.specs.declared.alloc.Global.{Global}
use Rattle.brc_words.specs.declared.entry.Entry.{Entry}
use Rattle.brc_words.specs.Notes.{noted}
use Rattle.brc_count.specs.block.Lent_Keys.{key_lent}
use Rattle.brc_count.specs.declared.handed.HandedBack.{HandedBack}
use Rattle.brc_count.specs.Frames.{FrameSeen, HandleSeen}
use Rattle.brc_count.specs.Locking.{cell_in}
use Rattle.brc_things.specs.declared.value.SwapIf.{SwapIf}
use Rattle.brc_things.specs.declared.value.SwapIf.TheVariants.{Swapped, Differs}
use Rattle.brc_things.specs.declared.value.Value.{Value}
use Rattle.brc_things.specs.Still.{ListSwapIf, DictSwapIf}
use Rattle.brc_client.specs.declared.data.Datum.{Datum}
use Rattle.brc_client.specs.declared.data.Datum.TheVariants.{Scalar, Object}
use Rattle.brc_client.specs.declared.status.Status.{Status}
use Rattle.brc_client.specs.declared.conditional.SwapIfAt.{SwapIfAt}
use Rattle.brc_client.specs.declared.conditional.SwapIfAt.TheVariants as places
use Rattle.brc_client.specs.declared.conditional.SwapTold.{SwapTold}
use Rattle.brc_client.specs.Calls.{OfNamed}
use Rattle.brc_client.specs.Clients.{ClientSeen, NamesNone}
use Rattle.brc_client.specs.Valued.{PutsDatum, PutsNoDatum, SpendsDatumName, NamesDatum}

-- the call of the heap, by where it looks
abbrev pub SwapsIfAt : SwapIfAt → FrameSeen Global → FrameSeen Global → ℕ → Entry → HandleSeen → HandleSeen → Value Global
    → Result (SwapIf Global) (HandedBack (Value Global)) → Type 0
SwapsIfAt (places.Index index) old new k expected none after value result =
    ListSwapIf old new k index expected none after value result
SwapsIfAt (places.Beside key) old new k expected none after value result =
    DictSwapIf old new k (key_lent key) expected none after value result

-- what came: for a value that went in what stood there, else the value itself
abbrev pub came_as : Bool → Value Global → SwapIf Global
came_as true came = Swapped came
came_as false came = Differs came

-- a call that swaps, by the expected entry
abbrev pub SwapCall : Type 1
SwapCall = FrameSeen Global → FrameSeen Global → ℕ → Entry → HandleSeen → HandleSeen → Value Global
    → Result (SwapIf Global) (HandedBack (Value Global)) → Type 0

-- such a call as one that puts a value, of which it is told whether it swapped
abbrev pub AsPut : SwapCall → Entry → Bool → FrameSeen Global → FrameSeen Global → ℕ → HandleSeen → HandleSeen → Value Global
    → Result (Option (Value Global)) (HandedBack (Value Global)) → Type 0
AsPut call expected swapped old new k none after value (Ok None) = ⊥
AsPut call expected swapped old new k none after value (Ok (Some came)) =
    call old new k expected none after value (Ok (came_as swapped came))
AsPut call expected swapped old new k none after value (Err handed) = call old new k expected none after value (Err handed)

-- As which entry a value is expected: a scalar as its note; or the object that its number names.
abbrev pub IsExpectedAs : ClientSeen → Datum → Entry → Type 0
IsExpectedAs client (Scalar note) entry = entry ≡ noted 0 note
IsExpectedAs client (Object number note) entry =
    OfNamed client number (λ handle. (c : ℕ) × (cell_in client.frame handle.place ≡ Some c) × (entry ≡ noted c note))

-- why it is none: its number names none
abbrev pub ExpectsNone : ClientSeen → Datum → Status → Type 0
ExpectsNone client (Scalar note) status = ⊥
ExpectsNone client (Object number note) status = NamesNone client number status

-- The value went into the object of a number, and what was expected came out; or something else stands there, and the value
-- came back. Both have a number, if they are objects. Or the call was refused, and every number names what it named.
pub record SwapsDatumIf (call : SwapCall) (container : ℕ) (expected datum : Datum) (old new : ClientSeen)
    (answer : Result SwapTold Status) : Type 0 where
  pub swapped : IfOk answer (λ did. (entry : Entry) × IsExpectedAs old expected entry
      × PutsDatum (AsPut call entry did.swapped) old new container datum (Some did.came))
  pub refused : IfErr answer (λ status. (ExpectsNone old expected status × (new ≡ old))
      ⊎ ((entry : Entry) × IsExpectedAs old expected entry
      × PutsNoDatum (AsPut call entry false) old new container datum status))
  pub spent : OnOk answer (SpendsDatumName old new datum)
  pub came : IfOk answer (λ did. NamesDatum new did.came)
  pub handles : OnErr answer (new.handles ≡ old.handles)
  pub numbers : OnErr answer (new.numbers ≡ old.numbers)
