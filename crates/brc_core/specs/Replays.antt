-- What a replay says where it gives no world.
use Rattle.std.specs.Prelude.{◌≡◌, ℕ, ◌+◌, ◌-◌, ◌^◌, min, false, List, take, reverse, Some, slice_get}
use Rattle.brc_core.specs.declared.replaying.ReplayFault.{ReplayFault}
use Rattle.brc_core.specs.declared.replaying.ReplayFault.TheVariants as faults
use Rattle.brc_words.specs.declared.fault.Fault.{Fault}
use Rattle.brc_words.specs.declared.fault.Fault.TheVariants as words
use Rattle.brc_words.specs.declared.fault.Reason.TheVariants as reasons
use Rattle.law.specs.declared.world.event.Event.{Event}
use Rattle.law.specs.declared.world.edition.Edition.{Edition}
use Rattle.law.specs.declared.world.edition.Edition.TheVariants as editions
use Rattle.law.specs.world.Heap.{Heap, opening_in, AreOptions}
use Rattle.law.specs.world.Steps.{enabled}
use Rattle.law.specs.world.Runs.{IsRun, world_after}

-- an event stands at this index that isn't enabled there, and those before it are a run
pub record IsFirstNotEnabled (start : Heap) (events : List Event) (at : ℕ) : Type 0 where
  pub event : Event
  pub there : slice_get events at ≡ Some event
  pub earlier : IsRun start (reverse (take at events))
  pub refused : enabled (world_after start (reverse (take at events))) event ≡ false

-- the fault is right: the sizes are none of a heap, or the named event is the first that isn't
-- enabled; or memory is wanting, of which nothing can be said
abbrev pub IsRightIn : Edition → ReplayFault → ℕ → ℕ → List Event → Type 0
IsRightIn edition faults.Options cells limit events = ¬ (AreOptions cells limit)
IsRightIn edition (faults.NotEnabled at) cells limit events =
    IsFirstNotEnabled (opening_in edition cells limit) events at
IsRightIn edition faults.Memory cells limit events = AreOptions cells limit

-- in a heap of the first edition
abbrev pub IsRight : ReplayFault → ℕ → ℕ → List Event → Type 0
IsRight = IsRightIn editions.One

-- the line of a trace on which the event at this index stands, behind the head; lines are told up to this number
abbrev pub line_of : ℕ → ℕ
line_of at = min (at + 2) (2 ^ 32 - 1)

-- the fault as the calls of all rooms answer it
abbrev pub fault_of : ReplayFault → Fault
fault_of faults.Options = words.BadOptions
fault_of (faults.NotEnabled at) = words.BadTrace (line_of at) reasons.NotEnabled
fault_of faults.Memory = words.OutOfMemory
