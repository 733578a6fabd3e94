-- Why lines that share nothing halt for want of room: a cell for a new object, a place of the frame, or one birth more.
use Rattle.std.specs.Prelude.{◌≤◌, Result, IfErr}
use Rattle.brc_words.specs.declared.fault.Fault.{Fault}
use Rattle.brc_words.specs.declared.fault.Fault.TheVariants as faults
use Rattle.brc_words.specs.declared.limits.TheConstants.{MOST_BIRTHS}
use Rattle.brc_count.specs.Frames.{FrameSeen, ledger_seen}
use Rattle.brc_count.specs.law.living.Later.{IsLater}
use Rattle.brc_instructions.specs.Causes.{Caused}
pub use Rattle.brc_instructions.specs.Causes.{NoneWasFree}
use Rattle.brc_section.specs.declared.running.Halt.{Halt}

module _ {A : Type 0} where
  -- The thread's log went on; and where a line halted the others for want of room, that has its cause.
  pub record HaltsForCause (old new : FrameSeen A) (result : Result (Unit {0}) Halt) : Type 0 where
    pub later : IsLater old.seat.log new.seat.log
    pub caused : IfErr result (λ halt. Caused old new halt.fault)

  -- What is told of it once the registers are released: HeapFull comes after a search that found no mortal cell
  -- free, LedgerFull where the thread has made 2^47 objects since it was registered. FrameFull doesn't come, with
  -- sixteen registers at most.
  abbrev pub CauseLeft : FrameSeen A → FrameSeen A → Fault → Type 0
  CauseLeft old new faults.HeapFull = NoneWasFree old.heap.cells old.seat.log new.seat.log
  CauseLeft old new faults.FrameFull = ⊥
  CauseLeft old new faults.LedgerFull = MOST_BIRTHS ≤ (ledger_seen new).allocs
  CauseLeft old new _ = Unit {0}
