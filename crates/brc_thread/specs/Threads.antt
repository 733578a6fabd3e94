-- When a thread is refused, and what is left of one that is done.
use Rattle.std.specs.Prelude.{◌≡◌, ◌⊎◌, ◌<◌, ◌≤◌, ℕ, List, []}
use Rattle.brc_words.specs.declared.fault.Fault.{Fault}
use Rattle.brc_words.specs.declared.fault.Fault.TheVariants.{TooManyThreads, OutOfMemory}
use Rattle.brc_words.specs.declared.limits.TheConstants.{MOST_THREADS, MOST_REGISTRATIONS}
use Rattle.brc_count.specs.law.declared.rule.told.LogItem.{LogItem}
use Rattle.brc_count.specs.law.rule.Seen.{part_seen}
use Rattle.brc_count.specs.law.steps.Joining.{next_thread, registrations, HasLeft}
use Rattle.brc_count.specs.table.Seated.{TableSeen, SeatSeen, RootSeen, view_of}
use Rattle.brc_count.specs.declared.ledger.Ledger.{Ledger}

-- a thread is refused if 64 numbers are in use, or if 65,536 threads were registered; or memory was missing
abbrev pub RefusesThread : RootSeen → Fault → Type 0
RefusesThread root TooManyThreads =
    (MOST_THREADS < next_thread root.view) ⊎ (MOST_REGISTRATIONS ≤ registrations root.view)
RefusesThread root OutOfMemory = (next_thread root.view ≤ MOST_THREADS) × (registrations root.view < MOST_REGISTRATIONS)
RefusesThread root _ = ⊥

-- how many objects a thread made that did this, and how many cells it gave back
abbrev pub ledger_of : ℕ → List LogItem → Ledger
ledger_of n log = record { allocs = (part_seen n log).row.allocs; frees = (part_seen n log).row.frees }

-- the heap of a thread that is done, and its seat with the log of all that it did
pub record RetiredSeen (A : Type 0) : Type 0 where
  pub heap : TableSeen
  pub seat : SeatSeen A

abbrev pub retired_seen : {A : Type 0} → SeatSeen A → ℕ → ℕ → RetiredSeen A
retired_seen seat cells limit = record {
  heap = record { table = seat.table; cells = cells; local_limit = limit };
  seat = seat;
}

-- It has left and holds nothing: its hand is free, nothing is popped, its worklist is empty, and no slot is out.
pub record Retires (A : Type 0) (seat : SeatSeen A) (cells : ℕ) (ledger : Ledger) : Type 0 where
  pub leaves : HasLeft cells (view_of seat)
  pub bare : seat.slots ≡ []
  pub counted : ledger ≡ ledger_of cells seat.log
