-- Why an instruction wants room: a cell for a new object, a place of the frame for a handle, or one birth more.
use Rattle.std.specs.Prelude.{◌≡◌, ◌≤◌, ℕ, Bool, true, false, List}
use Rattle.brc_words.specs.declared.fault.Fault.{Fault}
use Rattle.brc_words.specs.declared.fault.Fault.TheVariants as faults
use Rattle.brc_words.specs.declared.limits.TheConstants.{MOST_PLACES, MOST_BIRTHS}
use Rattle.brc_count.specs.law.declared.rule.told.LogItem.{LogItem}
use Rattle.brc_count.specs.biased.Seeking.{PassesOver}
use Rattle.brc_count.specs.Frames.{FrameSeen, ledger_seen}
use Rattle.brc_count.specs.law.living.Later.{IsLater}

-- Between these two logs, in a heap of n cells, there was a search for a free cell, in which the thread only looked at
-- free words: of each mortal cell it has a note that it wasn't free.
pub record NoneWasFree (n : ℕ) (old new : List LogItem) : Type 0 where
  pub before : List LogItem
  pub after : List LogItem
  pub began : IsLater old before
  pub searched : PassesOver before n after
  pub ended : IsLater after new

-- HeapFull, FrameFull and LedgerFull: the faults that have a cause to tell
abbrev pub wants_room : Fault → Bool
wants_room faults.HeapFull = true
wants_room faults.FrameFull = true
wants_room faults.LedgerFull = true
wants_room _ = false

abbrev pub WantsNoRoom : Fault → Type 0
WantsNoRoom fault = wants_room fault ≡ false

module _ {A : Type 0} where
  -- HeapFull comes after a search that found no mortal cell free; FrameFull where the frame has 65,536 handles;
  -- LedgerFull where the thread has made 2^47 objects since it was registered. The refused instruction leaves the
  -- frame so.
  abbrev pub Caused : FrameSeen A → FrameSeen A → Fault → Type 0
  Caused old new faults.HeapFull = NoneWasFree old.heap.cells old.seat.log new.seat.log
  Caused old new faults.FrameFull = MOST_PLACES ≤ new.len
  Caused old new faults.LedgerFull = MOST_BIRTHS ≤ (ledger_seen new).allocs
  Caused old new _ = Unit {0}
