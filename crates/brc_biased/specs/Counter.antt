-- What contracts see of a counter, and what it keeps.
use Rattle.std.specs.Prelude.{◌≡◌, ◌<◌, ◌≤◌, ℕ, nat_lt, if◌then◌else◌, true, List, length, slice_index}
use Rattle.brc_words.specs.declared.limits.TheConstants.{FIRST_MORTAL, IMMORTAL_LOCAL}
use Rattle.brc_table.specs.law.world.Heap.{words_for}
use Rattle.brc_table.specs.law.world.Lists.{bit_of}
use Rattle.brc_table.specs.law.world.Steps.{is_active}
use Rattle.brc_table.specs.law.declared.rule.told.LogItem.{LogItem}
use Rattle.brc_table.specs.law.rule.Seen.{part_seen, counts_seen}
use Rattle.brc_table.specs.Seated.{TableSeen, SeatSeen}

-- the table, and the thread's seat at it
pub record CounterSeen (A : Type 0) : Type 0 where
  pub heap : TableSeen
  pub seat : SeatSeen A

-- the heap of a seat, with its sizes
abbrev pub heap_of : {A : Type 0} → SeatSeen A → ℕ → ℕ → TableSeen
heap_of seat cells limit = record { table = seat.table; cells = cells; local_limit = limit }

-- the thread counts the mortal object, with more than one reference
abbrev pub CountsMore : ℕ → List LogItem → ℕ → Type 0
CountsMore n log c = (FIRST_MORTAL ≤ c) × (1 < counts_seen n log c)

-- The number kept for a mortal cell is the thread's local count of it, as its log tells it: 0 where the thread has none.
-- The number kept for an immortal is above each limit (PEP 703, "Immortal objects").
pub record CountsFit (n : ℕ) (log : List LogItem) (counts : List ℕ) : Type 0 where
  pub wide : length counts ≡ n
  pub immortal : (c : ℕ) → c < FIRST_MORTAL → c < n → slice_index counts c ≡ IMMORTAL_LOCAL
  pub mortal : (c : ℕ) → FIRST_MORTAL ≤ c → c < n → slice_index counts c ≡ counts_seen n log c
  pub active : (c : ℕ) → FIRST_MORTAL ≤ c → c < n → 0 < counts_seen n log c
      → is_active (part_seen n log).row.stage ≡ true

-- a mortal cell that the thread counts has its owned bit set
pub record AreOwned (n : ℕ) (counts owned : List ℕ) : Type 0 where
  pub words : length owned ≡ words_for n
  pub marked : (c : ℕ) → FIRST_MORTAL ≤ c → c < n → 0 < slice_index counts c → bit_of owned c ≡ 1

-- what a counter keeps
pub record Counting (A : Type 0) (heap : TableSeen) (seat : SeatSeen A) (counts owned : List ℕ) : Type 0 where
  pub same_table : seat.table ≡ heap.table
  pub fit : CountsFit heap.cells seat.log counts
  pub owns : AreOwned heap.cells counts owned

-- the number kept for a cell before the thread counts anything
abbrev pub first_count : ℕ → ℕ
first_count c = if nat_lt c FIRST_MORTAL then IMMORTAL_LOCAL else 0
