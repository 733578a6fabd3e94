-- Where a thread stands in a release, and what one leaves as it was.
use Rattle.std.specs.Prelude.{◌≡◌, ℕ, ◌==◌, if◌then◌else◌, Bool, true, false, List, Some, None, is_some}
use Rattle.brc_table.specs.law.declared.world.event.Dropped.{Dropped}
use Rattle.brc_table.specs.law.declared.world.event.Dropped.TheVariants as drops
use Rattle.brc_table.specs.law.declared.world.row.Hand.{Hand}
use Rattle.brc_table.specs.law.declared.world.row.Hand.TheVariants as hands
use Rattle.brc_table.specs.law.declared.world.row.Stage.{Stage}
use Rattle.brc_table.specs.law.declared.world.row.Stage.TheVariants as stages
use Rattle.brc_table.specs.law.world.Lists.{place_at, is_marked, front_of}
use Rattle.brc_table.specs.law.known.Going_On.{Known, handing, giving_up, taking}
use Rattle.brc_table.specs.law.known.Risen.{drop_in}
use Rattle.brc_table.specs.law.known.Taken.{Blocks, listed_at}
use Rattle.brc_table.specs.law.declared.rule.told.LogItem.{LogItem}
use Rattle.brc_table.specs.law.rule.Seen.{part_seen, counts_seen, risen_seen, taken_seen}

-- a thread that is closing only closes; before that and after it references may go
abbrev pub may_give_up : Stage → Bool
may_give_up stages.Active = true
may_give_up (stages.Closing words) = false
may_give_up stages.Left = true
may_give_up (stages.Opening words) = false

-- references may go: the thread isn't closing, and has nothing locked; and this is in its hand
pub record MayCountDown (n : ℕ) (log : List LogItem) (hand : Hand) : Type 0 where
  pub stage : may_give_up (part_seen n log).row.stage ≡ true
  pub lock : (part_seen n log).row.locked ≡ None
  pub hand_is : (part_seen n log).row.hand ≡ hand

-- the block whose last entry goes is one of the dead blocks that the thread has
abbrev pub is_listed : Dropped → Blocks → Bool
is_listed (drops.Frame k) blocks = true
is_listed (drops.Work d) blocks = is_some (listed_at blocks d)

-- the thread may give up this reference to the cell
pub record MayDrop (n : ℕ) (log : List LogItem) (drop : Dropped) (c : ℕ) : Type 0 where
  pub stands : MayCountDown n log hands.Free
  pub cell : drop_in (part_seen n log) drop ≡ Some c
  pub listed : is_listed drop (taken_seen n log) ≡ true

-- what the thread counts on its own stays as it was
abbrev pub SameCounts : ℕ → List LogItem → List LogItem → Type 0
SameCounts n before log = (c : ℕ) → counts_seen n log c ≡ counts_seen n before c

-- no place of the frame is filled, and what was seen risen in a place is seen so while the place has it
pub record FillsNoPlace (n : ℕ) (before log : List LogItem) : Type 0 where
  pub places : (k c : ℕ) → place_at (part_seen n log).frame k ≡ Some c → place_at (part_seen n before).frame k ≡ Some c
  pub risen : (k c : ℕ) → place_at (part_seen n log).frame k ≡ Some c → risen_seen n before (drops.Frame k) c ≡ true
      → risen_seen n log (drops.Frame k) c ≡ true

-- the hand is free again, and where the object is dead its block is the thread's
abbrev pub ending : Bool → ℕ → List ℕ → Known → Known
ending takes c entries old = handing hands.Free (taking takes c entries old)

-- the reference is gone, and where the object is dead its block is the thread's
abbrev pub released : Bool → Dropped → ℕ → List ℕ → Known → Known
released takes drop c entries old = taking takes c entries (giving_up (Some drop) old)

-- the cell's block is one of the thread's, to be taken apart, and has these entries
pub record HasDead (n : ℕ) (log : List LogItem) (c : ℕ) (entries : List ℕ) : Type 0 where
  pub marked : is_marked (part_seen n log).worklist c ≡ true
  pub has : (part_seen n log).has c ≡ entries

-- the entries that a dead block has once a reference is gone: one less, where it was the block's last entry
abbrev pub entries_left : Dropped → ℕ → List ℕ → List ℕ
entries_left (drops.Frame k) q entries = entries
entries_left (drops.Work d) q entries = if q == d then front_of entries else entries
