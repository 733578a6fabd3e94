-- What a thread has locked, as its own items tell it: the place of its frame, with the entries that the locking found.
use Rattle.std.specs.Prelude.{◌≡◌, ℕ, List, [], ◌∷◌, Option, Some, None}
use Rattle.law.specs.declared.world.event.Step.TheVariants.{Lock, Unlock}
use Rattle.law.specs.world.Lists.{place_at}
use Rattle.law.specs.world.Heap.{Heap, entries_at}
use Rattle.law.specs.world.Steps.{locked_at}
use Rattle.law.specs.known.Items.{Item, Stepped, part_of}
use Rattle.law.specs.known.Taken.{listed_at, taken_of}

abbrev pub locked_on : Item → Option (ℕ × List ℕ) → Option (ℕ × List ℕ)
locked_on (Stepped (Lock k) number entries) before = Some (k, entries)
locked_on (Stepped (Unlock change) number entries) before = None
locked_on x before = before

-- the newest of the thread's lockings and unlockings
abbrev pub locked_of : List Item → Option (ℕ × List ℕ)
locked_of [] = None
locked_of (x ∷ items) = locked_on x (locked_of items)

abbrev pub place_locked : Option (ℕ × List ℕ) → Option ℕ
place_locked None = None
place_locked (Some lock) = Some lock.0

-- The locked place has a cell: the one that the world has locked, with the entries found; in the thread's own part
-- these stand too, and its block is on no worklist.
pub record KnowsWhatIsLocked (cells : ℕ) (h : Heap) (t : ℕ) (log : List Item) (place : ℕ)
    (entries : List ℕ) : Type 0 where
  pub cell : ℕ
  pub names : place_at (part_of cells log).frame place ≡ Some cell
  pub locked : locked_at h t ≡ Some cell
  pub has : entries_at h cell ≡ entries
  pub part_has : (part_of cells log).has cell ≡ entries
  pub unlisted : listed_at (taken_of cells log) cell ≡ None
