-- What a search for cycles has seen.
use Rattle.std.specs.Prelude.{◌≡◌, ◌<◌, ◌≤◌, ℕ, List, [], ◌∷◌, ◌+◌, ◌++◌, if◌then◌else◌, ◌⊎◌, Bool, true, false, ◌||◌}
use Rattle.std.specs.Prelude.{◌==◌, Option, Some, None, take, drop, length, slice_index}
use Rattle.brc_report.specs.declared.content.Remain.{Remain}
use Rattle.brc_report.specs.Holding.{has}
use Rattle.brc_report.specs.Cycles.{Walk, CycleAt}

-- how often the cell stands among the cells
abbrev pub times : List ℕ → ℕ → ℕ
times [] cell = 0
times (other ∷ cells) cell = if other == cell then 1 + times cells cell else times cells cell

-- how many of the remains weren't seen
abbrev pub unseen : (ℕ → Bool) → List Remain → ℕ
unseen seen [] = 0
unseen seen (remain ∷ remains) = if seen remain.cell then unseen seen remains else 1 + unseen seen remains

-- a walk so far: over cells that weren't seen before it, no cell twice, and these are seen now besides
pub record Walking (holder : ℕ → Option ℕ) (before now : ℕ → Bool) (from : ℕ) (path : List ℕ) (to : ℕ) : Type 0 where
  pub walk : Walk holder from path to
  pub seen : (cell : ℕ) → now cell ≡ (before cell || has path cell)
  pub fresh : (cell : ℕ) → has path cell ≡ true → before cell ≡ false
  pub apart : (cell : ℕ) → times path cell ≤ 1

-- nothing new comes of going on there: the cell was seen, or has no holder
abbrev pub IsSettled : (ℕ → Option ℕ) → (ℕ → Bool) → ℕ → Type 0
IsSettled holder seen cell = (seen cell ≡ true) ⊎ (holder cell ≡ None)

-- a walk that can't go on
pub record Walked (holder : ℕ → Option ℕ) (before now : ℕ → Bool) (from : ℕ) (path : List ℕ) (to : ℕ) : Type 0 where
  pub way : Walking holder before now from path to
  pub ends : IsSettled holder now to

-- walks go on from what was seen to what was seen; the cycles that begin at cells that were seen are found
pub record WalksAreKnown (holder : ℕ → Option ℕ) (seen : ℕ → Bool) (found : ℕ → Option (List ℕ)) : Type 0 where
  pub goes_on : (cell next : ℕ) → seen cell ≡ true → holder cell ≡ Some next → IsSettled holder seen next
  pub told : (cell : ℕ) → seen cell ≡ true → CycleAt holder cell (found cell)
  pub untold : (cell : ℕ) → seen cell ≡ false → found cell ≡ None

-- the cells from their lowest on, and then those before it
pub record IsTurned (cells turned : List ℕ) : Type 0 where
  pub at : ℕ
  pub within : at < length cells
  pub is : turned ≡ drop at cells ++ take at cells
  pub lowest : (cell : ℕ) → has cells cell ≡ true → slice_index cells at ≤ cell

-- a walk ended at one of its own places, and from there on it is found, turned to begin with its lowest cell
pub record IsKeptFrom (path : List ℕ) (to : ℕ) (found new : ℕ → Option (List ℕ)) : Type 0 where
  pub place : ℕ
  pub within : place < length path
  pub at : slice_index path place ≡ to
  pub first : ℕ
  pub others : List ℕ
  pub turned : IsTurned (drop place path) (first ∷ others)
  pub put : (cell : ℕ) → new cell ≡ (if first == cell then Some (first ∷ others) else found cell)

-- of a walk that ended within itself, one cycle more is found; of another walk none is
abbrev pub IsKept : List ℕ → ℕ → (ℕ → Option (List ℕ)) → (ℕ → Option (List ℕ)) → Type 0
IsKept path to found new =
    ((has path to ≡ false) × ((cell : ℕ) → new cell ≡ found cell)) ⊎ IsKeptFrom path to found new
