-- Cells among cells.
use Rattle.std.proofs.Common.{◌≡◌, ◌<◌, ◌≤◌, ◌+◌, ◌++◌, ◌⊎◌, inl, inr, ℕ, zero, suc, List, [], ◌∷◌, true, false, ◌||◌}
use Rattle.std.proofs.Common.{refl, arith, length, drop, slice_index}
use Rattle.brc_report.specs.Holding.{has}
use Rattle.brc_report.specs.Walking.{times}

pub is_first_or_later : (first : ℕ) (cells : List ℕ) (cell : ℕ) → has (first ∷ cells) cell ≡ true
    → (first ≡ cell) ⊎ (has cells cell ≡ true)
is_first_or_later first cells cell h = grind arith

pub has_first : (first : ℕ) (cells : List ℕ) → has (first ∷ cells) first ≡ true
has_first first cells = grind arith

pub has_later : (first : ℕ) (cells : List ℕ) (cell : ℕ) → has cells cell ≡ true → has (first ∷ cells) cell ≡ true
has_later first cells cell h = grind arith

pub has_none : (cell : ℕ) → has [] cell ≡ false
has_none cell = refl

pub has_both : (front back : List ℕ) (cell : ℕ) → has (front ++ back) cell ≡ (has front cell || has back cell)
has_both [] back cell = refl
has_both (first ∷ front) back cell = grind (arith, has_both front back cell)

pub has_turned : (front back : List ℕ) (cell : ℕ) → has (front ++ back) cell ≡ has (back ++ front) cell
has_turned front back cell = grind (arith, has_both front back cell, has_both back front cell)

pub count_both : (front back : List ℕ) (cell : ℕ)
    → times (front ++ back) cell
    ≡ times front cell + times back cell
count_both [] back cell = grind arith
count_both (first ∷ front) back cell = grind (arith, count_both front back cell)

pub counted : (cells : List ℕ) (cell : ℕ) → has cells cell ≡ true → 1 ≤ times cells cell
counted [] cell h = grind arith
counted (first ∷ cells) cell h = grind (arith, counted cells cell)

pub uncounted : (cells : List ℕ) (cell : ℕ) → has cells cell ≡ false → times cells cell ≡ 0
uncounted [] cell h = refl
uncounted (first ∷ cells) cell h = grind (arith, uncounted cells cell)

-- a cell among the cells stands at an index
pub stands_at : (cells : List ℕ) (cell : ℕ) → has cells cell ≡ true
    → (index : ℕ) × (index < length cells) × (slice_index cells index ≡ cell)
stands_at [] cell h = absurd (cc)
stands_at (first ∷ cells) cell h = elim (is_first_or_later first cells cell h) [
  | inl same ↦ (0, omega arith, same)
  | inr later ↦ let there = stands_at cells cell later in (suc there.0, omega arith, there.2)
]

-- a list from a place on begins with what stands there
pub drop_begins : (cells : List ℕ) (place : ℕ) → place < length cells
    → (rest : List ℕ) × (drop place cells ≡ slice_index cells place ∷ rest)
drop_begins [] place within = absurd (omega arith)
drop_begins (first ∷ cells) zero within = (cells, refl)
drop_begins (first ∷ cells) (suc place) within = drop_begins cells place (omega arith)

-- what stands from a place on stands there, and there no more often
pub drop_has : (cells : List ℕ) (place cell : ℕ) → has (drop place cells) cell ≡ true → has cells cell ≡ true
drop_has cells zero cell h = h
drop_has [] (suc place) cell h = h
drop_has (first ∷ cells) (suc place) cell h = has_later first cells cell (drop_has cells place cell h)

pub drop_times : (cells : List ℕ) (place cell : ℕ) → times (drop place cells) cell ≤ times cells cell
drop_times cells zero cell = omega arith
drop_times [] (suc place) cell = omega arith
drop_times (first ∷ cells) (suc place) cell = grind (arith, drop_times cells place cell)

pub times_later : (first : ℕ) (cells : List ℕ) → has cells first ≡ true → 2 ≤ times (first ∷ cells) first
times_later first cells h = grind (arith, counted cells first)
