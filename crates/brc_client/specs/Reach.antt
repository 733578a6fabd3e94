-- How far the places reach that were met. A place outside wasn't met before.
use Rattle.std.specs.Prelude.{◌≡◌, ◌≤◌, ℕ, Bool, true}

pub record ReachSeen : Type 0 where
  pub lowest : ℕ
  pub highest : ℕ

-- not below the lowest, and not above the highest
abbrev pub Reaches : ReachSeen → ℕ → Type 0
Reaches reach place = (reach.lowest ≤ place) × (place ≤ reach.highest)

-- the place is within by now, with all that were; and whether it lay outside
pub record Widened (old new : ReachSeen) (place : ℕ) (outside : Bool) : Type 0 where
  pub here : Reaches new place
  pub others : (other : ℕ) → Reaches old other → Reaches new other
  pub apart : outside ≡ true → Reaches old place → ⊥
