-- Which remains hold themselves.
use Rattle.std.specs.Prelude.{◌≡◌, ◌<◌, ℕ, List, [], ◌∷◌, true, ◌==◌, if◌then◌else◌, Option, Some, None}
use Rattle.brc_report.specs.declared.content.Remain.{Remain}
use Rattle.brc_report.specs.Holding.{has}

-- who holds a remain; what is no remain has no holder
abbrev pub holder_in : List Remain → ℕ → Option ℕ
holder_in [] cell = None
holder_in (remain ∷ remains) cell = if remain.cell == cell then Some remain.held_by else holder_in remains cell

-- a walk's first step: its first cell is where it begins, and the rest goes on from that cell's holder
pub record WalksOn (holder : ℕ → Option ℕ) (from cell : ℕ) (Rest : ℕ → Type 0) : Type 0 where
  pub is : cell ≡ from
  pub next : ℕ
  pub held : holder from ≡ Some next
  pub rest : Rest next

-- from one cell to another along the holders: each next cell is the holder of the one before, and the last one's
-- holder is where the walk ends
abbrev pub Walk : (ℕ → Option ℕ) → ℕ → List ℕ → ℕ → Type 0
Walk holder from [] to = from ≡ to
Walk holder from (cell ∷ cells) to = WalksOn holder from cell (λ next. Walk holder next cells to)

-- a walk along the holders that comes back to its lowest cell, which begins it
pub record IsCycle (holder : ℕ → Option ℕ) (first : ℕ) (others : List ℕ) : Type 0 where
  pub closed : Walk holder first (first ∷ others) first
  pub lowest : (cell : ℕ) → has others cell ≡ true → first < cell

-- that cycle begins at the cell; or none does
abbrev pub CycleAt : (ℕ → Option ℕ) → ℕ → Option (List ℕ) → Type 0
CycleAt holder first (Some cycle) = (others : List ℕ) × (cycle ≡ first ∷ others) × IsCycle holder first others
CycleAt holder first None = (others : List ℕ) → IsCycle holder first others → ⊥

-- one list in front of those that follow, where there is one
abbrev pub in_front : {X : Type 0} → Option X → List X → List X
in_front None rest = rest
in_front (Some first) rest = first ∷ rest

-- the cycles that begin at these remains, in their order
abbrev pub CyclesAt : (ℕ → Option ℕ) → List Remain → List (List ℕ) → Type 0
CyclesAt holder [] cycles = cycles ≡ []
CyclesAt holder (remain ∷ remains) cycles =
    (cycle : Option (List ℕ)) × (rest : List (List ℕ)) × (cycles ≡ in_front cycle rest)
    × CycleAt holder remain.cell cycle × CyclesAt holder remains rest

-- all cycles of the remains: each once, by rising first cell where the remains rise
abbrev pub AreCycles : List Remain → List (List ℕ) → Type 0
AreCycles remains cycles = CyclesAt (holder_in remains) remains cycles
