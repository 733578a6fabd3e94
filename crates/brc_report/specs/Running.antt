-- Where walks along the holders end, where the globals hold nothing.
use Rattle.std.specs.Prelude.{◌≡◌, ◌++◌, ◌⊎◌, ℕ, List, [], ◌∷◌, Some}
use Rattle.brc_words.specs.declared.limits.TheConstants.{GLOBALS}
use Rattle.brc_report.specs.declared.content.Content.{Content}
use Rattle.brc_report.specs.declared.content.Remain.{Remain}
use Rattle.brc_report.specs.Cycles.{holder_in, Walk}

-- what the first of the contents, the globals, has
abbrev pub entries_of_first : {A : Type 0} → List (Content A) → List ℕ
entries_of_first [] = []
entries_of_first (content ∷ contents) = content.entries

-- a walk along the holders comes to the first cell of a cycle that is listed
pub record RunsInto (remains : List Remain) (cycles : List (List ℕ)) (from : ℕ) : Type 0 where
  pub first : ℕ
  pub others : List ℕ
  pub path : List ℕ
  pub walk : Walk (holder_in remains) from path first
  pub before : List (List ℕ)
  pub behind : List (List ℕ)
  pub listed : cycles ≡ before ++ (first ∷ others) ∷ behind

-- the globals, or a remain
abbrev pub IsHolder : List Remain → ℕ → Type 0
IsHolder remains cell = (cell ≡ GLOBALS) ⊎ ((holder : ℕ) × (holder_in remains cell ≡ Some holder))
