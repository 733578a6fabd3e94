-- The cells of a cycle.
use Rattle.std.specs.Prelude.{ℕ, zero, suc, ◌++◌, List, [], ◌∷◌, Option, Some, None}
use Rattle.brc_words.specs.declared.limits.TheConstants.{MOST_CELLS}
use Rattle.brc_text.specs.Tokens.{◌>>=◌}
use Rattle.brc_text.specs.Lines.{cut}
use Rattle.brc_graph.specs.declared.cells.TheConstants.{HIGHEST_CELL}
use Rattle.brc_graph.specs.Operands.{within}

-- the cells so far are all where nothing stands behind the last one, and else the others follow
abbrev pub followed : (List ℕ → List ℕ → Option (List ℕ)) → List ℕ → Option (List ℕ) → Option (List ℕ)
followed others cells None = Some cells
followed others cells (Some rest) = others cells rest

-- so many cells at most, behind those so far, with one space between two
unfoldable pub cells_from : ℕ → List ℕ → List ℕ → Option (List ℕ)
cells_from zero before bytes = None
cells_from (suc most) before bytes =
    within 0 HIGHEST_CELL (cut 32 bytes).0
    >>= λ cell. followed (cells_from most) (before ++ cell ∷ []) (cut 32 bytes).1

abbrev pub cells_at : List ℕ → Option (List ℕ)
cells_at bytes = cells_from MOST_CELLS [] bytes
