-- How a section ends.
use Rattle.std.specs.Prelude.{◌≡◌, ℕ, List, [], ◌∷◌, ◌⊎◌}
use Rattle.brc_script.specs.declared.script.Piece.{Piece}
use Rattle.brc_script.specs.declared.script.Piece.TheVariants as pieces
use Rattle.brc_script.specs.Instructions.{NumberedLine}

module _ {A : Type 0} where
  -- it is the number of one of these lines
  abbrev pub IsLineIn : ℕ → List (NumberedLine A) → Type 0
  IsLineIn number [] = ⊥
  IsLineIn number (line ∷ lines) = (line.number ≡ number) ⊎ IsLineIn number lines

  -- it is the number of a line of one of these pieces
  abbrev pub IsLineOf : ℕ → List (Piece A) → Type 0
  IsLineOf number [] = ⊥
  IsLineOf number (pieces.One line ∷ later) = (line.number ≡ number) ⊎ IsLineOf number later
  IsLineOf number (pieces.Repeat times lines ∷ later) = IsLineIn number lines ⊎ IsLineOf number later
