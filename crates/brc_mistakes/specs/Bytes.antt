-- The bytes of a line.
use Rattle.std.specs.Prelude.{◌≡◌, ◌≤◌, ℕ, ◌==◌, Bool, true, false, List, ◌∷◌, length, min, slice_index_or, Option, Some}
use Rattle.std.specs.List.{list_any, list_all}
use Rattle.brc_script.specs.Instructions.{is_printed}
use Rattle.brc_script.specs.Rows.{is_low}
use Rattle.brc_mistakes.specs.declared.line_opening.Opening.{Opening}
use Rattle.brc_mistakes.specs.declared.line_opening.Opening.TheVariants as openings
use Rattle.brc_mistakes.specs.Operands.{begins_with}
use Rattle.brc_mistakes.specs.Words.{opening_of}

-- a comment begins with `#`
abbrev pub is_comment : List ℕ → Bool
is_comment line = begins_with 35 line

-- a comment with a byte from 128 on
pub record IsOddComment (line : List ℕ) : Type 0 where
  pub comment : is_comment line ≡ true
  pub odd : list_all is_low line ≡ false

-- no comment, and this byte is in it
pub record HasByte (byte : ℕ) (line : List ℕ) : Type 0 where
  pub no_comment : is_comment line ≡ false
  pub has : list_any (λ other. other == byte) line ≡ true

-- no comment, and not all of it is printed
pub record HasOddByte (line : List ℕ) : Type 0 where
  pub no_comment : is_comment line ≡ false
  pub odd : list_all is_printed line ≡ false

-- the byte at an index, and the one before it; a space stands behind the last and before the first
abbrev pub byte_at : List ℕ → ℕ → ℕ
byte_at line at = slice_index_or line at 32

abbrev pub byte_before : List ℕ → ℕ → ℕ
byte_before line at = slice_index_or (32 ∷ line) at 32

-- how far spaces stand between words: a text has spaces of its own, so there only the one behind `text` does
abbrev pub most_spaced : Option Opening → ℕ → ℕ
most_spaced (Some openings.Text) size = min 5 size
most_spaced _ size = size

-- two spaces side by side between words, or one at an end of the line
pub record HasWideSpace (line : List ℕ) : Type 0 where
  pub no_comment : is_comment line ≡ false
  pub at : ℕ
  pub within : at ≤ most_spaced (opening_of line) (length line)
  pub before : byte_before line at ≡ 32
  pub here : byte_at line at ≡ 32
