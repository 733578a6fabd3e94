-- The words of a line: a space stands before each but the first.
use Rattle.std.specs.Prelude.{◌≡◌, ◌<◌, ℕ, zero, suc, ◌+◌, ◌&&◌, ◌||◌, not, Bool, true, false, List, length, Option}
use Rattle.std.specs.Prelude.{Some, None, is_some, slice_get}
use Rattle.brc_text.specs.Tokens.{◌>>=◌}
use Rattle.brc_text.specs.Lines.{cut}
use Rattle.brc_script.specs.Operands.{register_at}
use Rattle.brc_mistakes.specs.declared.line_opening.Opening.{Opening}
use Rattle.brc_mistakes.specs.declared.line_opening.Opening.TheVariants as openings
use Rattle.brc_mistakes.specs.declared.operand.Operand.{Operand}
use Rattle.brc_mistakes.specs.declared.operand.Operand.TheVariants as operands
use Rattle.brc_mistakes.specs.Openings.{operands_of, opening_at}

-- the line's first word, and the opening that it spells
abbrev pub first_word : List ℕ → List ℕ
first_word line = (cut 32 line).0

unfoldable pub opening_of : List ℕ → Option Opening
opening_of line = opening_at (first_word line)

-- what stands behind so many spaces of the line
abbrev pub behind_one : Option (List ℕ) → Option (List ℕ)
behind_one None = None
behind_one (Some bytes) = (cut 32 bytes).1

unfoldable pub behind : ℕ → List ℕ → Option (List ℕ)
behind zero line = Some line
behind (suc spaces) line = behind_one (behind spaces line)

abbrev pub is_text_line : Opening → Bool
is_text_line openings.Text = true
is_text_line _ = false

-- as many words stand behind the first as its form has; the last of a text's line goes to the line's end
abbrev pub has_form : Opening → List ℕ → Bool
has_form opening line =
    is_some (behind (length (operands_of opening)) line)
    && (is_text_line opening || not (is_some (behind (length (operands_of opening) + 1) line)))

-- the word behind so many spaces, where it is to be this; a text goes to the line's end
abbrev pub up_to_space : Operand → List ℕ → List ℕ
up_to_space operands.Text rest = rest
up_to_space _ rest = (cut 32 rest).0

abbrev pub operand_at : Operand → ℕ → List ℕ → Option (List ℕ)
operand_at operand spaces line = behind spaces line >>= λ rest. Some (up_to_space operand rest)

-- a word of the line is to be this by the form of its first word, and what is said is so of it
pub record HasWord (line : List ℕ) (IsSo : Operand → List ℕ → Type 0) : Type 0 where
  pub opening : Opening
  pub begins : opening_of line ≡ Some opening
  pub at : ℕ
  pub operand : Operand
  pub is_to_be : slice_get (operands_of opening) at ≡ Some operand
  pub word : List ℕ
  pub stands : operand_at operand (at + 1) line ≡ Some word
  pub so : IsSo operand word

-- the register at a place of the line, where its form has one there
abbrev pub register_by : Option Operand → Option (List ℕ) → Option ℕ
register_by (Some operands.Register) (Some word) = register_at word
register_by _ _ = None

unfoldable pub register_of : Opening → ℕ → List ℕ → Option ℕ
register_of opening at line =
    register_by (slice_get (operands_of opening) at) (operand_at operands.Register (at + 1) line)

-- the line names this register at two places
pub record NamesTwice (line : List ℕ) (register : ℕ) : Type 0 where
  pub opening : Opening
  pub begins : opening_of line ≡ Some opening
  pub first : ℕ
  pub second : ℕ
  pub before : first < second
  pub at_first : register_of opening first line ≡ Some register
  pub at_second : register_of opening second line ≡ Some register
