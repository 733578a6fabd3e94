-- The rules that a line keeps where no mistake is told of it.
use Rattle.std.specs.Prelude.{◌≡◌, ◌<◌, ℕ, ◌+◌, true, false, List, count_by, slice_get, Some}
use Rattle.std.specs.Str.{bytes_eq}
use Rattle.std.specs.List.{list_any, list_all}
use Rattle.brc_script.specs.declared.limits.TheConstants.{MOST_SECTIONS}
use Rattle.brc_script.specs.Instructions.{is_printed}
use Rattle.brc_script.specs.Rows.{is_idle}
use Rattle.brc_mistakes.specs.declared.line_opening.Opening.{Opening}
use Rattle.brc_mistakes.specs.declared.line_opening.Opening.TheVariants as openings
use Rattle.brc_mistakes.specs.declared.operand.Operand.{Operand}
use Rattle.brc_mistakes.specs.Openings.{operands_of}
use Rattle.brc_mistakes.specs.Operands.{fits}
use Rattle.brc_mistakes.specs.Words.{opening_of, has_form, operand_at, register_of}
use Rattle.brc_mistakes.specs.Places.{LineSpot, begins_section, last_turn, is_repeat, first_turn}

-- ---- the line by itself

-- the word at this place, where there is one, may stand there
abbrev pub IsFitAt : Opening → List ℕ → ℕ → Type 0
IsFitAt opening line at = (operand : Operand) (word : List ℕ) → slice_get (operands_of opening) at ≡ Some operand
    → operand_at operand (at + 1) line ≡ Some word
    → fits operand word ≡ true

-- no register stands at both places
abbrev pub Differ : Opening → List ℕ → ℕ → ℕ → Type 0
Differ opening line first second = (register : ℕ) → register_of opening first line ≡ Some register
    → register_of opening second line ≡ Some register
    → ⊥

-- there are as many words as the form has, each may stand at its place, and no register stands at two
pub record KeepsForm (opening : Opening) (line : List ℕ) : Type 0 where
  pub form : has_form opening line ≡ true
  pub fit : (at : ℕ) → IsFitAt opening line at
  pub differ : (first second : ℕ) → first < second → Differ opening line first second

pub record KeepsWords (line : List ℕ) : Type 0 where
  pub opening : Opening
  pub begins : opening_of line ≡ Some opening
  pub words : KeepsForm opening line

-- unless it is empty or a comment, a line is printed and its words keep their rules
pub record IsGoodLine (line : List ℕ) : Type 0 where
  pub printed : is_idle line ≡ false → list_all is_printed line ≡ true
  pub words : is_idle line ≡ false → KeepsWords line

-- ---- the place where it stands

-- a section's line is new, and fewer than 63 begin above; a section begins above any other line
abbrev pub IsPlacedBy : Opening → LineSpot → Type 0
IsPlacedBy openings.Section at =
    (list_any (bytes_eq at.line) at.above ≡ false) × (count_by begins_section at.above < MOST_SECTIONS)
IsPlacedBy _ at = 0 < count_by begins_section at.above

-- the first line below a `repeat` that ends it, or begins a section or another, ends it
abbrev pub IsClosedBy : Opening → LineSpot → Type 0
IsClosedBy openings.Repeat at = (number : ℕ) × (first_turn (at.number + 1) at.below ≡ Some (number, openings.End))
IsClosedBy openings.End at = is_repeat (last_turn at.above) ≡ true
IsClosedBy _ at = Unit {0}

pub record IsPlaced (at : LineSpot) : Type 0 where
  pub placed : (opening : Opening) → opening_of at.line ≡ Some opening → IsPlacedBy opening at
  pub closed : (opening : Opening) → opening_of at.line ≡ Some opening → IsClosedBy opening at

-- ---- both

pub record KeepsRules (at : LineSpot) : Type 0 where
  pub line : IsGoodLine at.line
  pub place : IsPlaced at
