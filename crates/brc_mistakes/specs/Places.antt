-- Where a line stands.
use Rattle.std.specs.Prelude.{ℕ, ◌+◌, ◌-◌, Bool, true, false, List, [], ◌∷◌, take, drop, slice_index_or, Option}
use Rattle.std.specs.Prelude.{Some, None}
use Rattle.brc_text.specs.Tokens.{or_else}
use Rattle.brc_script.specs.Walks.{lines_of}
use Rattle.brc_mistakes.specs.declared.line_opening.Opening.{Opening}
use Rattle.brc_mistakes.specs.declared.line_opening.Opening.TheVariants as openings
use Rattle.brc_mistakes.specs.Words.{opening_of, behind}

-- ---- a line and the lines around it

-- a line of a text: its number, what it says, and the lines above and below it
pub record LineSpot : Type 0 where
  pub text : List ℕ
  pub number : ℕ
  pub above : List (List ℕ)
  pub line : List ℕ
  pub below : List (List ℕ)

-- the lines of the text above this number, counted from 1, and those from it on
abbrev pub lines_above : ℕ → List ℕ → List (List ℕ)
lines_above number text = take (number - 1) (lines_of text)

abbrev pub lines_from : ℕ → List ℕ → List (List ℕ)
lines_from number text = drop (number - 1) (lines_of text)

-- the line with this number is the first of these
abbrev pub spot_by : List ℕ → ℕ → List (List ℕ) → LineSpot
spot_by text number lines = record {
  text = text;
  number = number;
  above = lines_above number text;
  line = slice_index_or lines 0 [];
  below = drop 1 lines;
}

abbrev pub spot : List ℕ → ℕ → LineSpot
spot text number = spot_by text number (lines_from number text)

-- ---- sections and repeats

-- what stands behind the line's first space, if anything does
abbrev pub or_nothing : Option (List ℕ) → List ℕ
or_nothing None = []
or_nothing (Some bytes) = bytes

abbrev pub section_name : List ℕ → List ℕ
section_name line = or_nothing (behind 1 line)

abbrev pub is_section : Option Opening → Bool
is_section (Some openings.Section) = true
is_section _ = false

abbrev pub begins_section : List ℕ → Bool
begins_section line = is_section (opening_of line)

-- a line that begins with `section`, `repeat` or `end` says whether a `repeat` is open behind it
abbrev pub turn_by : Option Opening → Option Opening
turn_by (Some openings.Section) = Some openings.Section
turn_by (Some openings.Repeat) = Some openings.Repeat
turn_by (Some openings.End) = Some openings.End
turn_by _ = None

abbrev pub turn_of : List ℕ → Option Opening
turn_of line = turn_by (opening_of line)

-- the last such line says this
unfoldable pub last_turn : List (List ℕ) → Option Opening
last_turn [] = None
last_turn (line ∷ lines) = or_else (last_turn lines) (turn_of line)

abbrev pub is_repeat : Option Opening → Bool
is_repeat (Some openings.Repeat) = true
is_repeat _ = false

abbrev pub is_end : Opening → Bool
is_end openings.End = true
is_end _ = false

-- the first such line: its number, where the first of the lines has this one, and what it says
abbrev pub numbered : ℕ → Option Opening → Option (ℕ × Opening)
numbered number None = None
numbered number (Some turn) = Some (number, turn)

unfoldable pub first_turn : ℕ → List (List ℕ) → Option (ℕ × Opening)
first_turn number [] = None
first_turn number (line ∷ lines) = or_else (numbered number (turn_of line)) (first_turn (number + 1) lines)
