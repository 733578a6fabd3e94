-- When each mistake is one.
use Rattle.std.specs.Prelude.{◌≡◌, ◌<◌, ◌≤◌, ℕ, ◌+◌, Bool, true, false, List, length, take, count_by, Option, Some, None}
use Rattle.std.specs.Str.{bytes_eq}
use Rattle.std.specs.List.{list_any}
use Rattle.brc_words.specs.declared.limits.TheConstants.{MOST_INPUT}
use Rattle.brc_script.specs.declared.limits.TheConstants.{MOST_SECTIONS}
use Rattle.brc_script.specs.Walks.{lines_of}
use Rattle.brc_text.specs.declared.excerpt.TheConstants.{MOST_SHOWN}
use Rattle.brc_mistakes.specs.declared.line_opening.Opening.{Opening}
use Rattle.brc_mistakes.specs.declared.line_opening.Opening.TheVariants as openings
use Rattle.brc_mistakes.specs.declared.operand.Operand.{Operand}
use Rattle.brc_mistakes.specs.declared.mistake.Mistake.{Mistake}
use Rattle.brc_mistakes.specs.declared.mistake.Mistake.TheVariants as mistakes
use Rattle.brc_mistakes.specs.Openings.{opening_at}
use Rattle.brc_mistakes.specs.Operands.{fits, is_a_number, begins_with, begins_with_zero}
use Rattle.brc_mistakes.specs.Nearness.{nearest_to}
use Rattle.brc_mistakes.specs.Words.{first_word, opening_of, has_form, HasWord, NamesTwice}
use Rattle.brc_mistakes.specs.Bytes.{is_comment, IsOddComment, HasByte, HasOddByte, HasWideSpace}
use Rattle.brc_mistakes.specs.Places.{LineSpot, spot, section_name, begins_section, last_turn, is_repeat, is_end}
use Rattle.brc_mistakes.specs.Places.{first_turn}

-- the first bytes of a word, as they are shown
abbrev pub IsShownOf : List ℕ → List ℕ → Type 0
IsShownOf word shown = shown ≡ take MOST_SHOWN word

-- no line begins with the word, of which the front is shown, and this is the nearest with which lines do; the line is
-- not empty and no comment
pub record IsNoOpening (line shown : List ℕ) (nearest : Option Opening) : Type 0 where
  pub some : 0 < length line
  pub no_comment : is_comment line ≡ false
  pub none : opening_at (first_word line) ≡ None
  pub front : IsShownOf (first_word line) shown
  pub near : nearest ≡ nearest_to (first_word line)

pub record LacksForm (line : List ℕ) (opening : Opening) : Type 0 where
  pub begins : opening_of line ≡ Some opening
  pub formless : has_form opening line ≡ false

-- what the word is to be, and doesn't fit
pub record IsUnfit (wanted : Operand) (shown : List ℕ) (operand : Operand) (word : List ℕ) : Type 0 where
  pub is : operand ≡ wanted
  pub unfit : fits operand word ≡ false
  pub front : IsShownOf word shown

-- the word is no number that could stand there, and this is so of it
pub record IsNoNumber (IsSo : List ℕ → Bool) (shown : List ℕ) (operand : Operand) (word : List ℕ) : Type 0 where
  pub number : is_a_number operand ≡ true
  pub unfit : fits operand word ≡ false
  pub so : IsSo word ≡ true
  pub front : IsShownOf word shown

-- the mistake is one of this word, which is to be this
abbrev pub IsOfWord : Operand → List ℕ → Mistake → Type 0
IsOfWord operand word (mistakes.LeadingZero shown) = IsNoNumber begins_with_zero shown operand word
IsOfWord operand word (mistakes.PlusSign shown) = IsNoNumber (begins_with 43) shown operand word
IsOfWord operand word (mistakes.Unfit shown wanted) = IsUnfit wanted shown operand word
IsOfWord operand word _ = ⊥

-- no section begins above a line that doesn't begin one
pub record StandsFirst (at : LineSpot) : Type 0 where
  pub begins_none : begins_section at.line ≡ false
  pub none_above : count_by begins_section at.above ≡ 0

-- a line above begins a section too, and is the same
pub record HasSameName (at : LineSpot) (shown : List ℕ) : Type 0 where
  pub begins : opening_of at.line ≡ Some openings.Section
  pub above : list_any (bytes_eq at.line) at.above ≡ true
  pub front : IsShownOf (section_name at.line) shown

pub record IsOneTooMany (at : LineSpot) : Type 0 where
  pub begins : opening_of at.line ≡ Some openings.Section
  pub above : MOST_SECTIONS ≤ count_by begins_section at.above

-- the last line above that could say so doesn't open a `repeat`
pub record EndsNothing (at : LineSpot) : Type 0 where
  pub ends : opening_of at.line ≡ Some openings.End
  pub none_open : is_repeat (last_turn at.above) ≡ false

-- a `repeat` behind which no line ends it, or begins a section or another
pub record IsNeverClosed (at : LineSpot) : Type 0 where
  pub repeats : opening_of at.line ≡ Some openings.Repeat
  pub none : first_turn (at.number + 1) at.below ≡ None

-- a `repeat` behind which the first line that ends it, begins a section or another, has this number and doesn't end it
pub record IsNotClosed (at : LineSpot) (turn : Opening) (number : ℕ) : Type 0 where
  pub repeats : opening_of at.line ≡ Some openings.Repeat
  pub first : first_turn (at.number + 1) at.below ≡ Some (number, turn)
  pub no_end : is_end turn ≡ false

-- the mistake is one of this line, where it stands
abbrev pub IsMistakeAt : LineSpot → Mistake → Type 0
IsMistakeAt at mistakes.TooLong = MOST_INPUT < length at.text
IsMistakeAt at mistakes.NoSection = list_any begins_section (lines_of at.text) ≡ false
IsMistakeAt at mistakes.OddComment = IsOddComment at.line
IsMistakeAt at mistakes.CarriageReturn = HasByte 13 at.line
IsMistakeAt at mistakes.Tab = HasByte 9 at.line
IsMistakeAt at mistakes.OddByte = HasOddByte at.line
IsMistakeAt at mistakes.WideSpace = HasWideSpace at.line
IsMistakeAt at (mistakes.NoInstruction shown nearest) = IsNoOpening at.line shown nearest
IsMistakeAt at (mistakes.NotItsForm opening) = LacksForm at.line opening
IsMistakeAt at (mistakes.LeadingZero shown) = HasWord at.line (IsNoNumber begins_with_zero shown)
IsMistakeAt at (mistakes.PlusSign shown) = HasWord at.line (IsNoNumber (begins_with 43) shown)
IsMistakeAt at (mistakes.Unfit shown operand) = HasWord at.line (IsUnfit operand shown)
IsMistakeAt at (mistakes.Twice register) = NamesTwice at.line register
IsMistakeAt at mistakes.BeforeSections = StandsFirst at
IsMistakeAt at (mistakes.SameName shown) = HasSameName at shown
IsMistakeAt at mistakes.TooManySections = IsOneTooMany at
IsMistakeAt at mistakes.NoRepeat = EndsNothing at
IsMistakeAt at mistakes.NeverClosed = IsNeverClosed at
IsMistakeAt at (mistakes.NotClosedBefore turn number) = IsNotClosed at turn number

-- the mistake is one of the line with this number, counted from 1, or of the whole text
abbrev pub IsMistake : List ℕ → ℕ → Mistake → Type 0
IsMistake text number mistake = IsMistakeAt (spot text number) mistake

-- it is one of a line of these bytes, wherever it stands
abbrev pub IsOfLine : List ℕ → Mistake → Type 0
IsOfLine line mistake = (at : LineSpot) → IsMistakeAt (record at { line = line }) mistake
