-- What is wrong with a line that isn't one of a trace.
use Rattle.std.specs.Prelude.{◌≡◌, ◌≤◌, ◌<◌, ℕ, zero, suc, ◌+◌, ◌-◌, ◌==◌, Bool, true, false, if◌then◌else◌}
use Rattle.std.specs.Prelude.{List, [], ◌∷◌, length, map, take, Option, Some, None, is_some, slice_index_or}
use Rattle.std.specs.Char.{is_ascii_digit}
use Rattle.std.specs.List.{list_any}
use Rattle.law.specs.declared.world.edition.Edition.{Edition}
use Rattle.law.specs.declared.world.edition.Edition.TheVariants as editions
use Rattle.brc_text.specs.declared.keyword.Keyword.{Keyword}
use Rattle.brc_text.specs.declared.keyword.Keyword.TheVariants as words
use Rattle.brc_text.specs.declared.token.Token.{Token}
use Rattle.brc_text.specs.declared.token.Token.TheVariants as tokens
use Rattle.brc_text.specs.Lines.{cut, tokens_at, pieces}
use Rattle.brc_text.specs.Tokens.{◌>>=◌, token_at}
use Rattle.brc_text.specs.declared.excerpt.TheConstants.{MOST_SHOWN}
use Rattle.brc_trace.specs.Events.{is_two, step_at}
use Rattle.brc_trace.specs.Traces.{head_number, mark_at, by_words}
use Rattle.brc_trace.specs.declared.causes.Cause.{Cause}
use Rattle.brc_trace.specs.declared.causes.Cause.TheVariants as causes

-- ---- the bytes of a line

-- the byte at an index, and the one before it; a space stands behind the last and before the first
abbrev pub byte_at : List ℕ → ℕ → ℕ
byte_at line at = slice_index_or line at 32

abbrev pub byte_before : List ℕ → ℕ → ℕ
byte_before line at = slice_index_or (32 ∷ line) at 32

-- two spaces side by side, or one at an end of the line
pub record HasWideSpace (line : List ℕ) : Type 0 where
  pub at : ℕ
  pub within : at ≤ length line
  pub before : byte_before line at ≡ 32
  pub here : byte_at line at ≡ 32

-- a zero before a digit and behind none
pub record HasLeadingZero (line : List ℕ) : Type 0 where
  pub at : ℕ
  pub before : is_ascii_digit (byte_before line at) ≡ false
  pub here : byte_at line at ≡ 48
  pub behind : is_ascii_digit (byte_at line (at + 1)) ≡ true

-- ---- the words of a line

-- the words with which events of the edition go by, behind their thread
abbrev pub is_step_word : Edition → Keyword → Bool
is_step_word edition words.Claim = true
is_step_word edition words.Local = true
is_step_word edition words.Shared = true
is_step_word edition words.Born = true
is_step_word edition words.Up = true
is_step_word edition words.Down = true
is_step_word edition words.See = true
is_step_word edition words.Free = true
is_step_word edition words.Untie = true
is_step_word edition words.Zero = true
is_step_word edition words.Shup = true
is_step_word edition words.Shdown = true
is_step_word edition words.Ask = true
is_step_word edition words.Last = true
is_step_word edition words.Enq = true
is_step_word edition words.Drain = true
is_step_word edition words.Add = true
is_step_word edition words.Close = true
is_step_word edition words.Nudge = true
is_step_word edition words.Wake = true
is_step_word edition words.Lock = true
is_step_word edition words.Unlock = true
is_step_word edition words.Register = true
is_step_word edition words.Gather = true
is_step_word edition words.Offer = is_two edition
is_step_word edition words.Open = is_two edition
is_step_word edition _ = false

-- the event's word, where the line begins with a number and such a word
abbrev pub event_word : Edition → List Token → Option Keyword
event_word edition (tokens.Number t ∷ tokens.Word word ∷ operands) =
    if is_step_word edition word then Some word else None
event_word edition _ = None

-- a number stands for any other in its place: 1 is in each range
abbrev pub form : Token → Token
form (tokens.Number n) = tokens.Number 1
form (tokens.Negative n) = tokens.Negative n
form (tokens.Place letter n) = tokens.Place letter 1
form (tokens.Word word) = tokens.Word word

-- the words are those of an event, but for the sizes of numbers
abbrev pub has_form : Edition → List Token → Bool
has_form edition (tokens.Number t ∷ tokens.Word word ∷ operands) = is_some (step_at edition word (map form operands))
has_form edition _ = false

-- ---- the words of a line that can't be read

-- the text behind so many words; none where the line has no more
unfoldable pub behind_words : ℕ → List ℕ → Option (List ℕ)
behind_words zero line = Some line
behind_words (suc n) line = behind_words n line >>= λ rest. (cut 32 rest).1

-- the word with this number, from 0 on
abbrev pub word_at : ℕ → List ℕ → Option (List ℕ)
word_at n line = behind_words n line >>= λ rest. Some (cut 32 rest).0

-- the first word of the line that is none of a trace begins with what is shown, or is that
pub record IsUnknown (line shown : List ℕ) : Type 0 where
  pub at : ℕ
  pub word : List ℕ
  pub there : word_at at line ≡ Some word
  pub unknown : token_at word ≡ None
  pub first : (n : ℕ) → n < at → (before : List ℕ) → word_at n line ≡ Some before → is_some (token_at before) ≡ true
  pub excerpt : shown ≡ take MOST_SHOWN word

-- ---- the cause

-- words are read from the bytes, and this is so of them
pub record AreWordsOf (IsSo : List Token → Type 0) (bytes : List ℕ) : Type 0 where
  pub words : List Token
  pub read : tokens_at 8 bytes ≡ Some words
  pub so : IsSo words

-- the words have an event's word and not its form
pub record LacksForm (edition : Edition) (word : Keyword) (words : List Token) : Type 0 where
  pub begins : event_word edition words ≡ Some word
  pub formless : has_form edition words ≡ false

-- This is so of the line with this number, by its bytes and whether a line feed ends it, in a trace of this edition. It
-- is told of bad lines alone: of the head's line that it is no head, and of one with the form of its event that a
-- number is out of its range.
abbrev pub IsCause : Edition → Cause → ℕ → List ℕ × Bool → Type 0
IsCause edition causes.NoLineFeed number piece = piece.1 ≡ false
IsCause edition causes.CarriageReturn number piece = list_any (λ byte. byte == 13) piece.0 ≡ true
IsCause edition causes.Empty number piece = piece.0 ≡ []
IsCause edition causes.WideSpace number piece = HasWideSpace piece.0
IsCause edition causes.LeadingZero number piece = HasLeadingZero piece.0
IsCause edition causes.NotAHead number piece = number ≡ head_number edition
IsCause edition causes.TooManyWords number piece = is_some (behind_words 8 piece.0) ≡ true
IsCause edition (causes.UnknownWord shown) number piece = IsUnknown piece.0 shown
IsCause edition causes.NotAnEvent number piece = AreWordsOf (λ words. event_word edition words ≡ None) piece.0
IsCause edition causes.OutOfRange number piece = AreWordsOf (λ words. has_form edition words ≡ true) piece.0
IsCause edition (causes.NotItsForm word) number piece = AreWordsOf (LacksForm edition word) piece.0

-- ---- which edition

-- the text's first line, without its line feed, and whether a line feed ends it
abbrev pub first_piece : List ℕ → List ℕ × Bool
first_piece text = ((cut 10 text).0, is_some (cut 10 text).1)

-- the edition of a trace whose first line is a mark, or none
abbrev pub edition_marked : Option Edition → Edition
edition_marked None = editions.One
edition_marked (Some edition) = edition

-- the edition that a text's first line tells, whatever stands behind it
abbrev pub edition_at : List ℕ → Edition
edition_at text = edition_marked (by_words mark_at (first_piece text))

-- ---- which line

-- the line with this number, from 1 on; behind the text's end nothing, without a line feed
abbrev pub piece_at : ℕ → List ℕ → List ℕ × Bool
piece_at number text = slice_index_or (pieces text) (number - 1) ([], false)
