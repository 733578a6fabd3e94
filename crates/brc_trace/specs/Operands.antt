-- The operands of a line: how each is written, its range, and what words are read as one.
use Rattle.std.specs.Prelude.{ℕ, ◌/◌, Bool, true, false, List, [], ◌∷◌, Option, Some, None, nat_lt, nat_le, ◌&&◌}
use Rattle.std.specs.Prelude.{if◌then◌else◌}
use Rattle.brc_words.specs.declared.limits.TheConstants.{MOST_THREADS, MOST_CELLS, MOST_PLACES, MOST_ENTRIES}
use Rattle.brc_words.specs.declared.kind.Kind.{Kind}
use Rattle.brc_words.specs.declared.kind.Kind.TheVariants as kinds
use Rattle.law.specs.declared.world.event.Source.{Source}
use Rattle.law.specs.declared.world.event.Source.TheVariants as sources
use Rattle.law.specs.declared.world.event.Dropped.{Dropped}
use Rattle.law.specs.declared.world.event.Dropped.TheVariants as drops
use Rattle.law.specs.declared.world.event.LastDropped.{LastDropped}
use Rattle.law.specs.declared.world.event.LastDropped.TheVariants as lasts
use Rattle.law.specs.declared.world.event.Change.{Change}
use Rattle.law.specs.declared.world.event.Change.TheVariants as changes
use Rattle.brc_text.specs.declared.keyword.Keyword.{Keyword}
use Rattle.brc_text.specs.declared.keyword.Keyword.TheVariants as words
use Rattle.brc_text.specs.declared.token.Letter.TheVariants as letters
use Rattle.brc_text.specs.declared.token.Token.{Token}
use Rattle.brc_text.specs.declared.token.Token.TheVariants as tokens
use Rattle.brc_text.specs.Tokens.{◌>>=◌}

-- ---- as they are written

-- kinds that are born have a word; None, False and True have none
abbrev pub kind_word : Kind → Keyword
kind_word kinds.Int = words.Int
kind_word kinds.Text = words.Text
kind_word kinds.List = words.List
kind_word kinds.Dict = words.Dict
kind_word kinds.Mailbox = words.Mailbox
kind_word kinds.Nothing = words.Dash
kind_word kinds.False = words.Dash
kind_word kinds.True = words.Dash

abbrev pub kind_token : Kind → Token
kind_token kind = tokens.Word (kind_word kind)

abbrev pub source_token : Source → Token
source_token (sources.Frame place) = tokens.Place letters.Frame place
source_token (sources.Entry index) = tokens.Place letters.Entry index
source_token (sources.Immortal cell) = tokens.Place letters.Immortal cell

abbrev pub dropped_token : Dropped → Token
dropped_token (drops.Frame place) = tokens.Place letters.Frame place
dropped_token (drops.Work cell) = tokens.Place letters.Work cell

abbrev pub last_token : LastDropped → Token
last_token (lasts.Dropped dropped) = dropped_token dropped
last_token (lasts.Popped cell) = tokens.Place letters.Popped cell
last_token lasts.Hand = tokens.Word words.InHand

-- the words behind unlock
abbrev pub change_words : Change → List Token
change_words changes.Keep = tokens.Word words.Keep ∷ []
change_words (changes.Put j) = tokens.Word words.Put ∷ tokens.Number j ∷ []
change_words (changes.Take i j) = tokens.Word words.Take ∷ tokens.Number i ∷ tokens.Number j ∷ []
change_words (changes.Swap i j) = tokens.Word words.Swap ∷ tokens.Number i ∷ tokens.Number j ∷ []

-- ---- their ranges

-- threads count from 1, all else from 0; a word of a merge queue has 32 cells
abbrev pub is_thread : ℕ → Bool
is_thread number = nat_le 1 number && nat_le number MOST_THREADS

abbrev pub is_cell : ℕ → Bool
is_cell number = nat_lt number MOST_CELLS

abbrev pub is_place : ℕ → Bool
is_place number = nat_lt number MOST_PLACES

abbrev pub is_entry : ℕ → Bool
is_entry number = nat_lt number MOST_ENTRIES

abbrev pub is_queue_word : ℕ → Bool
is_queue_word number = nat_lt number (MOST_CELLS / 32)

abbrev pub fits_source : Source → Bool
fits_source (sources.Frame place) = is_place place
fits_source (sources.Entry index) = is_entry index
fits_source (sources.Immortal cell) = is_cell cell

abbrev pub fits_dropped : Dropped → Bool
fits_dropped (drops.Frame place) = is_place place
fits_dropped (drops.Work cell) = is_cell cell

abbrev pub fits_last : LastDropped → Bool
fits_last (lasts.Dropped dropped) = fits_dropped dropped
fits_last (lasts.Popped cell) = is_cell cell
fits_last lasts.Hand = true

abbrev pub fits_change : Change → Bool
fits_change changes.Keep = true
fits_change (changes.Put j) = is_place j
fits_change (changes.Take i j) = is_entry i && is_place j
fits_change (changes.Swap i j) = is_entry i && is_place j

-- ---- what a word is read as

-- a number in its range
abbrev pub number_at : (ℕ → Bool) → Token → Option ℕ
number_at fits (tokens.Number n) = if fits n then Some n else None
number_at fits _ = None

abbrev pub kind_named : Keyword → Option Kind
kind_named words.Int = Some kinds.Int
kind_named words.Text = Some kinds.Text
kind_named words.List = Some kinds.List
kind_named words.Dict = Some kinds.Dict
kind_named words.Mailbox = Some kinds.Mailbox
kind_named _ = None

abbrev pub kind_at : Token → Option Kind
kind_at (tokens.Word word) = kind_named word
kind_at _ = None

-- f, e or i
abbrev pub source_at : Token → Option Source
source_at (tokens.Place letters.Frame k) = if is_place k then Some (sources.Frame k) else None
source_at (tokens.Place letters.Entry i) = if is_entry i then Some (sources.Entry i) else None
source_at (tokens.Place letters.Immortal c) = if is_cell c then Some (sources.Immortal c) else None
source_at _ = None

-- f or w
abbrev pub dropped_at : Token → Option Dropped
dropped_at (tokens.Place letters.Frame k) = if is_place k then Some (drops.Frame k) else None
dropped_at (tokens.Place letters.Work c) = if is_cell c then Some (drops.Work c) else None
dropped_at _ = None

-- f, w or q, or h alone
abbrev pub last_at : Token → Option LastDropped
last_at (tokens.Place letters.Frame k) = if is_place k then Some (lasts.Dropped (drops.Frame k)) else None
last_at (tokens.Place letters.Work c) = if is_cell c then Some (lasts.Dropped (drops.Work c)) else None
last_at (tokens.Place letters.Popped c) = if is_cell c then Some (lasts.Popped c) else None
last_at (tokens.Word words.InHand) = Some lasts.Hand
last_at _ = None

-- ---- operands in a row

-- there is no operand
unfoldable pub is_bare : List Token → Bool
is_bare [] = true
is_bare _ = false

-- the one operand
unfoldable pub only : List Token → Option Token
only (a ∷ []) = Some a
only _ = None

-- both operands
unfoldable pub both : List Token → Option (Token × Token)
both (a ∷ b ∷ []) = Some (a, b)
both _ = None

-- one operand, read so
abbrev pub one_of : {A : Type 0} → (Token → Option A) → List Token → Option A
one_of read operands = only operands >>= read

-- two operands, each read in its way
abbrev pub two_of : {A B : Type 0} → (Token → Option A) → (Token → Option B) → List Token → Option (A × B)
two_of first second operands = both operands >>= λ them. first them.0 >>= λ x. second them.1 >>= λ y. Some (x, y)

-- ---- the change of an unlock

-- each change by its word
abbrev pub change_named : Keyword → List Token → Option Change
change_named words.Keep operands = if is_bare operands then Some changes.Keep else None
change_named words.Put operands = one_of (number_at is_place) operands >>= λ j. Some (changes.Put j)
change_named words.Take operands = two_of (number_at is_entry) (number_at is_place) operands >>= λ at. Some
    (changes.Take at.0 at.1)
change_named words.Swap operands = two_of (number_at is_entry) (number_at is_place) operands >>= λ at. Some
    (changes.Swap at.0 at.1)
change_named _ operands = None

unfoldable pub change_at : List Token → Option Change
change_at (tokens.Word word ∷ operands) = change_named word operands
change_at _ = None
