-- Why a command line asks for nothing, and the line that says so.
use Rattle.std.specs.Prelude.{◌≡◌, ◌≤◌, ◌<◌, ◌+◌, ◌⊎◌, ℕ, Bool, true, false, ◌&&◌, ◌||◌, nat_eq}
use Rattle.std.specs.Prelude.{List, [], ◌∷◌, ◌++◌, codes, String, take, length, Some}
use Rattle.std.specs.List.{starts_with}
use Rattle.std.specs.Str.{bytes_eq}
use Rattle.std.specs.declared.alloc.Global.{Global}
use Rattle.brc_words.specs.declared.limits.TheConstants.{FEWEST_CELLS, MOST_CELLS, MOST_LOCAL}
use Rattle.brc_text.specs.Numbers.{number_at}
use Rattle.brc_text.specs.Excerpts.{quoted}
use Rattle.brc_text.specs.declared.excerpt.TheConstants.{MOST_SHOWN}
use Rattle.brc_program.specs.Takes.{argument_at, is_option, wants_value, is_dashed, is_command, is_behind_dashes, is_taken}
use Rattle.brc_program.specs.declared.unread.Misfit.{Misfit}
use Rattle.brc_program.specs.declared.unread.Misfit.TheVariants as misfits
use Rattle.brc_program.specs.declared.unread.Numbered.{Numbered}
use Rattle.brc_program.specs.declared.unread.Numbered.TheVariants as options
use Rattle.brc_program.specs.declared.unread.Unread.{Unread}
use Rattle.brc_program.specs.declared.unread.Unread.TheVariants.{Word, NotWithin}

-- ---- what is wrong with a word

-- a command's name belongs at the place: right behind the program's, and behind help or two dashes
abbrev pub names_command : List (String Global) → ℕ → Bool
names_command words at = nat_eq at 1
    || (bytes_eq (argument_at words 1) (codes "help") || bytes_eq (argument_at words 1) (codes "--"))

-- the word has to have a value, and none stands behind it
abbrev pub lacks_value : List (String Global) → ℕ → Bool
lacks_value words at = wants_value (argument_at words at)
    && (nat_eq (at + 1) (length words) || is_dashed (argument_at words (at + 1)))

-- it is an option that takes no value, and gives it one
abbrev pub is_flag_with_value : List ℕ → Bool
is_flag_with_value word = starts_with nat_eq word (codes "--explain=")
    || (starts_with nat_eq word (codes "--help=") || starts_with nat_eq word (codes "--version="))

-- both words are this option
abbrev pub are_both : List ℕ → List ℕ → List ℕ → Bool
are_both option one other = is_option one option && is_option other option

-- both are the same option
abbrev pub are_same : List ℕ → List ℕ → Bool
are_same one other = are_both (codes "--explain") one other || (are_both (codes "--cells") one other
    || (are_both (codes "--budget") one other || are_both (codes "--local-limit") one other))

-- the option at the place stands behind it once more
pub record StandsAgain (words : List (String Global)) (at : ℕ) : Type 0 where
  pub other : ℕ
  pub later : at < other
  pub there : other < length words
  pub taken : is_taken words other ≡ true
  pub same : are_same (argument_at words at) (argument_at words other) ≡ true

-- this is wrong with the word at the place
abbrev pub IsWrong : List (String Global) → ℕ → Misfit → Type 0
IsWrong words at misfits.NotTaken = is_taken words at ≡ false
IsWrong words at misfits.NoCommand =
    (names_command words at ≡ true) × (is_command (argument_at words at) ≡ false)
IsWrong words at misfits.NoValue = (is_taken words at ≡ true) × (lacks_value words at ≡ true)
IsWrong words at misfits.WithValue =
    (is_taken words at ≡ true) × (is_flag_with_value (argument_at words at) ≡ true)
IsWrong words at misfits.Twice = (is_taken words at ≡ true) × StandsAgain words at

-- a word behind the program's name begins so, and this is wrong with it
pub record TellsWord (words : List (String Global)) (misfit : Misfit) (excerpt : List ℕ) : Type 0 where
  pub at : ℕ
  pub behind : 0 < at
  pub there : at < length words
  pub shown : excerpt ≡ take MOST_SHOWN (argument_at words at)
  pub wrong : IsWrong words at misfit

-- ---- what is wrong with a number

-- an option of `brc run` with a number, as it stands in a command line
abbrev pub option_name : Numbered → List ℕ
option_name options.Cells = codes "--cells"
option_name options.Turns = codes "--budget"
option_name options.LocalLimit = codes "--local-limit"

-- the least and the largest number that it takes
abbrev pub least_of : Numbered → ℕ
least_of options.Cells = FEWEST_CELLS
least_of options.Turns = 1
least_of options.LocalLimit = 1

abbrev pub most_of : Numbered → ℕ
most_of options.Cells = MOST_CELLS
most_of options.Turns = 1000000
most_of options.LocalLimit = MOST_LOCAL

-- the text spells a number that the option takes
abbrev pub SpellsAllowed : Numbered → List ℕ → Type 0
SpellsAllowed option said =
    (number : ℕ) × (number_at said ≡ Some number) × (least_of option ≤ number) × (number ≤ most_of option)

-- the word at the place gives the option this value: behind an equals sign, or as the next word
abbrev pub GivesValue : List (String Global) → ℕ → Numbered → List ℕ → Type 0
GivesValue words at option said = (argument_at words at ≡ option_name option ++ (codes "=" ++ said))
    ⊎ ((argument_at words at ≡ option_name option) × (at + 1 < length words) × (said ≡ argument_at words (at + 1)))

-- a run's option has a value that begins so, and doesn't take it
pub record TellsValue (words : List (String Global)) (option : Numbered) (excerpt : List ℕ) : Type 0 where
  pub run : argument_at words 1 ≡ codes "run"
  pub at : ℕ
  pub behind : 1 < at
  pub there : at < length words
  pub read : is_behind_dashes words at ≡ false
  pub said : List ℕ
  pub gives : GivesValue words at option said
  pub shown : excerpt ≡ take MOST_SHOWN said
  pub refused : ¬ (SpellsAllowed option said)

-- what is told stands among the words, and it is so
abbrev pub IsUnread : List (String Global) → Unread → Type 0
IsUnread words (Word misfit excerpt) = TellsWord words misfit excerpt
IsUnread words (NotWithin option excerpt) = TellsValue words option excerpt

-- ---- how it is told

abbrev pub before_word : Unread → List ℕ
before_word (Word misfits.NotTaken excerpt) = codes "brc: why: the command does not take "
before_word (Word misfits.NoCommand excerpt) = codes "brc: why: no command is called "
before_word (Word misfits.NoValue excerpt) = codes "brc: why: no value stands behind "
before_word (Word misfits.WithValue excerpt) = codes "brc: why: no value belongs to "
before_word (Word misfits.Twice excerpt) = codes "brc: why: an option stands twice: "
before_word (NotWithin option excerpt) = codes "brc: why: "

abbrev pub behind_word : Unread → List ℕ
behind_word (Word misfits.NoCommand excerpt) = codes ": replay, run, graph or help"
behind_word (Word _ excerpt) = []
behind_word (NotWithin options.Cells excerpt) = codes " is no number of cells: 512 to 65536"
behind_word (NotWithin options.Turns excerpt) = codes " is no number of turns: 1 to 1000000"
behind_word (NotWithin options.LocalLimit excerpt) = codes " is no local limit: 1 to 4294967294"

abbrev pub word_of : Unread → List ℕ
word_of (Word misfit excerpt) = excerpt
word_of (NotWithin option excerpt) = excerpt

abbrev pub unread_line : Unread → List ℕ
unread_line unread =
    before_word unread ++ (quoted (word_of unread) ++ (behind_word unread ++ (10 ∷ [])))
