-- The one spelling of each instruction.
use Rattle.std.specs.Prelude.{ℕ, ◌+◌, ◌++◌, ℤ, pos, negsuc, List, ◌∷◌, decimal}
use Rattle.brc_words.specs.declared.key.Key.{Key}
use Rattle.brc_words.specs.declared.key.Key.TheVariants as keys
use Rattle.brc_script.specs.declared.first_word.FirstWord.{FirstWord}
use Rattle.brc_script.specs.declared.first_word.FirstWord.TheVariants as words
use Rattle.brc_script.specs.declared.instruction.Instruction.{Instruction}
use Rattle.brc_script.specs.declared.instruction.Instruction.TheVariants as instructions
use Rattle.brc_script.specs.FirstWords.{first_word}

-- a space between the two
abbrev pub spaced : List ℕ → List ℕ → List ℕ
spaced first rest = first ++ (32 ∷ rest)

abbrev pub register : ℕ → List ℕ
register n = 114 ∷ decimal n

abbrev pub integer : ℤ → List ℕ
integer (pos n) = decimal n
integer (negsuc n) = 45 ∷ decimal (n + 1)

-- two registers
abbrev pub two : ℕ → ℕ → List ℕ
two first second = spaced (register first) (register second)

module _ {A : Type 0} where
  abbrev pub key : Key A → List ℕ
  key (keys.Int number) = integer number
  key (keys.Text bytes) = 39 ∷ bytes

  abbrev pub word_of : Instruction A → FirstWord
  word_of (instructions.Int to number) = words.Int
  word_of (instructions.Text to text) = words.Text
  word_of (instructions.List to) = words.List
  word_of (instructions.Dict to) = words.Dict
  word_of (instructions.Mailbox to) = words.Mailbox
  word_of (instructions.Copy to from) = words.Copy
  word_of (instructions.Drop from) = words.Drop
  word_of (instructions.Push list value) = words.Push
  word_of (instructions.Pop to list) = words.Pop
  word_of (instructions.Get to list index) = words.Get
  word_of (instructions.Set list index value) = words.Set
  word_of (instructions.Len to container) = words.Len
  word_of (instructions.Put dict k value) = words.Put
  word_of (instructions.Find to dict k) = words.Find
  word_of (instructions.Delete to dict k) = words.Del
  word_of (instructions.Share name value) = words.Share
  word_of (instructions.Fetch to name) = words.Fetch
  word_of (instructions.Unshare to name) = words.Unshare
  word_of (instructions.Send mailbox value) = words.Send
  word_of (instructions.Receive to mailbox) = words.Recv
  word_of (instructions.Add to first second) = words.Add
  word_of (instructions.Print from) = words.Print

  -- what stands behind the first word
  abbrev pub operands : Instruction A → List ℕ
  operands (instructions.Int to number) = spaced (register to) (integer number)
  operands (instructions.Text to text) = spaced (register to) text
  operands (instructions.List to) = register to
  operands (instructions.Dict to) = register to
  operands (instructions.Mailbox to) = register to
  operands (instructions.Copy to from) = two to from
  operands (instructions.Drop from) = register from
  operands (instructions.Push list value) = two list value
  operands (instructions.Pop to list) = two to list
  operands (instructions.Get to list index) = spaced (register to) (spaced (register list) (decimal index))
  operands (instructions.Set list index value) = spaced (register list) (spaced (decimal index) (register value))
  operands (instructions.Len to container) = two to container
  operands (instructions.Put dict k value) = spaced (register dict) (spaced (key k) (register value))
  operands (instructions.Find to dict k) = spaced (register to) (spaced (register dict) (key k))
  operands (instructions.Delete to dict k) = spaced (register to) (spaced (register dict) (key k))
  operands (instructions.Share name value) = spaced name (register value)
  operands (instructions.Fetch to name) = spaced (register to) name
  operands (instructions.Unshare to name) = spaced (register to) name
  operands (instructions.Send mailbox value) = two mailbox value
  operands (instructions.Receive to mailbox) = two to mailbox
  operands (instructions.Add to first second) = spaced (register to) (two first second)
  operands (instructions.Print from) = register from

  -- the line of an instruction
  unfoldable pub spelled : Instruction A → List ℕ
  spelled instruction = spaced (first_word (word_of instruction)) (operands instruction)
