-- What one line of a script says.
use Rattle.std.specs.Prelude.{ℕ, ◌==◌, ◌&&◌, ◌||◌, nat_le, nat_lt, if◌then◌else◌, Bool, true, List, [], ◌∷◌, length}
use Rattle.std.specs.Prelude.{Option, Some, None}
use Rattle.std.specs.List.{list_all}
use Rattle.brc_text.specs.Tokens.{◌>>=◌, or_else}
use Rattle.brc_text.specs.Lines.{cut}
use Rattle.brc_script.specs.declared.limits.TheConstants.{MOST_SECTION_NAME}
use Rattle.brc_script.specs.declared.first_word.FirstWord.{FirstWord}
use Rattle.brc_script.specs.declared.first_word.FirstWord.TheVariants as words
use Rattle.brc_script.specs.declared.instruction.Instruction.{Instruction}
use Rattle.brc_script.specs.declared.instruction.Instruction.TheVariants as instructions
use Rattle.brc_script.specs.declared.row.ScriptRow.{ScriptRow}
use Rattle.brc_script.specs.declared.row.ScriptRow.TheVariants as rows
use Rattle.brc_script.specs.Instructions.{NumberedLine, registers_differ, is_text, is_name}
use Rattle.brc_script.specs.FirstWords.{first_word_at}
use Rattle.brc_script.specs.Operands.{register_at, within, is_times, if_it_is, ahead, key_at, two_at, three_at}
use Rattle.brc_script.specs.Operands.{with_integer_at, two_with_index_at, index_between_at}

-- an empty line, or a comment, in which each byte is below 128
abbrev pub is_low : ℕ → Bool
is_low byte = nat_lt byte 128

unfoldable pub is_idle : List ℕ → Bool
is_idle [] = true
is_idle (first ∷ bytes) = (first == 35) && list_all is_low bytes

-- the name of a section: 1 to 32 of `a` to `z` and `0` to `9`
abbrev pub is_plain : ℕ → Bool
is_plain byte = (nat_le 97 byte && nat_le byte 122) || (nat_le 48 byte && nat_le byte 57)

unfoldable pub is_section_name : List ℕ → Bool
is_section_name bytes = nat_le 1 (length bytes) && nat_le (length bytes) MOST_SECTION_NAME && list_all is_plain bytes

module _ {A : Type 0} where
  -- an instruction without texts, by its first word and what stands behind it
  abbrev pub plain_at : FirstWord → List ℕ → Option (Instruction A)
  plain_at words.Int rest = with_integer_at rest >>= λ o. Some (instructions.Int o.0 o.1)
  plain_at words.List rest = register_at rest >>= λ to. Some (instructions.List to)
  plain_at words.Dict rest = register_at rest >>= λ to. Some (instructions.Dict to)
  plain_at words.Mailbox rest = register_at rest >>= λ to. Some (instructions.Mailbox to)
  plain_at words.Copy rest = two_at rest >>= λ o. Some (instructions.Copy o.0 o.1)
  plain_at words.Drop rest = register_at rest >>= λ from. Some (instructions.Drop from)
  plain_at words.Push rest = two_at rest >>= λ o. Some (instructions.Push o.0 o.1)
  plain_at words.Pop rest = two_at rest >>= λ o. Some (instructions.Pop o.0 o.1)
  plain_at words.Get rest = two_with_index_at rest >>= λ o. Some (instructions.Get o.0 o.1 o.2)
  plain_at words.Set rest = index_between_at rest >>= λ o. Some (instructions.Set o.0 o.1 o.2)
  plain_at words.Len rest = two_at rest >>= λ o. Some (instructions.Len o.0 o.1)
  plain_at words.Send rest = two_at rest >>= λ o. Some (instructions.Send o.0 o.1)
  plain_at words.Recv rest = two_at rest >>= λ o. Some (instructions.Receive o.0 o.1)
  plain_at words.Add rest = three_at rest >>= λ o. Some (instructions.Add o.0 o.1 o.2)
  plain_at words.Print rest = register_at rest >>= λ from. Some (instructions.Print from)
  plain_at _ rest = None

  -- one with a text, a name or a key
  unfoldable pub text_at : List ℕ → Option (Instruction A)
  text_at rest = do
    to ← ahead register_at rest
    text ← if_it_is is_text to.1
    Some (instructions.Text to.0 text)

  unfoldable pub put_at : List ℕ → Option (Instruction A)
  put_at rest = do
    dict ← ahead register_at rest
    key ← ahead key_at dict.1
    value ← register_at key.1
    Some (instructions.Put dict.0 key.0 value)

  unfoldable pub find_at : List ℕ → Option (Instruction A)
  find_at rest = do
    to ← ahead register_at rest
    dict ← ahead register_at to.1
    key ← key_at dict.1
    Some (instructions.Find to.0 dict.0 key)

  unfoldable pub delete_at : List ℕ → Option (Instruction A)
  delete_at rest = do
    to ← ahead register_at rest
    dict ← ahead register_at to.1
    key ← key_at dict.1
    Some (instructions.Delete to.0 dict.0 key)

  unfoldable pub share_at : List ℕ → Option (Instruction A)
  share_at rest = do
    name ← ahead (if_it_is is_name) rest
    value ← register_at name.1
    Some (instructions.Share name.0 value)

  unfoldable pub fetch_at : List ℕ → Option (Instruction A)
  fetch_at rest = do
    to ← ahead register_at rest
    name ← if_it_is is_name to.1
    Some (instructions.Fetch to.0 name)

  unfoldable pub unshare_at : List ℕ → Option (Instruction A)
  unshare_at rest = do
    to ← ahead register_at rest
    name ← if_it_is is_name to.1
    Some (instructions.Unshare to.0 name)

  abbrev pub worded_at : FirstWord → List ℕ → Option (Instruction A)
  worded_at words.Text rest = text_at rest
  worded_at words.Put rest = put_at rest
  worded_at words.Find rest = find_at rest
  worded_at words.Del rest = delete_at rest
  worded_at words.Share rest = share_at rest
  worded_at words.Fetch rest = fetch_at rest
  worded_at words.Unshare rest = unshare_at rest
  worded_at _ rest = None

  unfoldable pub instruction_at : FirstWord → List ℕ → Option (Instruction A)
  instruction_at word rest = or_else (plain_at word rest) (worded_at word rest)

  -- the instruction with the number of its line; the registers that it names differ
  abbrev pub numbered : ℕ → Instruction A → Option (NumberedLine A)
  numbered number instruction =
      if registers_differ instruction then Some (record { number = number; instruction = instruction }) else None

  unfoldable pub line_at : ℕ → FirstWord → List ℕ → Option (NumberedLine A)
  line_at number word rest = instruction_at word rest >>= numbered number

  -- by the first word, and what stands behind the space after it, if there is one
  abbrev pub row_by : ℕ → FirstWord → Option (List ℕ) → Option (ScriptRow A)
  row_by number words.End None = Some rows.End
  row_by number words.End (Some rest) = None
  row_by number words.Section (Some rest) = if_it_is is_section_name rest >>= λ name. Some (rows.Section name)
  row_by number words.Repeat (Some rest) = within is_times rest >>= λ times. Some (rows.Repeat times)
  row_by number _ None = None
  row_by number word (Some rest) = line_at number word rest >>= λ line. Some (rows.Does line)

  unfoldable pub row_at : ℕ → List ℕ → Option (ScriptRow A)
  row_at number line =
      if is_idle line then Some rows.Idle
      else (first_word_at (cut 32 line).0 >>= λ word. row_by number word (cut 32 line).1)
