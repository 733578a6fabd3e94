-- What a line spells is read again.
use Rattle.std.proofs.Common.{◌≡◌, ◌≢◌, ◌∙◌, ℕ, ◌+◌, ◌-◌, ◌^◌, ◌<◌, ◌&&◌, ◌++◌, not, Bool, true, false, leb, List, []}
use Rattle.std.proofs.Common.{◌∷◌, length, get_or, Option, Some, refl, sym, ap, subst, decimal, ℤ, pos, negsuc, arith}
use Rattle.std.specs.List.{list_all}
use Rattle.std.specs.Int.{IsInRange}
use Rattle.std.proofs.lemmas.List.{append-nil}
use Rattle.std.proofs.lemmas.Fmt.{decimal_nonempty}
use Rattle.std.proofs.lemmas.Bool.{and_parts, and_from, leb-true, ltb-true, le-leb, ne_eqb}
use Rattle.brc_words.specs.declared.key.Key.{Key}
use Rattle.brc_words.specs.declared.key.Key.TheVariants as keys
use Rattle.brc_text.specs.declared.token.Token.TheVariants as tokens
use Rattle.brc_text.specs.Tokens.{◌>>=◌}
use Rattle.brc_text.specs.Lines.{lacks}
use Rattle.brc_text.proofs.NumberLaws.{number_again, digit_ahead}
use Rattle.brc_text.proofs.LineLaws.{cut_until, cut_whole, token_lacks_space}
use Rattle.brc_script.specs.declared.limits.TheConstants.{REGISTERS, MOST_TIMES, MOST_NAME}
use Rattle.brc_script.specs.declared.first_word.FirstWord.{FirstWord}
use Rattle.brc_script.specs.declared.first_word.FirstWord.TheVariants as words
use Rattle.brc_script.specs.declared.instruction.Instruction.{Instruction}
use Rattle.brc_script.specs.declared.instruction.Instruction.TheVariants as instructions
use Rattle.brc_script.specs.declared.row.ScriptRow.{ScriptRow}
use Rattle.brc_script.specs.declared.row.ScriptRow.TheVariants as rows
use Rattle.brc_script.specs.Instructions.{NumberedLine, is_visible, is_register, is_index, is_integer, is_text, is_name}
use Rattle.brc_script.specs.Instructions.{is_key, registers_of, operands_fit, HasLine}
use Rattle.brc_script.specs.FirstWords.{first_word, first_word_at}
use Rattle.brc_script.specs.Operands.{within, is_times, is_above, is_below, register_at, above_at, integer_at, if_it_is}
use Rattle.brc_script.specs.Operands.{ahead, key_at, two_at, three_at, with_integer_at, two_with_index_at}
use Rattle.brc_script.specs.Operands.{index_between_at}
use Rattle.brc_script.specs.Rows.{is_idle, is_section_name, text_at, put_at, find_at, delete_at, share_at, fetch_at}
use Rattle.brc_script.specs.Rows.{unshare_at, instruction_at, line_at, row_by, row_at}
use Rattle.brc_script.specs.Spellings.{spaced, register, integer, two, key, word_of, operands, spelled}
use Rattle.brc_script.specs.Walks.{opening}
use Rattle.brc_script.specs.Texts.{Says, IsNumbered}

-- ---- numbers

within_again : (fits : ℕ → Bool) (n : ℕ) → fits n ≡ true → n < 2 ^ 64 → within fits (decimal n) ≡ Some n
unfolding within
within_again fits n fit small = rw (number_again n small, fit) refl

number_lacks : (n : ℕ) → n < 2 ^ 64 → lacks 32 (decimal n) ≡ true
number_lacks n small = token_lacks_space (tokens.Number n) small

small_register : (n : ℕ) → is_register n ≡ true → n < 2 ^ 64
small_register n h = omega (arith, ltb-true n REGISTERS h)

small_index : (n : ℕ) → is_index n ≡ true → n < 2 ^ 64
small_index n h = omega (arith, ltb-true n (2 ^ 32) h)

register_again : (n : ℕ) → is_register n ≡ true → register_at (register n) ≡ Some n
unfolding register_at
register_again n h = within_again is_register n h (small_register n h)

register_lacks : (n : ℕ) → is_register n ≡ true → lacks 32 (register n) ≡ true
register_lacks n h = number_lacks n (small_register n h)

first_digit : (n : ℕ) → n < 2 ^ 64 → IsInRange 48 57 (get_or (decimal n) 0 0)
first_digit n small = digit_ahead (decimal n) (decimal n) [] n
    (record { whole = sym (append-nil (decimal n)); ends = omega arith; spells = number_again n small })

above_alone : (bytes : List ℕ) → 0 < length bytes → get_or bytes 0 0 ≢ 45 → integer_at bytes ≡ above_at bytes
unfolding integer_at
above_alone [] some other = absurd (omega arith)
above_alone (first ∷ digits) some other = rw (ne_eqb first 45 other) refl

below_small : (n : ℕ) → is_integer (negsuc n) ≡ true → (is_below (n + 1) ≡ true) × (n + 1 < 2 ^ 64)
unfolding is_integer
below_small n h =
    let less = ltb-true n (2 ^ 63) h in
    (and_from _ _ (le-leb 1 (n + 1) (omega arith)) (le-leb (n + 1) (2 ^ 63) (omega (arith, less))), omega (arith, less))

above_small : (n : ℕ) → is_integer (pos n) ≡ true → (is_above n ≡ true) × (n < 2 ^ 64)
unfolding is_integer
above_small n h = (h, omega (arith, ltb-true n (2 ^ 63) h))

back : (n : ℕ) → n + 1 - 1 ≡ n
back n = omega arith

integer_again : (z : ℤ) → is_integer z ≡ true → integer_at (integer z) ≡ Some z
unfolding integer_at
integer_again (pos n) h =
    let fit = above_small n h in
    above_alone (decimal n) (decimal_nonempty n fit.1) (λ e. let d = first_digit n fit.1 in omega (arith, d.0, d.1, e))
    ∙ rw (within_again is_above n fit.0 fit.1) refl
integer_again (negsuc n) h =
    let fit = below_small n h in
    rw (within_again is_below (n + 1) fit.0 fit.1) (ap (λ (m : ℕ). Some (negsuc m)) (back n))

integer_lacks : (z : ℤ) → is_integer z ≡ true → lacks 32 (integer z) ≡ true
integer_lacks (pos n) h = number_lacks n (above_small n h).1
integer_lacks (negsuc n) h = number_lacks (n + 1) (below_small n h).1

-- ---- names and keys

visible_lacks : (bytes : List ℕ) → list_all is_visible bytes ≡ true → lacks 32 bytes ≡ true
visible_lacks [] h = refl
visible_lacks (b ∷ bytes) h =
    let both = and_parts (is_visible b) (list_all is_visible bytes) h in
    and_from _ _ (ap not (ne_eqb b 32
    (λ e. omega (arith, leb-true 33 b (and_parts (leb 33 b) (leb b 126) both.0).0, e)))) (visible_lacks bytes both.1)

name_lacks : (bytes : List ℕ) → is_name bytes ≡ true → lacks 32 bytes ≡ true
unfolding is_name
name_lacks bytes h = visible_lacks bytes (and_parts (leb 1 (length bytes) && leb (length bytes) MOST_NAME)
    (list_all is_visible bytes) h).1

if_again : (fits : List ℕ → Bool) (bytes : List ℕ) → fits bytes ≡ true → if_it_is fits bytes ≡ Some bytes
if_again fits bytes h = rw h refl

module _ {A : Type 0} where
  number_alone : (bytes : List ℕ) → 0 < length bytes → get_or bytes 0 0 ≢ 39
      → key_at {A = A} bytes ≡ (integer_at bytes >>= λ number. Some (keys.Int number))
  unfolding key_at
  number_alone [] some other = absurd (omega arith)
  number_alone (first ∷ name) some other = rw (ne_eqb first 39 other) refl

  key_again : (k : Key A) → is_key k ≡ true → key_at (key k) ≡ Some k
  unfolding key_at
  key_again (keys.Int (pos n)) h =
      let fit = above_small n h in
      number_alone (decimal n) (decimal_nonempty n fit.1) (λ e. let d = first_digit n fit.1 in
      omega (arith, d.0, d.1, e))
      ∙ rw (integer_again (pos n) h) refl
  key_again (keys.Int (negsuc n)) h = rw (integer_again (negsuc n) h) refl
  key_again (keys.Text bytes) h = rw (if_again is_name bytes h) refl

  key_lacks : (k : Key A) → is_key k ≡ true → lacks 32 (key k) ≡ true
  key_lacks (keys.Int number) h = integer_lacks number h
  key_lacks (keys.Text bytes) h = name_lacks bytes h

-- ---- several operands

ahead_again : {X : Type 0} (read : List ℕ → Option X) (word rest : List ℕ) (x : X) → read word ≡ Some x
    → lacks 32 word ≡ true → ahead read (spaced word rest) ≡ Some (x, rest)
unfolding ahead
ahead_again read word rest x reads lack = rw (cut_until 32 word rest lack, reads) refl

register_first : (n : ℕ) (rest : List ℕ) → is_register n ≡ true → ahead register_at (spaced (register n) rest)
    ≡ Some (n, rest)
register_first n rest h = ahead_again register_at (register n) rest n (register_again n h) (register_lacks n h)

abbrev Registers : List ℕ → Type 0
Registers registers = list_all is_register registers ≡ true

first_of : (a : ℕ) (others : List ℕ) → Registers (a ∷ others) → is_register a ≡ true
first_of a others h = (and_parts (is_register a) (list_all is_register others) h).0

second_of : (a b : ℕ) (others : List ℕ) → Registers (a ∷ b ∷ others) → is_register b ≡ true
second_of a b others h = first_of b others (and_parts (is_register a) (list_all is_register (b ∷ others)) h).1

one_again : (a : ℕ) → Registers (a ∷ []) → register_at (register a) ≡ Some a
one_again a h = register_again a (first_of a [] h)

two_again : (a b : ℕ) → Registers (a ∷ b ∷ []) → two_at (two a b) ≡ Some (a, b)
unfolding two_at
two_again a b h = rw (register_first a (register b) (first_of a (b ∷ []) h), register_again b (second_of a b [] h)) refl

three_again : (a b c : ℕ) → Registers (a ∷ b ∷ c ∷ []) → three_at (spaced (register a) (two b c)) ≡ Some (a, b, c)
unfolding three_at
three_again a b c h =
    rw (
      register_first a (two b c) (first_of a (b ∷ c ∷ []) h),
      two_again b c (and_parts (is_register a) (list_all is_register (b ∷ c ∷ [])) h).1,
    ) refl

with_integer_again : (a : ℕ) (z : ℤ) → Registers (a ∷ []) → is_integer z ≡ true
    → with_integer_at (spaced (register a) (integer z)) ≡ Some (a, z)
unfolding with_integer_at
with_integer_again a z h fit = rw (register_first a (integer z) (first_of a [] h), integer_again z fit) refl

two_with_index_again : (a b i : ℕ) → Registers (a ∷ b ∷ []) → is_index i ≡ true
    → two_with_index_at (spaced (register a) (spaced (register b) (decimal i))) ≡ Some (a, b, i)
unfolding two_with_index_at
two_with_index_again a b i h fit =
    rw (
      register_first a (spaced (register b) (decimal i)) (first_of a (b ∷ []) h),
      register_first b (decimal i)
          (second_of a b [] h),
      within_again is_index i fit (small_index i fit),
    ) refl

index_between_again : (a i b : ℕ) → Registers (a ∷ b ∷ []) → is_index i ≡ true
    → index_between_at (spaced (register a) (spaced (decimal i) (register b))) ≡ Some (a, i, b)
unfolding index_between_at
index_between_again a i b h fit =
    rw (
      register_first a (spaced (decimal i) (register b)) (first_of a (b ∷ []) h),
      ahead_again (within is_index) (decimal i) (register b) i (within_again is_index i fit (small_index i fit))
          (number_lacks i (small_index i fit)),
      register_again b (second_of a b [] h),
    ) refl

module _ {A : Type 0} where
  key_first : (k : Key A) (rest : List ℕ) → is_key k ≡ true → ahead key_at (spaced (key k) rest) ≡ Some (k, rest)
  key_first k rest h = ahead_again key_at (key k) rest k (key_again k h) (key_lacks k h)

  -- ---- instructions

  instruction_again : (i : Instruction A) → list_all is_register (registers_of i) ≡ true → operands_fit i ≡ true
      → instruction_at (word_of i) (operands i) ≡ Some i
  unfolding instruction_at text_at put_at find_at delete_at share_at fetch_at unshare_at
  instruction_again (instructions.Int to number) h fit = rw (with_integer_again to number h fit) refl
  instruction_again (instructions.Text to text) h fit =
      rw (register_first to text (first_of to [] h), if_again is_text text fit) refl
  instruction_again (instructions.List to) h fit = rw (one_again to h) refl
  instruction_again (instructions.Dict to) h fit = rw (one_again to h) refl
  instruction_again (instructions.Mailbox to) h fit = rw (one_again to h) refl
  instruction_again (instructions.Copy to from) h fit = rw (two_again to from h) refl
  instruction_again (instructions.Drop from) h fit = rw (one_again from h) refl
  instruction_again (instructions.Push list value) h fit = rw (two_again list value h) refl
  instruction_again (instructions.Pop to list) h fit = rw (two_again to list h) refl
  instruction_again (instructions.Get to list index) h fit = rw (two_with_index_again to list index h fit) refl
  instruction_again (instructions.Set list index value) h fit = rw (index_between_again list index value h fit) refl
  instruction_again (instructions.Len to container) h fit = rw (two_again to container h) refl
  instruction_again (instructions.Put dict k value) h fit =
      rw (
        register_first dict (spaced (key k) (register value)) (first_of dict (value ∷ []) h),
        key_first k (register value) fit,
        register_again value (second_of dict value [] h),
      ) refl
  instruction_again (instructions.Find to dict k) h fit =
      rw (
        register_first to (spaced (register dict) (key k)) (first_of to (dict ∷ []) h),
        register_first dict (key k)
            (second_of to dict [] h),
        key_again k fit,
      ) refl
  instruction_again (instructions.Delete to dict k) h fit =
      rw (
        register_first to (spaced (register dict) (key k)) (first_of to (dict ∷ []) h),
        register_first dict (key k)
            (second_of to dict [] h),
        key_again k fit,
      ) refl
  instruction_again (instructions.Share name value) h fit =
      rw (
        ahead_again (if_it_is is_name) name (register value) name (if_again is_name name fit) (name_lacks name fit),
        register_again value (first_of value [] h),
      ) refl
  instruction_again (instructions.Fetch to name) h fit =
      rw (register_first to name (first_of to [] h), if_again is_name name fit) refl
  instruction_again (instructions.Unshare to name) h fit =
      rw (register_first to name (first_of to [] h), if_again is_name name fit) refl
  instruction_again (instructions.Send mailbox value) h fit = rw (two_again mailbox value h) refl
  instruction_again (instructions.Receive to mailbox) h fit = rw (two_again to mailbox h) refl
  instruction_again (instructions.Add to first second) h fit = rw (three_again to first second h) refl
  instruction_again (instructions.Print from) h fit = rw (one_again from h) refl

  -- ---- lines

  line_again : (number : ℕ) (i : Instruction A) → HasLine i
      → line_at number (word_of i) (operands i) ≡ Some (record { number = number; instruction = i })
  unfolding line_at
  line_again number i has = rw (instruction_again i has.registers has.operands, has.differ) refl

  -- no frame begins with the word of an instruction
  row_by_word : (number : ℕ) (i : Instruction A) (rest : List ℕ)
      → row_by {A = A} number (word_of i) (Some rest)
      ≡ (line_at number (word_of i) rest >>= λ line. Some (rows.Does line))
  row_by_word number (instructions.Int to n) rest = refl
  row_by_word number _ rest = refl

word_again : (word : FirstWord) → first_word_at (first_word word) ≡ Some word
unfolding first_word_at
word_again words.Int = refl
word_again _ = refl

word_lacks : (word : FirstWord) → lacks 32 (first_word word) ≡ true
word_lacks words.Int = refl
word_lacks _ = refl

word_works : (word : FirstWord) (rest : List ℕ) → is_idle (first_word word ++ rest) ≡ false
unfolding is_idle
word_works words.Int rest = refl
word_works _ rest = refl

module _ {A : Type 0} where
  -- a line of a word and what stands behind a space
  spaced_row : (number : ℕ) (word : FirstWord) (rest : List ℕ) → row_at {A = A} number (spaced (first_word word) rest)
      ≡ row_by number word (Some rest)
  unfolding row_at
  spaced_row number word rest =
      rw (word_works word (32 ∷ rest), cut_until 32 (first_word word) rest (word_lacks word), word_again word) refl

  pub row_again : (number : ℕ) (line : List ℕ) (row : ScriptRow A) → Says line row → IsNumbered number row
      → row_at number line ≡ Some row
  unfolding row_at spelled
  row_again number line rows.Idle says same = rw says refl
  row_again number line (rows.Section name) says same =
      subst (λ (l : List ℕ). row_at {A = A} number l ≡ Some (rows.Section name)) (sym says.1)
      (spaced_row number words.Section name ∙ ap (λ (o : Option (List ℕ)). o >>= λ n. Some (rows.Section n))
      (if_again is_section_name name says.0))
  row_again number line (rows.Repeat times) says same =
      subst (λ (l : List ℕ). row_at {A = A} number l ≡ Some (rows.Repeat times)) (sym says.1)
      (spaced_row number words.Repeat (decimal times)
      ∙ ap (λ (o : Option ℕ). o >>= λ n. Some (rows.Repeat n))
      (within_again is_times times says.0 (omega (arith, leb-true times MOST_TIMES says.0))))
  row_again number line rows.End says same =
      subst (λ (l : List ℕ). row_at {A = A} number l ≡ Some rows.End) (sym says)
      (rw (word_works words.End [], cut_whole 32 (first_word words.End) refl, word_again words.End) refl)
  row_again number line (rows.Does it) says same =
      subst (λ (l : List ℕ). row_at {A = A} number l ≡ Some (rows.Does it)) (sym says.1)
      (spaced_row number (word_of it.instruction) (operands it.instruction)
      ∙ row_by_word number it.instruction (operands it.instruction)
      ∙ ap (λ (o : Option (NumberedLine A)). o >>= λ l. Some (rows.Does l)) (line_again number it.instruction says.0)
      ∙ ap (λ (n : ℕ). Some (rows.Does (record { number = n; instruction = it.instruction }))) (sym same))

-- ---- the word with which a line begins

spaced_opening : (word : FirstWord) (rest : List ℕ) → opening (spaced (first_word word) rest) ≡ Some word
unfolding opening
spaced_opening word rest = rw (cut_until 32 (first_word word) rest (word_lacks word), word_again word) refl

pub opens_section : (line name : List ℕ) → line ≡ spaced (first_word words.Section) name
    → opening line ≡ Some words.Section
opens_section line name is = ap opening is ∙ spaced_opening words.Section name

pub opens_end : (line : List ℕ) → line ≡ first_word words.End → opening line ≡ Some words.End
unfolding opening
opens_end line is = ap opening is ∙ rw (cut_whole 32 (first_word words.End) refl, word_again words.End) refl
