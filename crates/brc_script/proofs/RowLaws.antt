-- What a line says, and the word with which it begins.
use Rattle.std.proofs.Common.{◌≡◌, ◌∙◌, ℕ, ◌++◌, Bool, true, false, eqb, cond, List, [], ◌∷◌, Option, Some, None, refl}
use Rattle.std.proofs.Common.{sym, ap, subst}
use Rattle.std.specs.Prelude.{find}
use Rattle.std.specs.Str.{bytes_eq}
use Rattle.std.specs.List.{list_all}
use Rattle.std.proofs.lemmas.List.{append-nil}
use Rattle.std.proofs.lemmas.Bool.{and_parts, eqb-true}
use Rattle.std.proofs.lemmas.Option.{cond_some}
use Rattle.std.proofs.lemmas.Slice.Eq.{bytes_eq-Decides}
use Rattle.brc_text.specs.Tokens.{◌>>=◌}
use Rattle.brc_text.specs.Lines.{cut}
use Rattle.brc_text.proofs.KeywordLaws.{same_some}
use Rattle.brc_text.proofs.TokenLaws.{some_bind}
use Rattle.brc_text.proofs.LineLaws.{cut_parts, behind_mark}
use Rattle.brc_script.specs.declared.first_word.FirstWord.{FirstWord}
use Rattle.brc_script.specs.declared.first_word.FirstWord.TheVariants as words
use Rattle.brc_script.specs.declared.first_word.TheConstants.{FIRST_WORDS}
use Rattle.brc_script.specs.declared.row.ScriptRow.{ScriptRow}
use Rattle.brc_script.specs.declared.row.ScriptRow.TheVariants as rows
use Rattle.brc_script.specs.Instructions.{NumberedLine, registers_differ}
use Rattle.brc_script.specs.FirstWords.{first_word, first_word_at}
use Rattle.brc_script.specs.Operands.{within, is_times, if_it_is}
use Rattle.brc_script.specs.Rows.{is_low, is_idle, is_section_name, instruction_at, numbered, line_at, row_by, row_at}
use Rattle.brc_script.specs.Spellings.{spaced, operands, spelled}
use Rattle.brc_script.specs.Walks.{opening, decided}
use Rattle.brc_script.specs.Texts.{Says, IsNumbered}
use Rattle.brc_script.proofs.OperandLaws.{within_takes, if_takes}
use Rattle.brc_script.proofs.InstructionLaws.{instruction_takes}

-- ---- first words

found_first : {X : Type 0} (p : X → Bool) (y x : X) (b : Bool) (later : Option X) → p y ≡ b
    → (later ≡ Some x → p x ≡ true)
    → cond b (Some y) later ≡ Some x → p x ≡ true
found_first p y x true later h others e = subst (λ z. p z ≡ true) (same_some e) h
found_first p y x false later h others e = others e

find_holds : {X : Type 0} (p : X → Bool) (xs : List X) (x : X) → find p xs ≡ Some x → p x ≡ true
find_holds p [] x e = absurd cc
find_holds p (y ∷ ys) x e = found_first p y x (p y) (find p ys) refl (find_holds p ys x) e

pub first_word_takes : (bytes : List ℕ) (word : FirstWord) → first_word_at bytes ≡ Some word → bytes ≡ first_word word
unfolding first_word_at
first_word_takes bytes word e =
    sym ((bytes_eq-Decides (first_word word) bytes).0
    (find_holds (λ w. bytes_eq (first_word w) bytes) FIRST_WORDS word e))

-- an idle line begins with no word
pub idle_opening : (line : List ℕ) → is_idle line ≡ true → opening line ≡ None
unfolding is_idle opening first_word_at cut
idle_opening [] h = refl
idle_opening (first ∷ bytes) h =
    subst (λ (b : ℕ). opening (b ∷ bytes) ≡ None)
    (sym (eqb-true first 35 (and_parts (eqb first 35) (list_all is_low bytes) h).0)) refl

-- ---- rows

-- the line says so, and has this number
pub record Tells {A : Type 0} (number : ℕ) (line : List ℕ) (row : ScriptRow A) : Type 0 where
  pub says : Says line row
  pub is_numbered : IsNumbered number row

abbrev pub frames : {A : Type 0} → ScriptRow A → Bool
frames rows.Idle = false
frames (rows.Section name) = true
frames (rows.Repeat times) = true
frames rows.End = true
frames (rows.Does line) = false

module _ {A : Type 0} where
  does_tells : (number : ℕ) (word : FirstWord) (rest line : List ℕ) (row : ScriptRow A)
      → (line_at number word rest >>= λ l. Some (rows.Does l)) ≡ Some row
      → line ≡ spaced (first_word word) rest → Tells number line row
  unfolding line_at spelled
  does_tells number word rest line row e whole =
      let l = some_bind (line_at {A = A} number word rest) (λ l. Some (rows.Does l)) row e in
      let i = some_bind (instruction_at word rest) (numbered number) l.0 l.1 in
      let differ = cond_some (registers_differ i.0) (record { number = number; instruction = i.0 }) l.0 i.2 in
      let them = instruction_takes word rest i.0 i.1 in
      subst (Tells number line) (same_some l.2)
      (subst (λ (n : NumberedLine A). Tells number line (rows.Does n)) differ.1 (record {
        says = (
          record { registers = them.rest.there; differ = differ.0; operands = them.rest.fitting },
          whole ∙ sym (ap (λ (w : FirstWord). spaced (first_word w) (operands i.0)) them.named
              ∙ ap (spaced (first_word word)) them.rest.spelled),
        );
        is_numbered = refl;
      }))

  row_by_tells : (number : ℕ) (word : FirstWord) (behind : Option (List ℕ)) (line : List ℕ) (row : ScriptRow A)
      → row_by number word behind ≡ Some row
      → line ≡ first_word word ++ behind_mark 32 behind → Tells number line row
  row_by_tells number words.End None line row e whole =
      subst (Tells number line) (same_some e)
      (record { says = whole ∙ append-nil (first_word words.End); is_numbered = tt })
  row_by_tells number words.End (Some rest) line row e whole = absurd cc
  row_by_tells number words.Section (Some rest) line row e whole =
      let name = some_bind (if_it_is is_section_name rest) (λ name. Some (rows.Section name)) row e in
      let it = if_takes is_section_name rest name.0 name.1 in
      subst (Tells number line) (same_some name.2)
      (record { says = (it.fit, whole ∙ ap (spaced (first_word words.Section)) (sym it.spelled)); is_numbered = tt })
  row_by_tells number words.Repeat (Some rest) line row e whole =
      let times = some_bind (within is_times rest) (λ times. Some (rows.Repeat times)) row e in
      let it = within_takes is_times rest times.0 times.1 in
      subst (Tells number line) (same_some times.2)
      (record { says = (it.fit, whole ∙ ap (spaced (first_word words.Repeat)) (sym it.spelled)); is_numbered = tt })
  row_by_tells number word None line row e whole = absurd cc
  row_by_tells number word (Some rest) line row e whole = does_tells number word rest line row e whole

  pub row_tells : (number : ℕ) (line : List ℕ) (row : ScriptRow A) → row_at number line ≡ Some row
      → Tells number line row
  unfolding row_at
  row_tells number line row e = by_idle (is_idle line) refl e
    where
      by_idle : (b : Bool) → is_idle line ≡ b
          → cond b (Some rows.Idle) (first_word_at (cut 32 line).0 >>= λ word. row_by number word (cut 32 line).1)
          ≡ Some row → Tells number line row
      by_idle true is h = subst (Tells number line) (same_some h) (record { says = is; is_numbered = tt })
      by_idle false is h =
          let word = some_bind (first_word_at (cut 32 line).0) (λ word. row_by number word (cut 32 line).1) row h in
          row_by_tells number word.0 (cut 32 line).1 line row word.2
          ((cut_parts 32 line).joined ∙ ap (λ (l : List ℕ). l ++ behind_mark 32 (cut 32 line).1)
          (first_word_takes (cut 32 line).0 word.0 word.1))

  -- ---- which lines decide an open `repeat`

  not_a_frame : (row frame : ScriptRow A) → frames frame ≡ true → Some frame ≡ Some row → frames row ≡ false → ⊥
  not_a_frame row frame is e h = absurd (let same = ap frames (same_some e) in cc)

  undecided : (number : ℕ) (word : FirstWord) (behind : Option (List ℕ)) (row : ScriptRow A)
      → row_by number word behind ≡ Some row → frames row ≡ false
      → decided (Some word) ≡ None
  undecided number words.End None row e h = absurd (not_a_frame row rows.End refl e h)
  undecided number words.End (Some rest) row e h = absurd cc
  undecided number words.Section None row e h = absurd cc
  undecided number words.Section (Some rest) row e h =
      let name = some_bind (if_it_is is_section_name rest) (λ name. Some (rows.Section name)) row e in
      absurd (not_a_frame row (rows.Section name.0) refl name.2 h)
  undecided number words.Repeat None row e h = absurd cc
  undecided number words.Repeat (Some rest) row e h =
      let times = some_bind (within is_times rest) (λ times. Some (rows.Repeat times)) row e in
      absurd (not_a_frame row (rows.Repeat times.0) refl times.2 h)
  undecided number _ behind row e h = refl

  pub decides_nothing : (number : ℕ) (line : List ℕ) (row : ScriptRow A) → row_at number line ≡ Some row
      → frames row ≡ false
      → decided (opening line) ≡ None
  unfolding row_at opening
  decides_nothing number line row e h = by_idle (is_idle line) refl e
    where
      by_idle : (b : Bool) → is_idle line ≡ b
          → cond b (Some rows.Idle) (first_word_at (cut 32 line).0 >>= λ word. row_by number word (cut 32 line).1)
          ≡ Some row → decided (opening line) ≡ None
      by_idle true is s = ap decided (idle_opening line is)
      by_idle false is s =
          let word = some_bind (first_word_at (cut 32 line).0) (λ word. row_by number word (cut 32 line).1) row s in
          ap decided word.1 ∙ undecided number word.0 (cut 32 line).1 row word.2 h
