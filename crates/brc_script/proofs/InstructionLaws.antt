-- The operands of an instruction are read as they are spelled, and only so.
use Rattle.std.proofs.Common.{◌≡◌, ◌∙◌, ℕ, Bool, true, List, [], ◌∷◌, Option, Some, None, refl, ap, subst, decimal, ℤ}
use Rattle.std.specs.List.{list_all}
use Rattle.std.proofs.lemmas.Bool.{and_from}
use Rattle.brc_words.specs.declared.key.Key.{Key}
use Rattle.brc_text.specs.Tokens.{◌>>=◌, or_else}
use Rattle.brc_text.proofs.KeywordLaws.{same_some}
use Rattle.brc_text.proofs.TokenLaws.{some_bind}
use Rattle.brc_script.specs.declared.first_word.FirstWord.{FirstWord}
use Rattle.brc_script.specs.declared.first_word.FirstWord.TheVariants as words
use Rattle.brc_script.specs.declared.instruction.Instruction.{Instruction}
use Rattle.brc_script.specs.declared.instruction.Instruction.TheVariants as instructions
use Rattle.brc_script.specs.Instructions.{is_register, is_index, is_integer, is_text, is_name, is_key, registers_of}
use Rattle.brc_script.specs.Instructions.{operands_fit}
use Rattle.brc_script.specs.Operands.{register_at, within, integer_at, if_it_is, ahead, key_at, two_at, three_at}
use Rattle.brc_script.specs.Operands.{with_integer_at, two_with_index_at, index_between_at}
use Rattle.brc_script.specs.Rows.{text_at, put_at, find_at, delete_at, share_at, fetch_at, unshare_at, instruction_at}
use Rattle.brc_script.specs.Spellings.{spaced, register, integer, two, key, word_of, operands}
use Rattle.brc_script.proofs.OperandLaws.{IsAhead, within_takes, register_takes, integer_takes, itself, if_takes}
use Rattle.brc_script.proofs.OperandLaws.{key_takes, ahead_takes}

-- the bytes are that text, the registers are there, and the other operands pass their test
pub record AreOperands (registers : List ℕ) (text bytes : List ℕ) (fit : Bool) : Type 0 where
  pub there : list_all is_register registers ≡ true
  pub spelled : text ≡ bytes
  pub fitting : fit ≡ true

abbrev pub register_ahead : (bytes : List ℕ) (found : ℕ × List ℕ) → ahead register_at bytes ≡ Some found
    → IsAhead register is_register bytes found
register_ahead bytes found e = ahead_takes register is_register register_at register_takes bytes found e

pub one_takes : (bytes : List ℕ) (n : ℕ) → register_at bytes ≡ Some n → AreOperands (n ∷ []) (register n) bytes true
one_takes bytes n e =
    let it = register_takes bytes n e in
    record { there = and_from (is_register n) true it.fit refl; spelled = it.spelled; fitting = refl }

pub two_takes : (bytes : List ℕ) (o : ℕ × ℕ) → two_at bytes ≡ Some o
    → AreOperands (o.0 ∷ o.1 ∷ []) (two o.0 o.1) bytes true
unfolding two_at
two_takes bytes o e =
    let a = some_bind (ahead register_at bytes)
    (λ first. register_at first.1 >>= λ second. Some (first.0, second)) o e in
    let b = some_bind (register_at a.0.1) (λ second. Some (a.0.0, second)) o a.2 in
    let first = register_ahead bytes a.0 a.1 in
    let second = register_takes a.0.1 b.0 b.1 in
    subst (λ (o : ℕ × ℕ). AreOperands (o.0 ∷ o.1 ∷ []) (two o.0 o.1) bytes true) (same_some b.2) (record {
      there = and_from _ _ first.fit (and_from _ _ second.fit refl);
      spelled = ap (spaced (register a.0.0)) second.spelled ∙ first.spelled;
      fitting = refl;
    })

pub three_takes : (bytes : List ℕ) (o : ℕ × ℕ × ℕ) → three_at bytes ≡ Some o
    → AreOperands (o.0 ∷ o.1 ∷ o.2 ∷ []) (spaced (register o.0) (two o.1 o.2)) bytes true
unfolding three_at
three_takes bytes o e =
    let a = some_bind (ahead register_at bytes)
    (λ first. two_at first.1 >>= λ others. Some (first.0, others.0, others.1)) o e in
    let b = some_bind (two_at a.0.1) (λ others. Some (a.0.0, others.0, others.1)) o a.2 in
    let first = register_ahead bytes a.0 a.1 in
    let others = two_takes a.0.1 b.0 b.1 in
    subst (λ (o : ℕ × ℕ × ℕ). AreOperands (o.0 ∷ o.1 ∷ o.2 ∷ []) (spaced (register o.0) (two o.1 o.2)) bytes true)
    (same_some b.2) (record {
      there = and_from _ _ first.fit others.there;
      spelled = ap (spaced (register a.0.0)) others.spelled ∙ first.spelled;
      fitting = refl;
    })

pub with_integer_takes : (bytes : List ℕ) (o : ℕ × ℤ) → with_integer_at bytes ≡ Some o
    → AreOperands (o.0 ∷ []) (spaced (register o.0) (integer o.1)) bytes (is_integer o.1)
unfolding with_integer_at
with_integer_takes bytes o e =
    let a = some_bind (ahead register_at bytes)
    (λ first. integer_at first.1 >>= λ number. Some (first.0, number)) o e in
    let b = some_bind (integer_at a.0.1) (λ number. Some (a.0.0, number)) o a.2 in
    let first = register_ahead bytes a.0 a.1 in
    let number = integer_takes a.0.1 b.0 b.1 in
    subst (λ (o : ℕ × ℤ). AreOperands (o.0 ∷ []) (spaced (register o.0) (integer o.1)) bytes (is_integer o.1))
    (same_some b.2) (record {
      there = and_from _ true first.fit refl;
      spelled = ap (spaced (register a.0.0)) number.spelled ∙ first.spelled;
      fitting = number.fit;
    })

pub two_with_index_takes : (bytes : List ℕ) (o : ℕ × ℕ × ℕ) → two_with_index_at bytes ≡ Some o
    → AreOperands (o.0 ∷ o.1 ∷ []) (spaced (register o.0) (spaced (register o.1) (decimal o.2))) bytes (is_index o.2)
unfolding two_with_index_at
two_with_index_takes bytes o e =
    let a = some_bind (ahead register_at bytes)
    (λ first. ahead register_at first.1 >>= λ second. within is_index second.1 >>= λ index. Some
    (first.0, second.0, index)) o e in
    let b = some_bind (ahead register_at a.0.1)
    (λ second. within is_index second.1 >>= λ index. Some (a.0.0, second.0, index)) o a.2 in
    let d = some_bind (within is_index b.0.1) (λ index. Some (a.0.0, b.0.0, index)) o b.2 in
    let first = register_ahead bytes a.0 a.1 in
    let second = register_ahead a.0.1 b.0 b.1 in
    let index = within_takes is_index b.0.1 d.0 d.1 in
    subst (λ (o : ℕ × ℕ × ℕ). AreOperands (o.0 ∷ o.1 ∷ []) (spaced (register o.0) (spaced (register o.1) (decimal o.2)))
    bytes (is_index o.2)) (same_some d.2) (record {
      there = and_from _ _ first.fit (and_from _ true second.fit refl);
      spelled = ap (λ (l : List ℕ). spaced (register a.0.0) (spaced (register b.0.0) l)) index.spelled
          ∙ ap (spaced (register a.0.0)) second.spelled ∙ first.spelled;
      fitting = index.fit;
    })

pub index_between_takes : (bytes : List ℕ) (o : ℕ × ℕ × ℕ) → index_between_at bytes ≡ Some o
    → AreOperands (o.0 ∷ o.2 ∷ []) (spaced (register o.0) (spaced (decimal o.1) (register o.2))) bytes (is_index o.1)
unfolding index_between_at
index_between_takes bytes o e =
    let a = some_bind (ahead register_at bytes)
    (λ first. ahead (within is_index) first.1 >>= λ index. register_at index.1 >>= λ second. Some
    (first.0, index.0, second)) o e in
    let b = some_bind (ahead (within is_index) a.0.1)
    (λ index. register_at index.1 >>= λ second. Some (a.0.0, index.0, second)) o a.2 in
    let d = some_bind (register_at b.0.1) (λ second. Some (a.0.0, b.0.0, second)) o b.2 in
    let first = register_ahead bytes a.0 a.1 in
    let index = ahead_takes decimal is_index (within is_index) (within_takes is_index) a.0.1 b.0 b.1 in
    let second = register_takes b.0.1 d.0 d.1 in
    subst (λ (o : ℕ × ℕ × ℕ). AreOperands (o.0 ∷ o.2 ∷ []) (spaced (register o.0) (spaced (decimal o.1) (register o.2)))
    bytes (is_index o.1)) (same_some d.2) (record {
      there = and_from _ _ first.fit (and_from _ true second.fit refl);
      spelled = ap (λ (l : List ℕ). spaced (register a.0.0) (spaced (decimal b.0.0) l)) second.spelled
          ∙ ap (spaced (register a.0.0)) index.spelled ∙ first.spelled;
      fitting = index.fit;
    })

-- ---- instructions

module _ {A : Type 0} where
  pub record AreInstruction (word : FirstWord) (bytes : List ℕ) (instruction : Instruction A) : Type 0 where
    pub named : word_of instruction ≡ word
    pub rest : AreOperands (registers_of instruction) (operands instruction) bytes (operands_fit instruction)

  -- an instruction that was made of what was read
  made : {X : Type 0} (word : FirstWord) (bytes : List ℕ) (read : Option X) (make : X → Instruction A)
      (i : Instruction A)
      → ((x : X) → read ≡ Some x → AreInstruction word bytes (make x)) → (read >>= λ x. Some (make x)) ≡ Some i
      → AreInstruction word bytes i
  made word bytes read make i takes e =
      let x = some_bind read (λ x. Some (make x)) i e in
      subst (AreInstruction word bytes) (same_some x.2) (takes x.0 x.1)

  first_alone : (o : Option (Instruction A)) (i : Instruction A) → or_else o None ≡ Some i → o ≡ Some i
  first_alone None i e = e
  first_alone (Some x) i e = e

  -- a register and a text behind it, or a name
  with_bytes : (fits : List ℕ → Bool) (make : ℕ → List ℕ → Instruction A) (word : FirstWord) (bytes : List ℕ)
      (i : Instruction A)
      → ((to : ℕ) (text : List ℕ) → AreOperands (to ∷ []) (spaced (register to) text) bytes (fits text)
      → AreInstruction word bytes (make to text))
      → (ahead register_at bytes >>= λ to. if_it_is fits to.1 >>= λ text. Some (make to.0 text)) ≡ Some i
      → AreInstruction word bytes i
  with_bytes fits make word bytes i takes e =
      let a = some_bind (ahead register_at bytes) (λ to. if_it_is fits to.1 >>= λ text. Some (make to.0 text)) i e in
      let b = some_bind (if_it_is fits a.0.1) (λ text. Some (make a.0.0 text)) i a.2 in
      let first = register_ahead bytes a.0 a.1 in
      let text = if_takes fits a.0.1 b.0 b.1 in
      subst (AreInstruction word bytes) (same_some b.2) (takes a.0.0 b.0 (record {
        there = and_from _ true first.fit refl;
        spelled = ap (spaced (register a.0.0)) text.spelled ∙ first.spelled;
        fitting = text.fit;
      }))

  -- two registers and a key
  with_key : (make : ℕ → ℕ → Key A → Instruction A) (word : FirstWord) (bytes : List ℕ) (i : Instruction A)
      → ((to dict : ℕ) (k : Key A)
      → AreOperands (to ∷ dict ∷ []) (spaced (register to) (spaced (register dict) (key k))) bytes (is_key k)
      → AreInstruction word bytes (make to dict k))
      → (ahead register_at bytes >>= λ to. ahead register_at to.1 >>= λ dict. key_at dict.1 >>= λ k. Some
      (make to.0 dict.0 k)) ≡ Some i
      → AreInstruction word bytes i
  with_key make word bytes i takes e =
      let a = some_bind (ahead register_at bytes) (λ to. ahead register_at to.1 >>= λ dict. key_at dict.1 >>= λ k. Some
      (make to.0 dict.0 k)) i e in
      let b = some_bind (ahead register_at a.0.1) (λ dict. key_at dict.1 >>= λ k. Some (make a.0.0 dict.0 k)) i a.2 in
      let d = some_bind (key_at b.0.1) (λ k. Some (make a.0.0 b.0.0 k)) i b.2 in
      let first = register_ahead bytes a.0 a.1 in
      let second = register_ahead a.0.1 b.0 b.1 in
      let k = key_takes b.0.1 d.0 d.1 in
      subst (AreInstruction word bytes) (same_some d.2) (takes a.0.0 b.0.0 d.0 (record {
        there = and_from _ _ first.fit (and_from _ true second.fit refl);
        spelled = ap (λ (l : List ℕ). spaced (register a.0.0) (spaced (register b.0.0) l)) k.spelled
            ∙ ap (spaced (register a.0.0)) second.spelled ∙ first.spelled;
        fitting = k.fit;
      }))

  put_takes : (bytes : List ℕ) (i : Instruction A) → put_at bytes ≡ Some i → AreInstruction words.Put bytes i
  unfolding put_at
  put_takes bytes i e =
      let a = some_bind (ahead register_at bytes)
      (λ dict. ahead key_at dict.1 >>= λ k. register_at k.1 >>= λ value. Some (instructions.Put dict.0 k.0 value)) i e
      in
      let b = some_bind (ahead (key_at {A = A}) a.0.1)
      (λ k. register_at k.1 >>= λ value. Some (instructions.Put a.0.0 k.0 value)) i a.2 in
      let d = some_bind (register_at b.0.1) (λ value. Some (instructions.Put a.0.0 b.0.0 value)) i b.2 in
      let dict = register_ahead bytes a.0 a.1 in
      let k = ahead_takes key is_key key_at key_takes a.0.1 b.0 b.1 in
      let value = register_takes b.0.1 d.0 d.1 in
      subst (AreInstruction words.Put bytes) (same_some d.2) (record {
        named = refl;
        rest = record {
          there = and_from _ _ dict.fit (and_from _ true value.fit refl);
          spelled = ap (λ (l : List ℕ). spaced (register a.0.0) (spaced (key b.0.0) l)) value.spelled
              ∙ ap (spaced (register a.0.0)) k.spelled ∙ dict.spelled;
          fitting = k.fit;
        };
      })

  share_takes : (bytes : List ℕ) (i : Instruction A) → share_at bytes ≡ Some i → AreInstruction words.Share bytes i
  unfolding share_at
  share_takes bytes i e =
      let a = some_bind (ahead (if_it_is is_name) bytes)
      (λ name. register_at name.1 >>= λ value. Some (instructions.Share name.0 value)) i e in
      let b = some_bind (register_at a.0.1) (λ value. Some (instructions.Share a.0.0 value)) i a.2 in
      let name = ahead_takes itself is_name (if_it_is is_name) (if_takes is_name) bytes a.0 a.1 in
      let value = register_takes a.0.1 b.0 b.1 in
      subst (AreInstruction words.Share bytes) (same_some b.2) (record {
        named = refl;
        rest = record {
          there = and_from _ true value.fit refl;
          spelled = ap (spaced a.0.0) value.spelled ∙ name.spelled;
          fitting = name.fit;
        };
      })

  pub instruction_takes : (word : FirstWord) (bytes : List ℕ) (i : Instruction A) → instruction_at word bytes ≡ Some i
      → AreInstruction word bytes i
  unfolding instruction_at text_at find_at delete_at fetch_at unshare_at
  instruction_takes words.Int bytes i e = made words.Int bytes (with_integer_at bytes) (λ o. instructions.Int o.0 o.1) i
      (λ o h. record { named = refl; rest = with_integer_takes bytes o h }) (first_alone _ i e)
  instruction_takes words.List bytes i e = made words.List bytes (register_at bytes) (λ to. instructions.List to) i
      (λ to h. record { named = refl; rest = one_takes bytes to h }) (first_alone _ i e)
  instruction_takes words.Dict bytes i e = made words.Dict bytes (register_at bytes) (λ to. instructions.Dict to) i
      (λ to h. record { named = refl; rest = one_takes bytes to h }) (first_alone _ i e)
  instruction_takes words.Mailbox bytes i e = made words.Mailbox bytes (register_at bytes)
      (λ to. instructions.Mailbox to) i
      (λ to h. record { named = refl; rest = one_takes bytes to h }) (first_alone _ i e)
  instruction_takes words.Copy bytes i e = made words.Copy bytes (two_at bytes) (λ o. instructions.Copy o.0 o.1) i
      (λ o h. record { named = refl; rest = two_takes bytes o h }) (first_alone _ i e)
  instruction_takes words.Drop bytes i e = made words.Drop bytes (register_at bytes) (λ from. instructions.Drop from) i
      (λ from h. record { named = refl; rest = one_takes bytes from h }) (first_alone _ i e)
  instruction_takes words.Push bytes i e = made words.Push bytes (two_at bytes) (λ o. instructions.Push o.0 o.1) i
      (λ o h. record { named = refl; rest = two_takes bytes o h }) (first_alone _ i e)
  instruction_takes words.Pop bytes i e = made words.Pop bytes (two_at bytes) (λ o. instructions.Pop o.0 o.1) i
      (λ o h. record { named = refl; rest = two_takes bytes o h }) (first_alone _ i e)
  instruction_takes words.Get bytes i e = made words.Get bytes (two_with_index_at bytes)
      (λ o. instructions.Get o.0 o.1 o.2) i
      (λ o h. record { named = refl; rest = two_with_index_takes bytes o h }) (first_alone _ i e)
  instruction_takes words.Set bytes i e = made words.Set bytes (index_between_at bytes)
      (λ o. instructions.Set o.0 o.1 o.2) i
      (λ o h. record { named = refl; rest = index_between_takes bytes o h }) (first_alone _ i e)
  instruction_takes words.Len bytes i e = made words.Len bytes (two_at bytes) (λ o. instructions.Len o.0 o.1) i
      (λ o h. record { named = refl; rest = two_takes bytes o h }) (first_alone _ i e)
  instruction_takes words.Send bytes i e = made words.Send bytes (two_at bytes) (λ o. instructions.Send o.0 o.1) i
      (λ o h. record { named = refl; rest = two_takes bytes o h }) (first_alone _ i e)
  instruction_takes words.Recv bytes i e = made words.Recv bytes (two_at bytes) (λ o. instructions.Receive o.0 o.1) i
      (λ o h. record { named = refl; rest = two_takes bytes o h }) (first_alone _ i e)
  instruction_takes words.Add bytes i e = made words.Add bytes (three_at bytes) (λ o. instructions.Add o.0 o.1 o.2) i
      (λ o h. record { named = refl; rest = three_takes bytes o h }) (first_alone _ i e)
  instruction_takes words.Print bytes i e = made words.Print bytes (register_at bytes)
      (λ from. instructions.Print from) i
      (λ from h. record { named = refl; rest = one_takes bytes from h }) (first_alone _ i e)
  instruction_takes words.Text bytes i e = with_bytes is_text (λ to text. instructions.Text to text) words.Text bytes i
      (λ to text h. record { named = refl; rest = h }) e
  instruction_takes words.Put bytes i e = put_takes bytes i e
  instruction_takes words.Find bytes i e = with_key (λ to dict k. instructions.Find to dict k) words.Find bytes i
      (λ to dict k h. record { named = refl; rest = h }) e
  instruction_takes words.Del bytes i e = with_key (λ to dict k. instructions.Delete to dict k) words.Del bytes i
      (λ to dict k h. record { named = refl; rest = h }) e
  instruction_takes words.Share bytes i e = share_takes bytes i e
  instruction_takes words.Fetch bytes i e = with_bytes is_name
      (λ to name. instructions.Fetch to name) words.Fetch bytes i
      (λ to name h. record { named = refl; rest = h }) e
  instruction_takes words.Unshare bytes i e = with_bytes is_name
      (λ to name. instructions.Unshare to name) words.Unshare bytes i
      (λ to name h. record { named = refl; rest = h }) e
  instruction_takes words.Section bytes i e = absurd cc
  instruction_takes words.Repeat bytes i e = absurd cc
  instruction_takes words.End bytes i e = absurd cc
