-- Each operand is read as it is spelled, and only so.
use Rattle.std.proofs.Common.{◌≡◌, ◌∙◌, ℕ, ◌+◌, ◌-◌, ◌^◌, ◌++◌, Bool, true, false, eqb, leb, cond, if◌then◌else◌, List}
use Rattle.std.proofs.Common.{[], ◌∷◌, Option, Some, None, refl, sym, ap, subst, decimal, ℤ, pos, negsuc, arith}
use Rattle.std.proofs.lemmas.Bool.{and_parts, eqb-true, leb-true, lt-ltb}
use Rattle.std.proofs.lemmas.Option.{cond_some}
use Rattle.brc_words.specs.declared.key.Key.{Key}
use Rattle.brc_words.specs.declared.key.Key.TheVariants as keys
use Rattle.brc_text.specs.Numbers.{number_at}
use Rattle.brc_text.specs.Tokens.{◌>>=◌}
use Rattle.brc_text.specs.Lines.{cut}
use Rattle.brc_text.proofs.NumberLaws.{number_takes}
use Rattle.brc_text.proofs.KeywordLaws.{same_some}
use Rattle.brc_text.proofs.TokenLaws.{some_bind}
use Rattle.brc_text.proofs.LineLaws.{cut_parts, behind_mark}
use Rattle.brc_script.specs.Instructions.{is_register, is_integer, is_name, is_key}
use Rattle.brc_script.specs.Operands.{within, register_at, is_above, is_below, below_at, above_at, integer_at, if_it_is}
use Rattle.brc_script.specs.Operands.{ahead, key_at}
use Rattle.brc_script.specs.Spellings.{spaced, register, integer, key}

-- the bytes were read so: the value passes the test, and they are its spelling
pub record IsSpelling {X : Type 0} (write : X → List ℕ) (fits : X → Bool) (bytes : List ℕ) (x : X) : Type 0 where
  pub fit : fits x ≡ true
  pub spelled : write x ≡ bytes

pub within_takes : (fits : ℕ → Bool) (bytes : List ℕ) (n : ℕ) → within fits bytes ≡ Some n
    → IsSpelling decimal fits bytes n
unfolding within
within_takes fits bytes n e =
    let m = some_bind (number_at bytes) (λ n. if fits n then Some n else None) n e in
    let parts = cond_some (fits m.0) m.0 n m.2 in
    subst (IsSpelling decimal fits bytes) parts.1
    (record { fit = parts.0; spelled = sym (number_takes bytes m.0 m.1).1 })

pub register_takes : (bytes : List ℕ) (n : ℕ) → register_at bytes ≡ Some n → IsSpelling register is_register bytes n
unfolding register_at
register_takes [] n e = absurd cc
register_takes (letter ∷ digits) n e = by_letter (eqb letter 114) refl e
  where
    by_letter : (b : Bool) → eqb letter 114 ≡ b → cond b (within is_register digits) None ≡ Some n
        → IsSpelling register is_register (letter ∷ digits) n
    by_letter true is h =
        let it = within_takes is_register digits n h in
        record {
          fit = it.fit;
          spelled = ap (λ (l : List ℕ). 114 ∷ l) it.spelled
              ∙ ap (λ (b : ℕ). b ∷ digits) (sym (eqb-true letter 114 is));
        }
    by_letter false is h = absurd cc

below_fits : (n : ℕ) → is_below n ≡ true → is_integer (negsuc (n - 1)) ≡ true
unfolding is_integer
below_fits n h = let both = and_parts (leb 1 n) (leb n (2 ^ 63)) h in lt-ltb (n - 1) (2 ^ 63)
    (omega (arith, leb-true 1 n both.0, leb-true n (2 ^ 63) both.1))

above_fits : (n : ℕ) → is_above n ≡ true → is_integer (pos n) ≡ true
unfolding is_integer
above_fits n h = h

again_one : (n : ℕ) → is_below n ≡ true → n - 1 + 1 ≡ n
again_one n h = omega (arith, leb-true 1 n (and_parts (leb 1 n) (leb n (2 ^ 63)) h).0)

below_takes : (digits : List ℕ) (z : ℤ) → below_at digits ≡ Some z → IsSpelling integer is_integer (45 ∷ digits) z
below_takes digits z e =
    let n = some_bind (within is_below digits) (λ n. Some (negsuc (n - 1))) z e in
    let it = within_takes is_below digits n.0 n.1 in
    subst (IsSpelling integer is_integer (45 ∷ digits)) (same_some n.2) (record {
      fit = below_fits n.0 it.fit;
      spelled = ap (λ (l : List ℕ). 45 ∷ l) (ap decimal (again_one n.0 it.fit) ∙ it.spelled);
    })

above_takes : (bytes : List ℕ) (z : ℤ) → above_at bytes ≡ Some z → IsSpelling integer is_integer bytes z
above_takes bytes z e =
    let n = some_bind (within is_above bytes) (λ n. Some (pos n)) z e in
    let it = within_takes is_above bytes n.0 n.1 in
    subst (IsSpelling integer is_integer bytes) (same_some n.2)
    (record { fit = above_fits n.0 it.fit; spelled = it.spelled })

pub integer_takes : (bytes : List ℕ) (z : ℤ) → integer_at bytes ≡ Some z → IsSpelling integer is_integer bytes z
unfolding integer_at
integer_takes [] z e = absurd cc
integer_takes (first ∷ digits) z e = by_first (eqb first 45) refl e
  where
    by_first : (b : Bool) → eqb first 45 ≡ b → cond b (below_at digits) (above_at (first ∷ digits)) ≡ Some z
        → IsSpelling integer is_integer (first ∷ digits) z
    by_first true is h = subst (λ (b : ℕ). IsSpelling integer is_integer (b ∷ digits) z) (sym (eqb-true first 45 is))
        (below_takes digits z h)
    by_first false is h = above_takes (first ∷ digits) z h

-- bytes that spell themselves
abbrev pub itself : List ℕ → List ℕ
itself bytes = bytes

pub if_takes : (fits : List ℕ → Bool) (bytes x : List ℕ) → if_it_is fits bytes ≡ Some x → IsSpelling itself fits bytes x
if_takes fits bytes x e =
    let parts = cond_some (fits bytes) bytes x e in
    subst (IsSpelling itself fits bytes) parts.1 (record { fit = parts.0; spelled = refl })

module _ {A : Type 0} where
  pub key_takes : (bytes : List ℕ) (k : Key A) → key_at bytes ≡ Some k → IsSpelling key is_key bytes k
  unfolding key_at
  key_takes [] k e = absurd cc
  key_takes (first ∷ name) k e = by_first (eqb first 39) refl e
    where
      by_first : (b : Bool) → eqb first 39 ≡ b
          → cond b (if_it_is is_name name >>= λ bytes. Some (keys.Text bytes))
          (integer_at (first ∷ name) >>= λ number. Some (keys.Int number)) ≡ Some k
          → IsSpelling key is_key (first ∷ name) k
      by_first true is h =
          let it = some_bind (if_it_is is_name name) (λ bytes. Some (keys.Text bytes)) k h in
          let them = if_takes is_name name it.0 it.1 in
          subst (IsSpelling key is_key (first ∷ name)) (same_some it.2) (record {
            fit = them.fit;
            spelled = ap (λ (l : List ℕ). 39 ∷ l) them.spelled ∙ ap (λ (b : ℕ). b ∷ name) (sym (eqb-true first 39 is));
          })
      by_first false is h =
          let it = some_bind (integer_at (first ∷ name)) (λ number. Some (keys.Int number)) k h in
          let them = integer_takes (first ∷ name) it.0 it.1 in
          subst (IsSpelling key is_key (first ∷ name)) (same_some it.2)
          (record { fit = them.fit; spelled = them.spelled })

-- ---- what stands before a space

pub record IsAhead {X : Type 0} (write : X → List ℕ) (fits : X → Bool) (bytes : List ℕ)
    (found : X × List ℕ) : Type 0 where
  pub fit : fits found.0 ≡ true
  pub spelled : spaced (write found.0) found.1 ≡ bytes

pub ahead_takes : {X : Type 0} (write : X → List ℕ) (fits : X → Bool) (read : List ℕ → Option X)
    → ((word : List ℕ) (x : X) → read word ≡ Some x → IsSpelling write fits word x)
    → (bytes : List ℕ) (found : X × List ℕ) → ahead read bytes ≡ Some found → IsAhead write fits bytes found
unfolding ahead
ahead_takes {X = X} write fits read takes bytes found e =
    let rest = some_bind (cut 32 bytes).1 (λ rest. read (cut 32 bytes).0 >>= λ x. Some (x, rest)) found e in
    let x = some_bind (read (cut 32 bytes).0) (λ x. Some (x, rest.0)) found rest.2 in
    let it = takes (cut 32 bytes).0 x.0 x.1 in
    let whole : spaced (cut 32 bytes).0 rest.0 ≡ bytes =
    sym ((cut_parts 32 bytes).joined ∙ ap (λ (o : Option (List ℕ)). (cut 32 bytes).0 ++ behind_mark 32 o) rest.1) in
    subst (IsAhead write fits bytes) (same_some x.2)
    (record { fit = it.fit; spelled = ap (λ (l : List ℕ). spaced l rest.0) it.spelled ∙ whole })
