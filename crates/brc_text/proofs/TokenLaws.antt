-- A token is read as it was spelled, and only so.
use Rattle.std.proofs.Common.{◌≡◌, ℕ, ◌<◌, ◌≤◌, length, get_or, drop, ◌++◌, inl, inr, Bool, true, false, eqb, List, []}
use Rattle.std.proofs.Common.{◌∷◌, Option, Some, None, refl, sym, ap, subst, ◌∙◌, decimal, arith, cond}
use Rattle.std.specs.Prelude.{IfSome}
use Rattle.std.specs.Fmt.{digits}
use Rattle.std.specs.Int.{IsInRange}
use Rattle.std.specs.Char.{is_ascii_digit}
use Rattle.std.proofs.lemmas.List.{get_or_past}
use Rattle.std.proofs.lemmas.Fmt.{decimal_nonempty}
use Rattle.std.proofs.lemmas.Bool.{cases_lt, eqb-true}
use Rattle.brc_text.specs.declared.keyword.Keyword.{Keyword}
use Rattle.brc_text.specs.declared.keyword.Keyword.TheVariants as words
use Rattle.brc_text.specs.declared.token.Letter.{Letter}
use Rattle.brc_text.specs.declared.token.Letter.TheVariants as letters
use Rattle.brc_text.specs.declared.token.Token.{Token}
use Rattle.brc_text.specs.declared.token.Token.TheVariants as tokens
use Rattle.brc_text.specs.Numbers.{number_at}
use Rattle.brc_text.specs.Keywords.{keyword, keyword_at}
use Rattle.brc_text.specs.Tokens.{◌>>=◌, or_else, letter, letter_at, token, place_at, token_at, IsRead}
use Rattle.brc_text.specs.Words.{EndsWord, Begins}
use Rattle.brc_text.proofs.NumberLaws.{number_again, number_takes, not_a_digit, no_bytes, digit_in, digit_out}
use Rattle.brc_text.proofs.NumberLaws.{low_is_no_digit, front_byte, next_byte}
use Rattle.brc_text.proofs.KeywordLaws.{same_some, keyword_some, keyword_again, keyword_takes, no_keyword}

-- the value of a reading that gave one
pub some_bind : {A B : Type 0} (o : Option A) (f : A → Option B) (y : B) → (o >>= f) ≡ Some y
    → (x : A) × (o ≡ Some x) × (f x ≡ Some y)
some_bind None f y e = absurd cc
some_bind (Some x) f y e = (x, refl, e)

-- ---- letters

letter_again : (l : Letter) → letter_at (letter l) ≡ Some l
letter_again letters.Frame = refl
letter_again _ = refl

letter_takes : (byte : ℕ) (l : Letter) → letter_at byte ≡ Some l → byte ≡ letter l
letter_takes byte l e = by_tests (eqb byte 102) (eqb byte 101) (eqb byte 105) (eqb byte 119) (eqb byte 113) refl refl
    refl refl refl e
  where
    by_tests : (a b c d g : Bool) → eqb byte 102 ≡ a → eqb byte 101 ≡ b → eqb byte 105 ≡ c → eqb byte 119 ≡ d
        → eqb byte 113 ≡ g
        → cond a (Some letters.Frame)
        (cond b (Some letters.Entry)
        (cond c (Some letters.Immortal) (cond d (Some letters.Work) (cond g (Some letters.Popped) None)))) ≡ Some l
        → byte ≡ letter l
    by_tests true b c d g p q r s u e = eqb-true _ _ p ∙ ap letter (same_some e)
    by_tests false true c d g p q r s u e = eqb-true _ _ q ∙ ap letter (same_some e)
    by_tests false false true d g p q r s u e = eqb-true _ _ r ∙ ap letter (same_some e)
    by_tests false false false true g p q r s u e = eqb-true _ _ s ∙ ap letter (same_some e)
    by_tests false false false false true p q r s u e = eqb-true _ _ u ∙ ap letter (same_some e)
    by_tests false false false false false p q r s u e = absurd cc

-- ---- tokens

place_is_no_number : (l : Letter) (ds : List ℕ) → number_at (letter l ∷ ds) ≡ None
place_is_no_number letters.Frame ds = not_a_digit (102 ∷ ds) 0 (omega arith) (λ r. omega (arith, r.1))
place_is_no_number letters.Entry ds = not_a_digit (101 ∷ ds) 0 (omega arith) (λ r. omega (arith, r.1))
place_is_no_number letters.Immortal ds = not_a_digit (105 ∷ ds) 0 (omega arith) (λ r. omega (arith, r.1))
place_is_no_number letters.Work ds = not_a_digit (119 ∷ ds) 0 (omega arith) (λ r. omega (arith, r.1))
place_is_no_number letters.Popped ds = not_a_digit (113 ∷ ds) 0 (omega arith) (λ r. omega (arith, r.1))

keyword_is_no_number : (k : Keyword) → number_at (keyword k) ≡ None
unfolding number_at digits
keyword_is_no_number words.Heap = refl
keyword_is_no_number _ = refl

keyword_is_no_place : (k : Keyword) → place_at (keyword k) ≡ None
unfolding place_at number_at digits
keyword_is_no_place words.Heap = refl
keyword_is_no_place _ = refl

-- what was spelled is read
pub token_again : (t : Token) → IsRead t → token_at (token t) ≡ Some t
unfolding token_at place_at
token_again (tokens.Number n) h = rw (number_again n h) refl
token_again (tokens.Negative n) h = absurd h
token_again (tokens.Place l n) h = rw (place_is_no_number l (decimal n), letter_again l, number_again n h) refl
token_again (tokens.Word k) h = rw (keyword_is_no_number k, keyword_is_no_place k, keyword_again k) refl

place_takes : (bytes : List ℕ) (t : Token) → place_at bytes ≡ Some t → IsRead t × (bytes ≡ token t)
unfolding place_at
place_takes [] t e = absurd cc
place_takes (byte ∷ ds) t e =
    let l = some_bind (letter_at byte) _ t e in
    let n = some_bind (number_at ds) _ t l.2 in
    let number = number_takes ds n.0 n.1 in
    subst (λ (u : Token). IsRead u × ((byte ∷ ds) ≡ token u)) (same_some n.2)
    (number.0, ap (λ (b : ℕ). b ∷ ds) (letter_takes byte l.0 l.1) ∙ ap (λ (d : List ℕ). letter l.0 ∷ d) number.1)

-- what is read was spelled
pub token_takes : (bytes : List ℕ) (t : Token) → token_at bytes ≡ Some t → IsRead t × (bytes ≡ token t)
unfolding token_at
token_takes bytes t e = by_kind (number_at bytes) (place_at bytes) (keyword_at bytes) refl refl refl e
  where
    by_kind : (n : Option ℕ) (p : Option Token) (k : Option Keyword) → number_at bytes ≡ n → place_at bytes ≡ p
        → keyword_at bytes ≡ k
        → or_else (n >>= λ m. Some (tokens.Number m)) (or_else p (k >>= λ w. Some (tokens.Word w))) ≡ Some t
        → IsRead t × (bytes ≡ token t)
    by_kind (Some n) p k hn hp hk e = subst (λ (u : Token). IsRead u × (bytes ≡ token u)) (same_some e)
        (number_takes bytes n hn)
    by_kind None (Some u) k hn hp hk e = place_takes bytes t (hp ∙ e)
    by_kind None None (Some w) hn hp hk e = subst (λ (u : Token). IsRead u × (bytes ≡ token u)) (same_some e)
        (tt, keyword_takes bytes w hk)
    by_kind None None None hn hp hk e = absurd cc

-- ---- its first two bytes say what a word can be

-- a letter is no digit
letter_is_high : (l : Letter) → 57 < letter l
letter_is_high letters.Frame = omega arith
letter_is_high _ = omega arith

keyword_begins : (k : Keyword) → IsInRange 48 57 (get_or (keyword k) 0 0) → ⊥
keyword_begins words.Heap r = omega (arith, r.0, r.1)
keyword_begins _ r = omega (arith, r.0, r.1)

keyword_goes_on : (k : Keyword) → IsInRange 48 57 (get_or (keyword k) 1 0) → ⊥
keyword_goes_on words.Heap r = omega (arith, r.0, r.1)
keyword_goes_on _ r = omega (arith, r.0, r.1)

none_from : {A : Type 0} (o : Option A) → ((x : A) → o ≡ Some x → ⊥) → o ≡ None
none_from None h = refl
none_from (Some x) h = absurd (h x refl)

none_some : {A : Type 0} {x : A} → None ≡ Some x → ⊥
none_some e = absurd cc

or_none : (o : Option Token) → or_else o None ≡ o
or_none None = refl
or_none (Some t) = refl

letter_at_none : (byte : ℕ) (ds : List ℕ) → byte ≤ 57 → place_at (byte ∷ ds) ≡ None
unfolding place_at
letter_at_none byte ds low = none_from (place_at (byte ∷ ds)) (λ t e.
    let l = some_bind (letter_at byte) _ t e in omega (arith, low, letter_is_high l.0, letter_takes byte l.0 l.1))

no_place_begins : (bytes : List ℕ) → get_or bytes 0 0 ≤ 57 → place_at bytes ≡ None
unfolding place_at
no_place_begins [] low = refl
no_place_begins (byte ∷ ds) low = letter_at_none byte ds low

-- a word that begins with a digit is a number or nothing
pub digit_first : (bytes : List ℕ) → is_ascii_digit (get_or bytes 0 0) ≡ true
    → token_at bytes ≡ (number_at bytes >>= λ n. Some (tokens.Number n))
unfolding token_at
digit_first bytes digit =
    let range = digit_in _ digit in
    rw (
      no_place_begins bytes range.1,
      no_keyword bytes (λ k e. keyword_begins k (subst (λ (b : List ℕ). IsInRange 48 57 (get_or b 0 0)) e range)),
    )
    (or_none (number_at bytes >>= λ n. Some (tokens.Number n)))

no_digit_first : (bytes : List ℕ) → is_ascii_digit (get_or bytes 0 0) ≡ false → number_at bytes ≡ None
no_digit_first [] first = no_bytes [] refl
no_digit_first (byte ∷ ds) first = not_a_digit (byte ∷ ds) 0 (omega arith) (digit_out byte first)

-- one whose second byte alone is a digit is a place or nothing
pub digit_second : (bytes : List ℕ) → is_ascii_digit (get_or bytes 0 0) ≡ false
    → is_ascii_digit (get_or bytes 1 0) ≡ true → token_at bytes ≡ place_at bytes
unfolding token_at
digit_second bytes other digit =
    let range = digit_in _ digit in
    rw (
      no_digit_first bytes other,
      no_keyword bytes (λ k e. keyword_goes_on k (subst (λ (b : List ℕ). IsInRange 48 57 (get_or b 1 0)) e range)),
    )
    (or_none (place_at bytes))

no_digit_second : (bytes : List ℕ) → is_ascii_digit (get_or bytes 1 0) ≡ false → place_at bytes ≡ None
unfolding place_at
no_digit_second [] second = refl
no_digit_second (byte ∷ ds) second = none_from (place_at (byte ∷ ds)) (λ t e.
    let l = some_bind (letter_at byte) _ t e in
    let n = some_bind (number_at ds) _ t l.2 in
    none_some (sym (no_digit_first ds second) ∙ n.1))

-- any other is a keyword or nothing
pub digit_neither : (bytes : List ℕ) → is_ascii_digit (get_or bytes 0 0) ≡ false
    → is_ascii_digit (get_or bytes 1 0) ≡ false
    → token_at bytes ≡ (keyword_at bytes >>= λ k. Some (tokens.Word k))
unfolding token_at
digit_neither bytes first second = rw (no_digit_first bytes first, no_digit_second bytes second) refl

-- ---- the word with which a text begins

pub token_some : (word : List ℕ) (t : Token) → token_at word ≡ Some t → 0 < length word
token_some word t e =
    let is = token_takes word t e in
    subst (λ (l : List ℕ). 0 < length l) (sym is.1) (spelled_some t is.0)
  where
    spelled_some : (t : Token) → IsRead t → 0 < length (token t)
    spelled_some (tokens.Number n) h = decimal_nonempty n h
    spelled_some (tokens.Negative n) h = absurd h
    spelled_some (tokens.Place l n) h = omega arith
    spelled_some (tokens.Word k) h = keyword_some k

-- the bytes of the text are those of the word
pub first_alike : (text word rest : List ℕ) (t : Token) (b : Bool) → text ≡ word ++ rest → token_at word ≡ Some t
    → is_ascii_digit (get_or text 0 0) ≡ b → is_ascii_digit (get_or word 0 0) ≡ b
first_alike text word rest t b whole e is =
    ap is_ascii_digit (sym (front_byte text word rest 0 whole (token_some word t e))) ∙ is

not_digit : (byte : ℕ) → byte ≤ 32 → is_ascii_digit byte ≡ false
not_digit byte low = by_test (is_ascii_digit byte) refl
  where
    by_test : (b : Bool) → is_ascii_digit byte ≡ b → is_ascii_digit byte ≡ false
    by_test true e = absurd (low_is_no_digit byte low (digit_in byte e))
    by_test false e = e

pub second_alike : (text word rest : List ℕ) (t : Token) (b : Bool) → text ≡ word ++ rest → EndsWord rest
    → token_at word ≡ Some t
    → is_ascii_digit (get_or text 1 0) ≡ b → is_ascii_digit (get_or word 1 0) ≡ b
second_alike text word rest t b whole ends e is = elim (cases_lt 1 (length word)) [
  | inl long ↦ ap is_ascii_digit (sym (front_byte text word rest 1 whole long)) ∙ is
  | inr short ↦
      let one : length word ≡ 1 = omega (arith, short, token_some word t e) in
      let here : get_or text 1 0 ≡ get_or rest 0 0 = ap (λ (i : ℕ). get_or text i 0) (sym one)
      ∙ next_byte text word rest whole in
      let none : get_or word 1 0 ≡ 0 = get_or_past word 1 0 (omega (arith, one)) in
      ap is_ascii_digit none ∙ sym (not_digit _ ends) ∙ ap is_ascii_digit (sym here) ∙ is
]

-- what is found is a token
pub number_begins_token : (text rest : List ℕ) (n : ℕ) → Begins number_at text n rest
    → Begins token_at text (tokens.Number n) rest
number_begins_token text rest n begins =
    let is = number_takes begins.word n begins.reads in
    record { word = begins.word; whole = begins.whole; reads = ap token_at is.1 ∙ token_again (tokens.Number n) is.0 }

place_begins_token : (text rest : List ℕ) (t : Token) → Begins place_at text t rest → Begins token_at text t rest
place_begins_token text rest t begins =
    let is = place_takes begins.word t begins.reads in
    record { word = begins.word; whole = begins.whole; reads = ap token_at is.1 ∙ token_again t is.0 }

pub place_found : {B : Type 0} (found : Option (Token × B)) (now : B → List ℕ) (text : List ℕ)
    → IfSome found (λ f. Begins place_at text f.0 (now f.1))
    → IfSome found (λ f. Begins token_at text f.0 (now f.1))
place_found None now text h = tt
place_found (Some f) now text h = place_begins_token text (now f.1) f.0 h

pub keyword_begins_token : (text rest : List ℕ) (k : Keyword) → Begins keyword_at text k rest
    → Begins token_at text (tokens.Word k) rest
keyword_begins_token text rest k begins =
    let is = keyword_takes begins.word k begins.reads in
    record { word = begins.word; whole = begins.whole; reads = ap token_at is ∙ token_again (tokens.Word k) tt }

-- a token is a number, a place or a keyword by the text's first two bytes
pub number_first : (text word rest : List ℕ) (t : Token) → text ≡ word ++ rest → token_at word ≡ Some t
    → is_ascii_digit (get_or text 0 0) ≡ true
    → (n : ℕ) × (number_at word ≡ Some n) × (tokens.Number n ≡ t)
number_first text word rest t whole e digit =
    let read = some_bind (number_at word) (λ n. Some (tokens.Number n)) t
    (sym (digit_first word (first_alike text word rest t true whole e digit)) ∙ e) in
    (read.0, read.1, same_some read.2)

pub place_second : (text word rest : List ℕ) (t : Token) → text ≡ word ++ rest → EndsWord rest → token_at word ≡ Some t
    → is_ascii_digit (get_or text 0 0) ≡ false
    → is_ascii_digit (get_or text 1 0) ≡ true → place_at word ≡ Some t
place_second text word rest t whole ends e first second =
    sym (digit_second word (first_alike text word rest t false whole e first)
    (second_alike text word rest t true whole ends e second)) ∙ e

pub keyword_else : (text word rest : List ℕ) (t : Token) → text ≡ word ++ rest → EndsWord rest → token_at word ≡ Some t
    → is_ascii_digit (get_or text 0 0) ≡ false
    → is_ascii_digit (get_or text 1 0) ≡ false → (k : Keyword) × (keyword_at word ≡ Some k) × (tokens.Word k ≡ t)
keyword_else text word rest t whole ends e first second =
    let read = some_bind (keyword_at word) (λ k. Some (tokens.Word k)) t
    (sym (digit_neither word (first_alike text word rest t false whole e first)
    (second_alike text word rest t false whole ends e second)) ∙ e) in
    (read.0, read.1, same_some read.2)

-- ---- the place with which a text begins

pub place_begins : (text rest : List ℕ) (l : Letter) (n : ℕ) → 0 < length text → letter_at (get_or text 0 0) ≡ Some l
    → Begins number_at (drop 1 text) n rest
    → Begins place_at text (tokens.Place l n) rest
unfolding place_at
place_begins [] rest l n some letter begins = absurd (omega arith)
place_begins (byte ∷ text) rest l n some letter begins = record {
  word = byte ∷ begins.word;
  whole = ap (λ (b : List ℕ). byte ∷ b) begins.whole;
  reads = rw (letter, begins.reads) refl;
}

-- its letter, and the number behind that
pub record IsPlaceAhead (text rest : List ℕ) (t : Token) : Type 0 where
  pub letter_is : Letter
  pub number : ℕ
  pub digits_are : List ℕ
  pub some : 0 < length text
  pub first : letter_at (get_or text 0 0) ≡ Some letter_is
  pub reads : number_at digits_are ≡ Some number
  pub behind : drop 1 text ≡ digits_are ++ rest
  pub is : tokens.Place letter_is number ≡ t

pub place_parts : (text word rest : List ℕ) (t : Token) → text ≡ word ++ rest → place_at word ≡ Some t
    → IsPlaceAhead text rest t
unfolding place_at
place_parts text [] rest t whole e = absurd cc
place_parts text (byte ∷ ds) rest t whole e =
    let l = some_bind (letter_at byte) _ t e in
    let n = some_bind (number_at ds) _ t l.2 in
    let P : List ℕ → Type 0 = λ b. IsPlaceAhead b rest t in
    subst P (sym whole) (record {
      letter_is = l.0;
      number = n.0;
      digits_are = ds;
      some = omega arith;
      first = l.1;
      reads = n.1;
      behind = refl;
      is = same_some n.2;
    })
