-- A number is read as it was spelled, and only so.
use Rattle.std.proofs.Common.{◌≡◌, ◌≢◌, ℕ, zero, suc, ◌^◌, ◌<◌, ◌≤◌, ◌*◌, ◌+◌, ◌-◌, true, false, true≢false, eqb, leb}
use Rattle.std.proofs.Common.{List, [], ◌∷◌, ◌++◌, append-nil, length, get_or, take, drop, take-append-drop}
use Rattle.std.proofs.Common.{length-append, add-zero, Option, Some, None, refl, sym, ap, subst, ◌∙◌, decimal, arith}
use Rattle.std.proofs.Common.{inl, inr}
use Rattle.std.specs.Str.Parse.{digits_value, AllDigits}
use Rattle.std.specs.Int.{IsInRange}
use Rattle.std.specs.Char.{is_ascii_digit}
use Rattle.std.proofs.lemmas.Bool.{cases_lt, lt-ltb, ltb-true, and_parts, and_from, leb-true, le-leb}
use Rattle.std.proofs.lemmas.List.{take_all, take-append-le, get_or-take, get_or-append-add, length-take-le}
use Rattle.std.proofs.Math.ListN.{get_or-append}
use Rattle.std.proofs.Math.Seq.{drop-append_seam}
use Rattle.std.proofs.lemmas.Option.{cond_some, same_Some}
use Rattle.std.proofs.lemmas.Str.Parse.{IsNumeralModel, numerals_by_value, tells_digits, digit_at, digits_value-take-le}
use Rattle.std.proofs.lemmas.Str.{digit_value_digit}
use Rattle.std.proofs.lemmas.Int.Digits.{digits_value_more, digits_more}
use Rattle.std.proofs.lemmas.Slice.Eq.{bytes_eq-Decides}
use Rattle.std.proofs.lemmas.Fmt.{digits_decimal, digits_value-decimal, decimal-digits_value, first_decimal}
use Rattle.std.proofs.lemmas.Fmt.{decimal_nonempty, decimal_digit}
use Rattle.brc_text.specs.Numbers.{number_at}
use Rattle.brc_text.specs.Words.{EndsWord, Begins}

pub numerals : IsNumeralModel (AllDigits 10) (digits_value 10)
numerals = numerals_by_value (AllDigits 10) tells_digits

-- bytes that are the spelling of their own value are read
number_spelled : (bytes : List ℕ) → decimal (digits_value 10 bytes) ≡ bytes → digits_value 10 bytes < 2 ^ 64
    → number_at bytes ≡ Some (digits_value 10 bytes)
unfolding number_at
number_spelled bytes e h =
    rw ((bytes_eq-Decides (decimal (digits_value 10 bytes)) bytes).1 e, lt-ltb (digits_value 10 bytes) (2 ^ 64) h) refl

-- what is spelled is read
pub number_again : (n : ℕ) → n < 2 ^ 64 → number_at (decimal n) ≡ Some n
number_again n h =
    let v : digits_value 10 (decimal n) ≡ n = digits_value-decimal numerals n h in
    number_spelled (decimal n) (ap decimal v) (subst (λ m. m < 2 ^ 64) (sym v) h) ∙ ap (λ m. Some m) v

-- what is read was spelled
pub number_takes : (bytes : List ℕ) (n : ℕ) → number_at bytes ≡ Some n → (n < 2 ^ 64) × (bytes ≡ decimal n)
unfolding number_at
number_takes bytes n e =
    let tests = cond_some _ (digits_value 10 bytes) n e in
    let both = and_parts _ _ tests.0 in
    let same : decimal (digits_value 10 bytes) ≡ bytes = (bytes_eq-Decides _ _).0 both.0 in
    (subst (λ m. m < 2 ^ 64) tests.1 (ltb-true _ _ both.1), sym same ∙ ap decimal tests.1)

none_from : {A : Type 0} (o : Option A) → ((x : A) → o ≡ Some x → ⊥) → o ≡ None
none_from None h = refl
none_from (Some x) h = absurd (h x refl)

-- bytes that spell no number are not read
pub no_number : (bytes : List ℕ) → ((n : ℕ) → n < 2 ^ 64 → bytes ≡ decimal n → ⊥) → number_at bytes ≡ None
no_number bytes h = none_from (number_at bytes) (λ n e. let t = number_takes bytes n e in h n t.0 t.1)

-- ---- what the reader meets

pub no_bytes : (bytes : List ℕ) → length bytes ≡ 0 → number_at bytes ≡ None
no_bytes bytes none = no_number bytes (λ n h e. omega (arith, decimal_nonempty n h, ap length e))

zero_alone : (n : ℕ) → n < 2 ^ 64 → get_or (decimal n) 0 0 ≡ 48 → length (decimal n) ≡ 1
zero_alone zero h e = ap length (decimal_digit 0 (omega arith))
zero_alone (suc n) h e = absurd (omega (arith, first_decimal (suc n) (omega arith) h))

pub leading_zero : (bytes : List ℕ) → 1 < length bytes → get_or bytes 0 0 ≡ 48 → number_at bytes ≡ None
leading_zero bytes long first = no_number bytes (λ n h e.
    let one = zero_alone n h (subst (λ (b : List ℕ). get_or b 0 0 ≡ 48) e first) in omega (arith, ap length e))

pub not_a_digit : (bytes : List ℕ) (i : ℕ) → i < length bytes → (IsInRange 48 57 (get_or bytes i 0) → ⊥)
    → number_at bytes ≡ None
not_a_digit bytes i within other = no_number bytes (λ n h e.
    other (subst (λ (b : List ℕ). IsInRange 48 57 (get_or b i 0)) (sym e)
    (digit_at (decimal n) i (digits_decimal numerals n h) (subst (λ (b : List ℕ). i < length b) e within))))

pub too_large : (bytes : List ℕ) (i : ℕ) → 2 ^ 64 ≤ digits_value 10 (take i bytes) → number_at bytes ≡ None
too_large bytes i large = no_number bytes (λ n h e.
    omega (
      arith,
      digits_value-take-le 10 bytes i (omega arith),
      ap (digits_value 10) e,
      digits_value-decimal numerals n h,
    ))

-- the digits so far, and their value
pub record HasRead (bytes : List ℕ) (i number : ℕ) : Type 0 where
  pub digits : AllDigits 10 (take i bytes)
  pub value : number ≡ digits_value 10 (take i bytes)
  pub fits : number < 2 ^ 64

pub one_more : (bytes : List ℕ) (i number : ℕ) → i < length bytes → HasRead bytes i number
    → IsInRange 48 57 (get_or bytes i 0)
    → number * 10 + (get_or bytes i 0 - 48) < 2 ^ 64 → HasRead bytes (i + 1) (number * 10 + (get_or bytes i 0 - 48))
one_more bytes i number within so_far range small =
    let digit = digit_value_digit (get_or bytes i 0) range in
    let more = digits_value_more 10 bytes i within in
    record {
      digits = digits_more 10 bytes i within so_far.digits (omega (arith, digit));
      value = omega (arith, digit, more, so_far.value);
      fits = small;
    }

-- with the next digit the number is 2^64 or more
pub too_large_here : (bytes : List ℕ) (i number : ℕ) → i < length bytes → HasRead bytes i number
    → IsInRange 48 57 (get_or bytes i 0)
    → 2 ^ 64 ≤ number * 10 + (get_or bytes i 0 - 48) → number_at bytes ≡ None
too_large_here bytes i number within so_far digit large =
    too_large bytes (i + 1) (omega (
      arith,
      digit_value_digit (get_or bytes i 0) digit,
      digits_value_more 10 bytes i within,
      so_far.value,
    ))

pub above_zero : (n : ℕ) → eqb n 0 ≡ false → 0 < n
above_zero zero e = absurd cc
above_zero (suc n) e = omega arith

pub all_read : (bytes : List ℕ) (number : ℕ) → 0 < length bytes → (1 < length bytes → get_or bytes 0 0 ≢ 48)
    → HasRead bytes (length bytes) number → number_at bytes ≡ Some number
all_read bytes number some plain done =
    let whole : take (length bytes) bytes ≡ bytes = take_all (length bytes) bytes (omega arith) in
    let digits : AllDigits 10 bytes = subst (AllDigits 10) whole done.digits in
    let value : digits_value 10 bytes ≡ number = ap (digits_value 10) (sym whole) ∙ sym done.value in
    let fits : digits_value 10 bytes < 2 ^ 64 = subst (λ m. m < 2 ^ 64) (sym value) done.fits in
    number_spelled bytes (decimal-digits_value numerals bytes digits some (λ e. first_zero e) fits) fits
    ∙ ap (λ m. Some m) value
  where
    first_zero : get_or bytes 0 0 ≡ 48 → length bytes ≡ 1
    first_zero e = elim (cases_lt 1 (length bytes)) [ inl lt ↦ absurd (plain lt e) | inr le ↦ omega arith ]

-- ---- the number with which a text begins

pub digit_in : (byte : ℕ) → is_ascii_digit byte ≡ true → IsInRange 48 57 byte
digit_in byte e = let both = and_parts (leb 48 byte) (leb byte 57) e in
    (leb-true 48 byte both.0, leb-true byte 57 both.1)

pub digit_out : (byte : ℕ) → is_ascii_digit byte ≡ false → IsInRange 48 57 byte → ⊥
digit_out byte e r = true≢false (sym (and_from _ _ (le-leb 48 byte r.0) (le-leb byte 57 r.1)) ∙ e)

pub digit_again : (byte : ℕ) → IsInRange 48 57 byte → is_ascii_digit byte ≡ true
digit_again byte r = and_from _ _ (le-leb 48 byte r.0) (le-leb byte 57 r.1)

-- a byte that may end a word is no digit
pub low_is_no_digit : (byte : ℕ) → byte ≤ 32 → IsInRange 48 57 byte → ⊥
low_is_no_digit byte low range = omega (arith, low, range.0)

pub no_longer_none : {A : Type 0} (o : Option A) (x : A) → o ≡ Some x → o ≡ None → ⊥
no_longer_none o x some none = cc

-- the text begins with a word that spells the number
pub record IsAhead (text word rest : List ℕ) (n : ℕ) : Type 0 where
  pub whole : text ≡ word ++ rest
  pub ends : EndsWord rest
  pub spells : number_at word ≡ Some n

pub front_byte : (text word rest : List ℕ) (i : ℕ) → text ≡ word ++ rest → i < length word
    → get_or text i 0 ≡ get_or word i 0
front_byte text word rest i whole within = ap (λ (l : List ℕ). get_or l i 0) whole ∙ get_or-append word rest 0 i within

pub next_byte : (text word rest : List ℕ) → text ≡ word ++ rest → get_or text (length word) 0 ≡ get_or rest 0 0
next_byte text word rest whole =
    ap (λ (l : List ℕ). get_or l (length word) 0) whole
    ∙ ap (λ (i : ℕ). get_or (word ++ rest) i 0) (sym (add-zero (length word))) ∙ get_or-append-add word rest 0 0

pub front_of : (text word rest : List ℕ) (i : ℕ) → text ≡ word ++ rest → i ≤ length word → take i text ≡ take i word
front_of text word rest i whole within = ap (take i) whole ∙ take-append-le i word rest within

-- all its bytes are digits
spelled_digit : (word : List ℕ) (n i : ℕ) → number_at word ≡ Some n → i < length word
    → IsInRange 48 57 (get_or word i 0)
spelled_digit word n i e within =
    let t = number_takes word n e in
    subst (λ (b : List ℕ). IsInRange 48 57 (get_or b i 0)) (sym t.1)
    (digit_at (decimal n) i (digits_decimal numerals n t.0) (subst (λ (b : List ℕ). i < length b) t.1 within))

spelled_some : (word : List ℕ) (n : ℕ) → number_at word ≡ Some n → 0 < length word
spelled_some word n e = let t = number_takes word n e in omega (arith, decimal_nonempty n t.0, ap length t.1)

pub digit_ahead : (text word rest : List ℕ) (n : ℕ) → IsAhead text word rest n → IsInRange 48 57 (get_or text 0 0)
digit_ahead text word rest n is =
    let some = spelled_some word n is.spells in
    subst (IsInRange 48 57) (sym (front_byte text word rest 0 is.whole some)) (spelled_digit word n 0 is.spells some)

-- it has no leading zero
pub no_zero_ahead : (text word rest : List ℕ) (n : ℕ) → IsAhead text word rest n → get_or text 0 0 ≡ 48
    → IsInRange 48 57 (get_or text 1 0) → ⊥
no_zero_ahead text word rest n is first digit = elim (cases_lt 1 (length word)) [
  | inl long ↦ no_longer_none _ _ is.spells
      (leading_zero word long (sym (front_byte text word rest 0 is.whole (omega (arith, long))) ∙ first))
  | inr short ↦
      let one : length word ≡ 1 = omega (arith, short, spelled_some word n is.spells) in
      let here : get_or text 1 0 ≡ get_or rest 0 0 = ap (λ (i : ℕ). get_or text i 0) (sym one)
      ∙ next_byte text word rest is.whole in
      low_is_no_digit _ is.ends (subst (IsInRange 48 57) here digit)
]

-- digits that were read are those of the word
pub still_within : (text word rest : List ℕ) (n i number : ℕ) → IsAhead text word rest n → HasRead text i number
    → i ≤ length text → i ≤ length word
still_within text word rest n i number is so_far inside = elim (cases_lt (length word) i) [
  | inl past ↦
      let digit = digit_at (take i text) (length word) so_far.digits
      (omega (arith, length-take-le i text inside, past)) in
      let here : get_or (take i text) (length word) 0 ≡ get_or rest 0 0 = get_or-take i text (length word) 0 past
      ∙ next_byte text word rest is.whole in
      absurd (low_is_no_digit _ is.ends (subst (IsInRange 48 57) here digit))
  | inr within ↦ within
]

-- the same digits were read of the word
of_the_word : (text word rest : List ℕ) (i number : ℕ) → text ≡ word ++ rest → i ≤ length word → HasRead text i number
    → HasRead word i number
of_the_word text word rest i number whole within so_far = record {
  digits = subst (AllDigits 10) (front_of text word rest i whole within) so_far.digits;
  value = so_far.value ∙ ap (digits_value 10) (front_of text word rest i whole within);
  fits = so_far.fits;
}

-- one more digit is one of the word
pub one_more_within : (text word rest : List ℕ) (n i number : ℕ) → IsAhead text word rest n → HasRead text i number
    → i < length text
    → IsInRange 48 57 (get_or text i 0) → i < length word
one_more_within text word rest n i number is so_far inside digit = elim (cases_lt i (length word)) [
  | inl within ↦ within
  | inr past ↦
      let at : i ≡ length word =
      omega (arith, past, still_within text word rest n i number is so_far (omega (arith, inside))) in
      absurd (low_is_no_digit _ is.ends
      (subst (IsInRange 48 57) (ap (λ (k : ℕ). get_or text k 0) at ∙ next_byte text word rest is.whole) digit))
]

pub not_too_large : (text word rest : List ℕ) (n i number : ℕ) → IsAhead text word rest n → HasRead text i number
    → i < length text
    → IsInRange 48 57 (get_or text i 0) → 2 ^ 64 ≤ number * 10 + (get_or text i 0 - 48) → ⊥
not_too_large text word rest n i number is so_far inside digit large =
    let within = one_more_within text word rest n i number is so_far inside digit in
    let byte = front_byte text word rest i is.whole within in
    no_longer_none _ _ is.spells
    (too_large_here word i number within (of_the_word text word rest i number is.whole (omega (arith, within)) so_far)
    (subst (IsInRange 48 57) byte digit) (subst (λ (b : ℕ). 2 ^ 64 ≤ number * 10 + (b - 48)) byte large))

-- the word that was read, and what stands behind it
pub record IsFound (text rest : List ℕ) (n i number : ℕ) : Type 0 where
  pub same : number ≡ n
  pub behind : drop i text ≡ rest

pub number_found : (text word rest : List ℕ) (n i number : ℕ) → IsAhead text word rest n → HasRead text i number
    → i ≤ length text
    → (i < length text → IsInRange 48 57 (get_or text i 0) → ⊥) → IsFound text rest n i number
number_found text word rest n i number is so_far inside no_digit =
    let within = still_within text word rest n i number is so_far inside in
    let at : i ≡ length word = elim (cases_lt i (length word)) [
      | inl less ↦
          let longer : length text ≡ length word + length rest = ap length is.whole ∙ length-append word rest in
          absurd (no_digit (omega (arith, less, longer))
          (subst (IsInRange 48 57) (sym (front_byte text word rest i is.whole less))
          (spelled_digit word n i is.spells less)))
      | inr not_less ↦ omega (arith, not_less, within)
    ] in
    let read : HasRead word (length word) number = subst (λ (k : ℕ). HasRead word k number) at
    (of_the_word text word rest i number is.whole within so_far) in
    let value = all_read word number (spelled_some word n is.spells)
    (λ long first. no_longer_none _ _ is.spells (leading_zero word long first)) read in
    record {
      same = same_Some number n (sym value ∙ is.spells);
      behind = ap (λ (k : ℕ). drop k text) at ∙ ap (drop (length word)) is.whole ∙ drop-append_seam word rest;
    }

-- something was read, since a digit stands first
pub some_read : (text : List ℕ) (i : ℕ) → IsInRange 48 57 (get_or text 0 0)
    → (i < length text → IsInRange 48 57 (get_or text i 0) → ⊥) → 0 < i
some_read [] zero first none = absurd (omega (arith, first.0))
some_read (byte ∷ text) zero first none = absurd (none (omega arith) first)
some_read text (suc i) first none = omega arith

-- what was read is a number
pub number_begins : (text : List ℕ) (i number : ℕ) → 0 < i → i ≤ length text → HasRead text i number
    → (get_or text 0 0 ≡ 48 → IsInRange 48 57 (get_or text 1 0) → ⊥) → Begins number_at text number (drop i text)
number_begins text i number some inside so_far no_zero =
    let long : length (take i text) ≡ i = length-take-le i text inside in
    let whole : take (length (take i text)) (take i text) ≡ take i text = take_all _ (take i text) (omega arith) in
    let plain : 1 < length (take i text) → get_or (take i text) 0 0 ≡ 48 → ⊥ =
    λ more first.
    let second = digit_at (take i text) 1 so_far.digits more in
    no_zero (sym (get_or-take i text 0 0 (omega (arith, some))) ∙ first)
    (subst (IsInRange 48 57) (get_or-take i text 1 0 (omega (arith, more, long))) second) in
    record {
      word = take i text;
      whole = sym (take-append-drop i text);
      reads = all_read (take i text) number (omega (arith, some, long)) plain (record {
        digits = subst (AllDigits 10) (sym whole) so_far.digits;
        value = so_far.value ∙ ap (digits_value 10) (sym whole);
        fits = so_far.fits;
      });
    }

-- ---- all bytes as one word

pub whole_number : (bytes rest : List ℕ) (n : ℕ) → Begins number_at bytes n rest → length rest ≡ 0
    → number_at bytes ≡ Some n
whole_number bytes [] n begins none = ap number_at (begins.whole ∙ append-nil begins.word) ∙ begins.reads
whole_number bytes (byte ∷ rest) n begins none = absurd (omega arith)

pub no_whole_number : (bytes : List ℕ) → ((n : ℕ) → number_at bytes ≡ Some n → ⊥) → number_at bytes ≡ None
no_whole_number bytes h = none_from (number_at bytes) h

pub ends_nothing : EndsWord []
ends_nothing = omega arith
