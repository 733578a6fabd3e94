-- A keyword is read as it was spelled, and only so; words of one length are told apart by their bytes as one number.
use Rattle.std.proofs.Common.{◌≡◌, ℕ, zero, suc, ◌+◌, ◌-◌, ◌*◌, ◌/◌, ◌^◌, ◌<◌, ◌≤◌, rules, Bool, true, false, List, []}
use Rattle.std.proofs.Common.{◌∷◌, ◌++◌, length, get_or, take, drop, inl, inr, Option, Some, None, refl, sym, ap, subst}
use Rattle.std.proofs.Common.{◌∙◌, cond, arith, add-one, take-append-drop, length-append, w64}
use Rattle.std.specs.List.{find}
use Rattle.std.specs.Int.{from_be_bytes}
use Rattle.std.specs.Str.{bytes_eq}
use Rattle.std.proofs.Math.Nat.{pow-suc, pow-le-pow_right, div-one, div-div-eq-div-mul}
use Rattle.std.proofs.Math.Seq.{take-append_seam, drop-append_seam, drop-nil}
use Rattle.std.proofs.lemmas.Nat.{div-mul-add, pow-add}
use Rattle.std.proofs.lemmas.List.{get_or-take}
use Rattle.std.proofs.lemmas.Option.{same_Some}
use Rattle.std.proofs.lemmas.Bool.{cases_lt, eqb-true, eq-eqb, leb-true, le-leb, and_parts, and_from}
use Rattle.std.proofs.lemmas.Slice.Eq.{bytes_eq-Decides}
use Rattle.brc_text.specs.declared.keyword.Keyword.{Keyword}
use Rattle.brc_text.specs.declared.keyword.Keyword.TheVariants as words
use Rattle.brc_text.specs.Keywords.{keyword, packed, bytes_ahead, stands_ahead, candidates_at, keyword_at}
use Rattle.brc_text.specs.Words.{Begins, EndsWord}
use Rattle.brc_text.proofs.NumberLaws.{front_byte, next_byte}

pub same_some : {A : Type 0} {x y : A} → Some x ≡ Some y → x ≡ y
same_some {x = x} {y = y} e = same_Some x y e

pub keyword_again : (k : Keyword) → keyword_at (keyword k) ≡ Some k
unfolding keyword_at
keyword_again words.Heap = refl
keyword_again _ = refl

found_first : {X : Type 0} (p : X → Bool) (y x : X) (b : Bool) (later : Option X) → p y ≡ b
    → (later ≡ Some x → p x ≡ true)
    → cond b (Some y) later ≡ Some x → p x ≡ true
found_first p y x true later h others e = subst (λ z. p z ≡ true) (same_some e) h
found_first p y x false later h others e = others e

find_holds : {X : Type 0} (p : X → Bool) (xs : List X) (x : X) → find p xs ≡ Some x → p x ≡ true
find_holds p [] x e = absurd cc
find_holds p (y ∷ ys) x e = found_first p y x (p y) (find p ys) refl (find_holds p ys x) e

pub keyword_takes : (bytes : List ℕ) (k : Keyword) → keyword_at bytes ≡ Some k → bytes ≡ keyword k
unfolding keyword_at
keyword_takes bytes k e =
    sym ((bytes_eq-Decides (keyword k) bytes).0 (find_holds (λ word. bytes_eq (keyword word) bytes) _ k e))

none_from : {A : Type 0} (o : Option A) → ((x : A) → o ≡ Some x → ⊥) → o ≡ None
none_from None h = refl
none_from (Some x) h = absurd (h x refl)

-- bytes that spell no keyword are not read
pub no_keyword : (bytes : List ℕ) → ((k : Keyword) → bytes ≡ keyword k → ⊥) → keyword_at bytes ≡ None
no_keyword bytes h = none_from (keyword_at bytes) (λ k e. h k (keyword_takes bytes k e))

-- ---- lengths

pub keyword_some : (k : Keyword) → 0 < length (keyword k)
keyword_some words.Heap = omega arith
keyword_some _ = omega arith

pub keyword_short : (k : Keyword) → length (keyword k) ≤ 8
keyword_short words.Heap = omega arith
keyword_short _ = omega arith

-- ---- bytes as one number

-- each number fits a byte
abbrev pub AreBytes : List ℕ → Type 0
AreBytes [] = Unit {0}
AreBytes (byte ∷ bytes) = (byte < 256) × AreBytes bytes

pub are_bytes : (bytes : List ℕ) → ((i : ℕ) → get_or bytes i 0 < 256) → AreBytes bytes
are_bytes [] each = tt
are_bytes (byte ∷ bytes) each = (each 0, are_bytes bytes (λ i. each (suc i)))

keyword_bytes : (k : Keyword) → AreBytes (keyword k)
keyword_bytes words.Heap = search rules
keyword_bytes _ = search rules

-- one more byte is packed behind the others
packed_last : (before : ℕ) (bytes : List ℕ) (byte : ℕ)
    → packed before (bytes ++ (byte ∷ [])) ≡ packed before bytes * 256 + byte
packed_last before [] byte = refl
packed_last before (first ∷ bytes) byte = packed_last (before * 256 + first) bytes byte

packed_both : (before : ℕ) (bytes later : List ℕ) → packed before (bytes ++ later) ≡ packed (packed before bytes) later
packed_both before [] later = refl
packed_both before (first ∷ bytes) later = packed_both (before * 256 + first) bytes later

-- bytes that are packed behind a number are taken off it again
packed_before : (before : ℕ) (bytes : List ℕ) → AreBytes bytes → packed before bytes / 256 ^ length bytes ≡ before
packed_before before [] all = div-one before
packed_before before (byte ∷ bytes) all =
    let n = length bytes in
    let more : 256 ^ suc n ≡ 256 ^ n * 256 = pow-suc 256 n in
    let whole = packed (before * 256 + byte) bytes in
    ap (λ (d : ℕ). whole / d) more ∙ sym (div-div-eq-div-mul whole (256 ^ n) 256)
    ∙ ap (λ (m : ℕ). m / 256) (packed_before (before * 256 + byte) bytes all.1) ∙ div-mul-add before 256 byte all.0

-- ---- the front of a text

length-bytes_ahead : (count : ℕ) (text : List ℕ) → length (bytes_ahead count text) ≡ count
length-bytes_ahead zero text = refl
length-bytes_ahead (suc count) [] = ap suc (length-bytes_ahead count [])
length-bytes_ahead (suc count) (byte ∷ bytes) = ap suc (length-bytes_ahead count bytes)

ahead_bytes : (count : ℕ) (text : List ℕ) → AreBytes text → AreBytes (bytes_ahead count text)
ahead_bytes zero text all = tt
ahead_bytes (suc count) [] all = (omega arith, ahead_bytes count [] all)
ahead_bytes (suc count) (byte ∷ bytes) all = (all.0, ahead_bytes count bytes all.1)

bytes_behind : (count : ℕ) (text : List ℕ) → AreBytes text → AreBytes (drop count text)
bytes_behind zero text all = all
bytes_behind (suc count) [] all = tt
bytes_behind (suc count) (byte ∷ bytes) all = bytes_behind count bytes all.1

ahead_last : (count : ℕ) (text : List ℕ) → bytes_ahead (suc count) text ≡ bytes_ahead count text
    ++ (get_or text count 0 ∷ [])
ahead_last zero [] = refl
ahead_last zero (byte ∷ bytes) = refl
ahead_last (suc count) [] = ap (λ (l : List ℕ). 0 ∷ l) (ahead_last count [])
ahead_last (suc count) (byte ∷ bytes) = ap (λ (l : List ℕ). byte ∷ l) (ahead_last count bytes)

-- so many bytes from the front, and so many behind them
ahead_parts : (whole count others : ℕ) (text : List ℕ) → whole ≡ count + others
    → bytes_ahead whole text ≡ bytes_ahead count text ++ bytes_ahead others (drop count text)
ahead_parts whole zero others text is = let same : whole ≡ others = omega (arith, is) in
    ap (λ (n : ℕ). bytes_ahead n text) same
ahead_parts zero (suc count) others text is = absurd (omega (arith, is))
ahead_parts (suc whole) (suc count) others [] is =
    ap (λ (l : List ℕ). 0 ∷ l) (ahead_parts whole count others [] (omega (arith, is))
    ∙ ap (λ (l : List ℕ). bytes_ahead count [] ++ bytes_ahead others l) (drop-nil count))
ahead_parts (suc whole) (suc count) others (byte ∷ bytes) is =
    ap (λ (l : List ℕ). byte ∷ l) (ahead_parts whole count others bytes (omega (arith, is)))

eight_are : (text : List ℕ)
    → bytes_ahead 8 text
    ≡ get_or text 0 0 ∷ get_or text 1 0 ∷ get_or text 2 0 ∷ get_or text 3 0 ∷ get_or text 4 0 ∷ get_or text 5 0
    ∷ get_or text 6 0 ∷ get_or text 7 0 ∷ []
eight_are [] = refl
eight_are (a ∷ []) = refl
eight_are (a ∷ b ∷ []) = refl
eight_are (a ∷ b ∷ c ∷ []) = refl
eight_are (a ∷ b ∷ c ∷ d ∷ []) = refl
eight_are (a ∷ b ∷ c ∷ d ∷ e ∷ []) = refl
eight_are (a ∷ b ∷ c ∷ d ∷ e ∷ f ∷ []) = refl
eight_are (a ∷ b ∷ c ∷ d ∷ e ∷ f ∷ g ∷ []) = refl
eight_are (a ∷ b ∷ c ∷ d ∷ e ∷ f ∷ g ∷ h ∷ rest) = refl

eight_as_one : (a b c d e f g h : ℕ) → from_be_bytes w64 (a ∷ b ∷ c ∷ d ∷ e ∷ f ∷ g ∷ h ∷ []) ≡ packed 0
    (a ∷ b ∷ c ∷ d ∷ e ∷ f ∷ g ∷ h ∷ [])
eight_as_one a b c d e f g h = omega arith

-- eight bytes that are read at once
pub eight_packed : (text : List ℕ)
    → from_be_bytes w64 (get_or text 0 0 ∷ get_or text 1 0 ∷ get_or text 2 0 ∷ get_or text 3 0 ∷ get_or text 4 0
    ∷ get_or text 5 0 ∷ get_or text 6 0 ∷ get_or text 7 0 ∷ [])
    ≡ packed 0 (bytes_ahead 8 text)
eight_packed text = eight_as_one _ _ _ _ _ _ _ _ ∙ ap (packed 0) (sym (eight_are text))

ahead_whole : (word rest : List ℕ) → bytes_ahead (length word) (word ++ rest) ≡ word
ahead_whole [] rest = refl
ahead_whole (byte ∷ bytes) rest = ap (λ (l : List ℕ). byte ∷ l) (ahead_whole bytes rest)

-- the first bytes so far, as a number below 256 for each of them
pub record HasPacked (text : List ℕ) (i key : ℕ) : Type 0 where
  pub so_far : key ≡ packed 0 (bytes_ahead i text)
  pub fits : key < 256 ^ i

pub packed_more : (text : List ℕ) (i key : ℕ) → key ≡ packed 0 (bytes_ahead i text)
    → key * 256 + get_or text i 0 ≡ packed 0 (bytes_ahead (i + 1) text)
packed_more text i key is =
    ap (λ (n : ℕ). n * 256 + get_or text i 0) is ∙ sym (packed_last 0 (bytes_ahead i text) (get_or text i 0))
    ∙ ap (packed 0) (sym (ahead_last i text)) ∙ ap (λ (n : ℕ). packed 0 (bytes_ahead n text)) (sym (add-one i))

pub one_fits : (i key byte : ℕ) → i < 8 → key < 256 ^ i → byte < 256 → key * 256 + byte < 256 ^ (i + 1)
one_fits i key byte few fits small = let next : 256 ^ (i + 1) ≡ 256 ^ i * 256 = ap (λ (n : ℕ). 256 ^ n) (add-one i)
    ∙ pow-suc 256 i in omega (arith, next, fits, small)

pub eight_fit : (i n : ℕ) → i < 8 → n < 256 ^ (i + 1) → n < 2 ^ 64
eight_fit i n few fits = let most : 256 ^ (i + 1) ≤ 256 ^ 8 = pow-le-pow_right {n = 256} (omega arith) {i = i + 1}
    {j = 8} (omega (arith, few)) in omega (arith, most, fits)

eight_bits : (count : ℕ) → 2 ^ (8 * count) ≡ 256 ^ count
eight_bits zero = refl
eight_bits (suc count) =
    let more : 8 * suc count ≡ 8 * count + 8 = omega arith in
    ap (λ (n : ℕ). 2 ^ n) more ∙ pow-add 2 (8 * count) 8 ∙ ap (λ (n : ℕ). n * 256) (eight_bits count)
    ∙ sym (pow-suc 256 count)

-- a shift leaves the first bytes
front_shifted : (count : ℕ) (text : List ℕ) → count ≤ 8 → AreBytes text
    → packed 0 (bytes_ahead 8 text) / 2 ^ (64 - 8 * count) ≡ packed 0 (bytes_ahead count text)
front_shifted count text few all =
    let others = bytes_ahead (8 - count) (drop count text) in
    let bits : 64 - 8 * count ≡ 8 * (8 - count) = omega (arith, few) in
    let long : 8 - count ≡ length others = sym (length-bytes_ahead (8 - count) (drop count text)) in
    let by : 2 ^ (64 - 8 * count) ≡ 256 ^ length others =
    ap (λ (n : ℕ). 2 ^ n) bits ∙ eight_bits (8 - count) ∙ ap (λ (n : ℕ). 256 ^ n) long in
    let parts = ap (packed 0) (ahead_parts 8 count (8 - count) text (omega (arith, few)))
    ∙ packed_both 0 (bytes_ahead count text) others in
    ap (λ (n : ℕ). n / 2 ^ (64 - 8 * count)) parts
    ∙ ap (λ (d : ℕ). packed (packed 0 (bytes_ahead count text)) others / d) by
    ∙ packed_before (packed 0 (bytes_ahead count text)) others
    (ahead_bytes (8 - count) (drop count text) (bytes_behind count text all))

-- words of one length that are packed to one number are equal
record AreSame (a b : ℕ) (xs ys : List ℕ) : Type 0 where
  pub before : a ≡ b
  pub words : xs ≡ ys

packed_same : (a b : ℕ) (xs ys : List ℕ) → AreBytes xs → AreBytes ys → length xs ≡ length ys → packed a xs ≡ packed b ys
    → AreSame a b xs ys
packed_same a b [] [] p q same e = record { before = e; words = refl }
packed_same a b [] (y ∷ ys) p q same e = absurd (omega (arith, same))
packed_same a b (x ∷ xs) [] p q same e = absurd (omega (arith, same))
packed_same a b (x ∷ xs) (y ∷ ys) p q same e =
    let later = packed_same (a * 256 + x) (b * 256 + y) xs ys p.1 q.1 (omega (arith, same)) e in
    let firsts : x ≡ y = omega (arith, later.before, p.0, q.0) in
    record {
      before = omega (arith, later.before, p.0, q.0);
      words = ap (λ (n : ℕ). n ∷ xs) firsts
          ∙ ap (λ (l : List ℕ). y ∷ l) later.words;
    }

-- ---- the keyword with which a text begins

same_bools : (a b : Bool) → (a ≡ true → b ≡ true) → (b ≡ true → a ≡ true) → a ≡ b
same_bools true true f g = refl
same_bools true false f g = sym (f refl)
same_bools false true f g = g refl
same_bools false false f g = refl

find_alike : {X : Type 0} (p q : X → Bool) (xs : List X) → ((x : X) → p x ≡ q x) → find p xs ≡ find q xs
find_alike p q [] same = refl
find_alike p q (x ∷ xs) same = rw (same x, find_alike p q xs same) refl

-- each byte is above the space
abbrev pub AreHigh : List ℕ → Type 0
AreHigh [] = Unit {0}
AreHigh (byte ∷ bytes) = (32 < byte) × AreHigh bytes

keyword_high : (k : Keyword) → AreHigh (keyword k)
keyword_high words.Heap = search rules
keyword_high _ = search rules

high_at : (bytes : List ℕ) (i : ℕ) → AreHigh bytes → i < length bytes → 32 < get_or bytes i 0
high_at [] i high within = absurd (omega arith)
high_at (byte ∷ bytes) zero high within = high.0
high_at (byte ∷ bytes) (suc i) high within = high_at bytes i high.1 (omega (arith, within))

-- no byte above the space stands behind the text's end
ahead_there : (count : ℕ) (text : List ℕ) → AreHigh (bytes_ahead count text) → take count text ≡ bytes_ahead count text
ahead_there zero text high = refl
ahead_there (suc count) [] high = absurd (omega (arith, high.0))
ahead_there (suc count) (byte ∷ bytes) high = ap (λ (l : List ℕ). byte ∷ l) (ahead_there count bytes high.1)

-- a keyword that stands ahead is spelled there, and ends there
record IsAheadOf (text : List ℕ) (k : Keyword) : Type 0 where
  pub spelled : take (length (keyword k)) text ≡ keyword k
  pub ends : get_or text (length (keyword k)) 0 ≤ 32

is_ahead : (text : List ℕ) (k : Keyword) → AreBytes text → stands_ahead text k ≡ true → IsAheadOf text k
is_ahead text k all stands =
    let count = length (keyword k) in
    let both = and_parts _ _ stands in
    let packs = sym (front_shifted count text (keyword_short k) all) ∙ eqb-true _ _ both.0 in
    let same = (packed_same 0 0 (bytes_ahead count text) (keyword k) (ahead_bytes count text all) (keyword_bytes k)
    (length-bytes_ahead count text) packs).words in
    record {
      spelled = ahead_there count text (subst AreHigh (sym same) (keyword_high k)) ∙ same;
      ends = leb-true _ _ both.1;
    }

stands_spelled : (text word rest : List ℕ) (k : Keyword) → AreBytes text → text ≡ word ++ rest → EndsWord rest
    → keyword k ≡ word → stands_ahead text k ≡ true
stands_spelled text word rest k all whole ends is =
    let count = length (keyword k) in
    let here : text ≡ keyword k ++ rest = whole ∙ ap (λ (l : List ℕ). l ++ rest) (sym is) in
    let front : bytes_ahead count text ≡ keyword k = ap (bytes_ahead count) here ∙ ahead_whole (keyword k) rest in
    let low : get_or text count 0 ≤ 32 = subst (λ (n : ℕ). n ≤ 32) (sym (next_byte text (keyword k) rest here)) ends in
    and_from _ _ (eq-eqb _ _ (front_shifted count text (keyword_short k) all ∙ ap (packed 0) front)) (le-leb _ _ low)

-- of a text that begins with a keyword no other stands ahead
spelled_alone : (text word rest : List ℕ) (k there : Keyword) → AreBytes text → text ≡ word ++ rest → EndsWord rest
    → word ≡ keyword there → stands_ahead text k ≡ true
    → keyword k ≡ word
spelled_alone text word rest k there all whole ends is stands =
    let ahead = is_ahead text k all stands in
    let count = length (keyword k) in
    elim (cases_lt count (length word)) [
      | inl less ↦
          let above = subst (λ (l : List ℕ). 32 < get_or l count 0) (sym is)
          (high_at (keyword there) count (keyword_high there) (subst (λ (l : List ℕ). count < length l) is less)) in
          absurd (omega (arith, above, ahead.ends, front_byte text word rest count whole less))
      | inr not_less ↦ elim (cases_lt (length word) count) [
        | inl more ↦
            let above = high_at (keyword k) (length word) (keyword_high k) more in
            let here : get_or (keyword k) (length word) 0 ≡ get_or text (length word) 0 =
            ap (λ (l : List ℕ). get_or l (length word) 0) (sym ahead.spelled)
            ∙ get_or-take count text (length word) 0 more in
            absurd (omega (arith, above, here, next_byte text word rest whole, ends))
        | inr not_more ↦
            let at : count ≡ length word = omega (arith, not_less, not_more) in
            sym ahead.spelled ∙ ap (λ (i : ℕ). take i text) at ∙ ap (take (length word)) whole
            ∙ take-append_seam word rest
      ]
    ]

-- a keyword with which the text begins is the first that stands ahead
pub sought_found : (text word rest : List ℕ) (k : Keyword) → AreBytes text → text ≡ word ++ rest → EndsWord rest
    → keyword_at word ≡ Some k
    → find (stands_ahead text) (candidates_at (get_or text 0 0)) ≡ Some k
unfolding keyword_at
sought_found text word rest k all whole ends spells =
    let spelled = keyword_takes word k spells in
    let some : 0 < length word = subst (λ (l : List ℕ). 0 < length l) (sym spelled) (keyword_some k) in
    let first = front_byte text word rest 0 whole some in
    ap (λ (b : ℕ). find (stands_ahead text) (candidates_at b)) first
    ∙ find_alike (stands_ahead text) (λ other. bytes_eq (keyword other) word)
    (candidates_at (get_or word 0 0)) (λ other.
    same_bools _ _ (λ stands. (bytes_eq-Decides (keyword other) word).1
    (spelled_alone text word rest other k all whole ends spelled stands))
    (λ same. stands_spelled text word rest other all whole ends ((bytes_eq-Decides (keyword other) word).0 same)))
    ∙ spells

-- the text begins with what is found
pub found_begins : (text : List ℕ) (words : List Keyword) (k : Keyword) → AreBytes text
    → find (stands_ahead text) words ≡ Some k
    → Begins keyword_at text k (drop (length (keyword k)) text)
found_begins text words k all found =
    let ahead = is_ahead text k all (find_holds (stands_ahead text) words k found) in
    let count = length (keyword k) in
    record {
      word = keyword k;
      whole = sym (take-append-drop count text) ∙ ap (λ (l : List ℕ). l ++ drop count text) ahead.spelled;
      reads = keyword_again k;
    }

-- and is at least as long
pub found_within : (text : List ℕ) (words : List Keyword) (k : Keyword) → AreBytes text
    → find (stands_ahead text) words ≡ Some k → length (keyword k) ≤ length text
unfolding found_begins
found_within text words k all found =
    let whole : length text ≡ length (keyword k ++ drop (length (keyword k)) text) =
    ap length (found_begins text words k all found).whole in
    omega (arith, whole, length-append (keyword k) (drop (length (keyword k)) text))

-- what stands behind a keyword
pub behind_keyword : (text word rest : List ℕ) (k : Keyword) → text ≡ word ++ rest → keyword_at word ≡ Some k
    → drop (length (keyword k)) text ≡ rest
behind_keyword text word rest k whole spells =
    ap (λ (l : List ℕ). drop (length l) text) (sym (keyword_takes word k spells)) ∙ ap (drop (length word)) whole
    ∙ drop-append_seam word rest

-- a text without bytes begins with none
pub no_first_word : (text word rest : List ℕ) (k : Keyword) → text ≡ word ++ rest → keyword_at word ≡ Some k
    → 0 < length text
no_first_word text word rest k whole spells =
    let some : 0 < length word = subst (λ (l : List ℕ). 0 < length l) (sym (keyword_takes word k spells))
    (keyword_some k) in
    omega (arith, some, ap length whole, length-append word rest)
