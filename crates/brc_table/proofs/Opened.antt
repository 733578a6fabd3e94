-- Words and slots that open as they should show the opening world, and keep the rule.
use Rattle.std.proofs.Common.{◌≡◌, ℕ, zero, suc, ◌+◌, ◌-◌, ◌*◌, ◌%◌, ◌^◌, ◌<◌, ◌≤◌, nat_lt, ◌&&◌, Bool, true}
use Rattle.std.proofs.Common.{false, if◌then◌else◌, List, [], ◌∷◌, ◌++◌, map, length, get_or, Option, Some, None, refl}
use Rattle.std.proofs.Common.{sym, ◌∙◌, ap, subst, inl, inr, arith}
use Rattle.std.proofs.lemmas.Bool.{cases_lt, lt-ltb, le-ltb}
use Rattle.std.specs.Cmp.Derive.{both_true}
use Rattle.std.specs.Int.{bit_at}
use Rattle.std.proofs.lemmas.List.{length-map, map-append}
use Rattle.std.proofs.lemmas.Nat.{pow_pos}
use Rattle.std.proofs.lemmas.Nat.Bits.{same_from_bits_below, bit_at_mask_below, bit_at_mask_inside, bit_at_mask_above}
use lib.Pow.{pow_mono}
use mathlib.Core.Option.{some}
use lib.ListN.{get_elem?}
use Rattle.atomic_table.specs.Table as tables
use Rattle.brc_words.specs.declared.limits.TheConstants.{FIRST_MORTAL, MOST_CELLS}
use Rattle.law.specs.declared.world.cell.Cell.{Cell}
use Rattle.law.specs.world.Lists.{word_at, one}
use Rattle.law.specs.known.Start.{start_of}
use Rattle.law.specs.world.Heap.{immortal, no_cell, cell_at, row_at, queue_at, is_registered, AreOptions}
use Rattle.law.specs.world.Steps.{is_closed, is_free}
use Rattle.law.proofs.world.Beginning.{length-opening, free_cell, immortal_cell}
use Rattle.law.proofs.world.Registering.{length-push, read_push}
use Rattle.law.specs.declared.known.word.Field.{Field}
use Rattle.law.specs.declared.known.word.Field.TheVariants.{Owner, Local, Shared, Mutex}
use Rattle.law.specs.declared.known.word.Word.{Word}
use Rattle.law.specs.declared.known.word.Word.TheVariants.{Of, Queue, NotifyWord, FreeWord}
use Rattle.law.specs.known.Free_Words.{free_words_for, is_free_cell, free_bits, ShowsOwner}
use Rattle.law.proofs.known.Free_Law.{told_below, told_bit}
use Rattle.law.specs.known.Items.{IsWord, WordShows, ShowsQueue, word_in}
use Rattle.brc_block.specs.declared.payload.Payload.{Payload}
use Rattle.law.specs.declared.rule.contents.Contents.{Contents}
use Rattle.law.specs.rule.Layout.{counts_from, queues_from, spot, extent}
use Rattle.law.specs.rule.Logs.{opening_contents}
use Rattle.law.specs.rule.Homes.{LiesThere}
use Rattle.law.specs.rule.Rule.{Kept}
use Rattle.law.specs.rule.Opening.{first_view, Opens}
use Rattle.law.proofs.rule.Spots.{inside}
use Rattle.law.proofs.rule.Opening_Law.{opens}
use Rattle.brc_table.specs.Shown.{shows}
use Rattle.brc_table.specs.Opening.{bits_below, opening_free, opening_count, opening_low, opening_high, opening_word}
use Rattle.brc_table.specs.Opening.{opening_words, slot_shows, opening_slot, opening_slots}

if_so : {A : Type 0} (b : Bool) (x y : A) → b ≡ true → (if b then x else y) ≡ x
if_so b x y is = ap (λ z. if z then x else y) is

if_not : {A : Type 0} (b : Bool) (x y : A) → b ≡ false → (if b then x else y) ≡ y
if_not b x y is = ap (λ z. if z then x else y) is

-- ---- words, by where they lie

before_counts : (n at : ℕ) → at < counts_from → opening_word n at ≡ opening_low n at
before_counts n at low = if_so (nat_lt at counts_from) (opening_low n at) (opening_high n at) (lt-ltb at counts_from low)

from_counts : (n at : ℕ) → counts_from ≤ at → opening_word n at ≡ opening_high n at
from_counts n at high = if_not (nat_lt at counts_from) (opening_low n at) (opening_high n at) (le-ltb at counts_from high)

pub among_free : (n k : ℕ) → n ≤ MOST_CELLS → k < free_words_for n → opening_word n k ≡ opening_free n k
among_free n k few low = before_counts n k (omega (arith, few, low))
    ∙ if_so (nat_lt k (free_words_for n)) (opening_free n k) 0 (lt-ltb k (free_words_for n) low)

pub between : (n at : ℕ) → free_words_for n ≤ at → at < counts_from → opening_word n at ≡ 0
between n at past low = before_counts n at low
    ∙ if_not (nat_lt at (free_words_for n)) (opening_free n at) 0 (le-ltb at (free_words_for n) past)

pub among_counts : (n at c part : ℕ) → c < n → part < 8 → at ≡ counts_from + c * 8 + part
    → opening_word n at ≡ opening_count part
among_counts n at c part low small there =
    let of_it : (at - counts_from) % 8 ≡ part = omega (arith, small, there) in
    from_counts n at (omega (arith, there))
    ∙ if_so (nat_lt at (queues_from n)) (opening_count ((at - counts_from) % 8)) 0
    (lt-ltb at (queues_from n) (omega (arith, low, small, there)))
    ∙ ap opening_count of_it

pub past_counts : (n at : ℕ) → queues_from n ≤ at → opening_word n at ≡ 0
past_counts n at high = from_counts n at (omega (arith, high))
    ∙ if_not (nat_lt at (queues_from n)) (opening_count ((at - counts_from) % 8)) 0
    (le-ltb at (queues_from n) high)

-- ---- the opening world's words

-- a cell's word is an immortal's, or a free cell's
by_cell : (n limit : ℕ) (field : Field) (c number : ℕ) → FIRST_MORTAL ≤ n
    → (c < FIRST_MORTAL → number ≡ word_in field (immortal c)) → (FIRST_MORTAL ≤ c → number ≡ word_in field no_cell)
    → number ≡ word_in field (cell_at (start_of n limit) c)
by_cell n limit field c number enough fixed mortal = elim (cases_lt c FIRST_MORTAL) [
  | inl low ↦ fixed low ∙ sym (ap (word_in field) (immortal_cell n c enough low))
  | inr high ↦ mortal high ∙ sym (ap (word_in field) (free_cell n c high))
]

lone : (t : ℕ) → word_at (0 ∷ []) t ≡ 0
lone zero = refl
lone (suc t) = refl

left_false : (a b : Bool) → a ≡ false → (a && b) ≡ false
left_false a b is = ap (λ z. z && b) is

right_false : (a b : Bool) → b ≡ false → (a && b) ≡ false
right_false true b is = is
right_false false b is = refl

none_registered : (n limit t : ℕ) → is_registered (start_of n limit) t ≡ false
none_registered n limit t = elim (cases_lt 0 t) [
  | inl low ↦ right_false (nat_lt 0 t) (nat_lt t 1) (le-ltb t 1 low)
  | inr high ↦ left_false (nat_lt 0 t) (nat_lt t 1) (le-ltb 0 t high)
]

-- nobody has an immortal, and a free cell's owner word means nothing
opens_owner : (n limit c : ℕ) → FIRST_MORTAL ≤ n → ShowsOwner 1 (cell_at (start_of n limit) c).owner 0
opens_owner n limit c enough = elim (cases_lt c FIRST_MORTAL) [
  | inl low ↦ subst (λ (x : Cell). ShowsOwner 1 x.owner 0) (sym (immortal_cell n c enough low)) refl
  | inr high ↦ subst (λ (x : Cell). ShowsOwner 1 x.owner 0) (sym (free_cell n c high)) (omega arith)
]

-- a bit of a free word is its cell's
opens_bit : (n limit k i : ℕ) → FIRST_MORTAL ≤ n → i < 64
    → bit_at (opening_free n k) i ≡ one (is_free_cell (start_of n limit) (k * 64 + i))
opens_bit n limit k i enough inside = elim (cases_lt (k * 64 + i) FIRST_MORTAL) [
  | inl low ↦ bit_at_mask_below (bits_below FIRST_MORTAL k) (bits_below n k) i (omega (arith, low, inside))
      ∙ sym (ap one (ap (λ (x : Cell). nat_lt (k * 64 + i) (length (start_of n limit).cells) && is_free x.owner)
      (immortal_cell n (k * 64 + i) enough low)
      ∙ right_false (nat_lt (k * 64 + i) (length (start_of n limit).cells)) false refl))
  | inr high ↦ elim (cases_lt (k * 64 + i) n) [
    | inl low ↦ bit_at_mask_inside (bits_below FIRST_MORTAL k) (bits_below n k) i (omega (arith, high, inside))
        (omega (arith, low, inside))
        ∙ sym (ap one (both_true
        (lt-ltb (k * 64 + i) (length (start_of n limit).cells) (omega (arith, low, length-opening n)))
        (ap (λ (x : Cell). is_free x.owner) (free_cell n (k * 64 + i) high))))
    | inr past ↦ bit_at_mask_above (bits_below FIRST_MORTAL k) (bits_below n k) i (omega (arith, past, inside))
        ∙ sym (ap one (left_false (nat_lt (k * 64 + i) (length (start_of n limit).cells)) _
        (le-ltb (k * 64 + i) (length (start_of n limit).cells) (omega (arith, past, length-opening n)))))
  ]
]

opens_free : (n limit k : ℕ) → FIRST_MORTAL ≤ n → opening_free n k ≡ free_bits (start_of n limit) k
opens_free n limit k enough =
    let f : ℕ → Bool = λ i. is_free_cell (start_of n limit) (k * 64 + i) in
    same_from_bits_below 64 (opening_free n k) (free_bits (start_of n limit) k)
    (mask_small (bits_below FIRST_MORTAL k) (bits_below n k) (omega arith)) (told_below f 64)
    (λ i inside. opens_bit n limit k i enough inside ∙ sym (told_bit f 64 i inside))
  where
    mask_small : (lo hi : ℕ) → hi ≤ 64 → 2 ^ hi - 2 ^ lo < 2 ^ 64
    mask_small lo hi few = let most : 2 ^ hi ≤ 2 ^ 64 = pow_mono few in omega (arith, most, pow_pos lo)

opens_word : (n limit : ℕ) (w : Word) → FIRST_MORTAL ≤ n → n ≤ MOST_CELLS → IsWord n w
    → WordShows (start_of n limit) w (opening_word n (spot n w))
opens_word n limit (Of Owner c) enough few is = subst (ShowsOwner 1 (cell_at (start_of n limit) c).owner)
    (sym (among_counts n (spot n (Of Owner c)) c 2 is (omega arith) refl)) (opens_owner n limit c enough)
opens_word n limit (FreeWord k) enough few is = among_free n k few is ∙ opens_free n limit k enough
opens_word n limit (Of Local c) enough few is = absurd is
opens_word n limit (Of Shared c) enough few is = among_counts n (spot n (Of Shared c)) c 0 is (omega arith) (omega arith)
    ∙ by_cell n limit Shared c (2 ^ 42) enough (λ low. refl) (λ high. refl)
opens_word n limit (Of Mutex c) enough few is = among_counts n (spot n (Of Mutex c)) c 1 is (omega arith) refl
    ∙ by_cell n limit Mutex c 0 enough (λ low. refl) (λ high. refl)
opens_word n limit (Queue t k) enough few is =
    subst (λ b. ShowsQueue b (is_closed (row_at (start_of n limit) t).stage k) (word_at (queue_at (start_of n limit) t) k)
    (opening_word n (spot n (Queue t k)))) (sym (none_registered n limit t))
    (past_counts n (spot n (Queue t k)) (omega arith))
opens_word n limit (NotifyWord t) enough few is =
    between n (spot n (NotifyWord t)) (omega (arith, few)) (omega (arith, is)) ∙ sym (lone t)

-- ---- lists

pub length-opening_words : (n k : ℕ) → length (opening_words n k) ≡ k
length-opening_words n zero = refl
length-opening_words n (suc k) = omega (
  arith,
  length-push (opening_words n k) (opening_word n k),
  length-opening_words n k,
)

pub wide_of : (n k : ℕ) (words : List ℕ) → words ≡ opening_words n k → length words ≡ k
wide_of n k words are = ap length are ∙ length-opening_words n k

pub read_word : (n k at : ℕ) → at < k → get_or (opening_words n k) at 0 ≡ opening_word n at
read_word n zero at low = absurd (omega arith)
read_word n (suc k) at low = read_push (λ j x. j < suc k → x ≡ opening_word n j) (opening_words n k)
    (opening_word n k) 0
    (λ _. ap (opening_word n) (sym (length-opening_words n k)))
    (λ j other below. read_word n k j (omega (arith, other, below, length-opening_words n k))) at low

length-opening_slots : (k : ℕ) → length (opening_slots k) ≡ k
length-opening_slots zero = refl
length-opening_slots (suc k) = omega (arith, length-push (opening_slots k) (opening_slot k), length-opening_slots k)

read_slot : (k c : ℕ) → c < k → get_or (opening_slots k) c None ≡ opening_slot c
read_slot zero c low = absurd (omega arith)
read_slot (suc k) c low = read_push (λ j (x : Option (ℕ × Contents)). j < suc k → x ≡ opening_slot j) (opening_slots k)
    (opening_slot k) None
    (λ _. ap opening_slot (sym (length-opening_slots k)))
    (λ j other below. read_slot k j (omega (arith, other, below, length-opening_slots k))) c low

-- ---- slots

held : ℕ × Contents → Option (ℕ × Contents) → ℕ × Contents
held x None = x
held x (Some y) = y

module _ {A : Type 0} where
  -- a slot of the list, at home
  record SlotThere (slots : List (Option (ℕ × Payload A))) (c : ℕ) : Type 0 where
    slot : Option (ℕ × Payload A)
    there : get_elem? (map some slots) c ≡ some (some slot)
    shown : get_or (map slot_shows slots) c None ≡ slot_shows slot

  slot_there : (slots : List (Option (ℕ × Payload A))) (c : ℕ) → c < length slots → SlotThere slots c
  slot_there [] c low = absurd (omega arith)
  slot_there (x ∷ xs) zero low = record { slot = x; there = refl; shown = refl }
  slot_there (x ∷ xs) (suc c) low = let t = slot_there xs c (omega (arith, low)) in
      record { slot = t.slot; there = t.there; shown = t.shown }

  lies : (slots : List (Option (ℕ × Payload A))) (c : ℕ) (contents : Contents) (slot : Option (ℕ × Payload A))
      → get_elem? (map some slots) c ≡ some (some slot) → slot_shows slot ≡ Some (c, contents)
      → LiesThere shows (map some slots) c contents
  unfolding held
  lies slots c contents None there shown = absurd (cc)
  lies slots c contents (Some block) there shown =
      let is : shows block ≡ (c, contents) = ap (held (c, contents)) shown in
      record { block = block; there = there; of_cell = ap (λ z. z.0) is; holds = ap (λ z. z.1) is }

  bare : (slots : List (Option (ℕ × Payload A))) (c : ℕ) (slot : Option (ℕ × Payload A))
      → get_elem? (map some slots) c ≡ some (some slot) → slot_shows slot ≡ None
      → get_elem? (map some slots) c ≡ some (some None)
  bare slots c None there shown = there
  bare slots c (Some block) there shown = absurd (cc)

  slot_opens : (n : ℕ) (slots : List (Option (ℕ × Payload A))) (c : ℕ) → map slot_shows slots ≡ opening_slots n → c < n
      → (t : SlotThere slots c) → slot_shows t.slot ≡ opening_slot c
  slot_opens n slots c made low t = sym t.shown ∙ ap (λ z. get_or z c None) made ∙ read_slot n c low

  pub deep_of : (n : ℕ) (slots : List (Option (ℕ × Payload A))) → map slot_shows slots ≡ opening_slots n
      → length slots ≡ n
  deep_of n slots made = sym (length-map slots slot_shows) ∙ ap length made ∙ length-opening_slots n

  opens_so : (n limit : ℕ) (slots : List (Option (ℕ × Payload A))) → AreOptions n limit
      → map slot_shows slots ≡ opening_slots n → Opens shows n limit (opening_words n (extent n)) slots
  opens_so n limit slots options made = record {
    wide = length-opening_words n (extent n);
    deep = deep_of n slots made;
    each_word = λ w is. subst (WordShows (start_of n limit) w) (sym (read_word n (extent n) (spot n w) (inside n w is)))
        (opens_word n limit w (omega (arith, options.enough)) options.few_enough is);
    immortals = λ c fixed.
        let low : c < n = omega (arith, fixed, options.enough) in
        let t = slot_there slots c (subst (λ m. c < m) (sym (deep_of n slots made)) low) in
        lies slots c (opening_contents c) t.slot t.there (slot_opens n slots c made low t
        ∙ if_so (nat_lt c FIRST_MORTAL) (Some (c, opening_contents c)) None (lt-ltb c FIRST_MORTAL fixed));
    mortals = λ c mortal low.
        let t = slot_there slots c (subst (λ m. c < m) (sym (deep_of n slots made)) low) in
        bare slots c t.slot t.there (slot_opens n slots c made low t
        ∙ if_not (nat_lt c FIRST_MORTAL) (Some (c, opening_contents c)) None (le-ltb c FIRST_MORTAL mortal));
  }

  -- one more slot
  pub one_more_slot : (c : ℕ) (before after : List (Option (ℕ × Payload A))) (slot : Option (ℕ × Payload A))
      → after ≡ before ++ slot ∷ [] → map slot_shows before ≡ opening_slots c → slot_shows slot ≡ opening_slot c
      → map slot_shows after ≡ opening_slots (c + 1)
  one_more_slot c before after slot pushed made shown =
      let next : suc c ≡ c + 1 = omega arith in
      ap (map slot_shows) pushed ∙ map-append slot_shows before (slot ∷ []) ∙ (λ i. made i ++ shown i ∷ [])
      ∙ ap opening_slots next

  -- so the table keeps the rule as it opens
  pub opened : (n limit : ℕ) (words : List ℕ) (slots : List (Option (ℕ × Payload A))) → AreOptions n limit
      → words ≡ opening_words n (extent n) → map slot_shows slots ≡ opening_slots n
      → Kept shows n limit (tables.opening words slots first_view)
  opened n limit words slots options words_are made =
      subst (λ z. Kept shows n limit (tables.opening z slots first_view)) (sym words_are)
      (opens shows n limit (opening_words n (extent n)) slots options (opens_so n limit slots options made))
