-- Free words: which bit says what, what a claim and a free make of one, and what an owner word says of who lives.
use Rattle.std.proofs.Common.{◌≡◌, ◌≢◌, ℕ, zero, suc, ◌+◌, ◌-◌, ◌*◌, ◌/◌, ◌%◌, ◌^◌, ◌<◌, ◌≤◌, ◌&&◌, nat_lt, Bool, true}
use Rattle.std.proofs.Common.{false, min, max, length, refl, sym, ◌∙◌, ap, subst, inl, inr, arith, w64}
use Rattle.std.specs.Prelude.{bit_and, bit_or}
use Rattle.std.specs.Int.{bit_at}
use Rattle.std.proofs.lemmas.Bool.{cases_eq, true≢false, lt-ltb}
use Rattle.std.proofs.lemmas.Nat.{and_le_l, or_lt, pow_below}
use Rattle.std.proofs.lemmas.Nat.Bits.{bit_at_cat_low, bit_at_cat_high, bit_at-lt, same_from_bits_below, bit_at_and}
use Rattle.std.proofs.lemmas.Nat.Bits.{bit_at_or, bit_at_not, bit_at-pow_same, bit_at-pow_other}
use Rattle.brc_words.specs.declared.owner.Owner.{Owner}
use Rattle.brc_words.specs.declared.owner.Owner.TheVariants as owners
use Rattle.brc_words.specs.Owners.{word_of}
use Rattle.law.specs.world.Lists.{one}
use Rattle.law.specs.world.Heap.{Heap, cell_at}
use Rattle.law.specs.world.Holding.{lives}
use Rattle.law.specs.world.Steps.{is_free}
use Rattle.law.specs.lasting.Ranges.{OwnerFits}
use Rattle.law.specs.known.Free_Words.{bits_told, is_free_cell, free_bits, ShowsOwner}

-- ---- a number whose bits are told

one-le : (b : Bool) → one b ≤ 1
one-le true = omega arith
one-le false = omega arith

doubled : (n : ℕ) → 2 ^ suc n ≡ 2 * 2 ^ n
doubled n = omega arith

at_low : (b : Bool) → bit_at (one b) 0 ≡ one b
at_low true = refl
at_low false = refl

scaled : (b : Bool) (p : ℕ) → one b * p ≤ p
scaled true p = omega arith
scaled false p = omega arith

pub told_below : (f : ℕ → Bool) (n : ℕ) → bits_told f n < 2 ^ n
told_below f zero = omega arith
told_below f (suc n) = omega (arith, told_below f n, scaled (f n) (2 ^ n), doubled n)

pub told_bit : (f : ℕ → Bool) (n i : ℕ) → i < n → bit_at (bits_told f n) i ≡ one (f i)
told_bit f zero i low = absurd (omega (arith, low))
told_bit f (suc n) i low = elim (cases_eq i n) [
  | inl same ↦ subst (λ j. bit_at (bits_told f (suc n)) j ≡ one (f j)) (sym same)
      (let none : n - n ≡ 0 = omega arith in bit_at_cat_high (one (f n)) n (bits_told f n) n (told_below f n)
      (omega arith) ∙ ap (bit_at (one (f n))) none ∙ at_low (f n))
  | inr other ↦ bit_at_cat_low (one (f n)) n (bits_told f n) i (omega (arith, low, other))
      ∙ told_bit f n i (omega (arith, low, other))
]

-- equal bits, equal numbers
pub told_alike : (f g : ℕ → Bool) (n : ℕ) → ((i : ℕ) → i < n → f i ≡ g i) → bits_told f n ≡ bits_told g n
told_alike f g zero alike = refl
told_alike f g (suc n) alike = ap (λ b. one b * 2 ^ n + bits_told f n) (alike n (omega arith))
    ∙ ap (λ k. one (g n) * 2 ^ n + k) (told_alike f g n (λ i low. alike i (omega (arith, low))))

pub told_true : (f : ℕ → Bool) (n i : ℕ) → i < n → bit_at (bits_told f n) i ≡ 1 → f i ≡ true
told_true f n i low is = by_one (f i) (sym (told_bit f n i low) ∙ is)
  where
    by_one : (b : Bool) → one b ≡ 1 → b ≡ true
    by_one true is = refl
    by_one false is = absurd (omega (arith, is))

-- ---- one bit is taken, or given

mask_same : (j : ℕ) → j < 64 → bit_at (2 ^ 64 - 1 - 2 ^ j) j ≡ 0
mask_same j low = bit_at_not w64 (2 ^ j) j (pow_below j 64 low) low ∙ ap (λ b. 1 - b) (bit_at-pow_same j)

mask_other : (j i : ℕ) → j < 64 → i < 64 → i ≢ j → bit_at (2 ^ 64 - 1 - 2 ^ j) i ≡ 1
mask_other j i low inside other = bit_at_not w64 (2 ^ j) i (pow_below j 64 low) inside
    ∙ ap (λ b. 1 - b) (bit_at-pow_other j i other)

pub bit_taken : (f g : ℕ → Bool) (j : ℕ) → j < 64 → ((i : ℕ) → i < 64 → i ≢ j → g i ≡ f i) → g j ≡ false
    → bit_and (bits_told f 64) (2 ^ 64 - 1 - 2 ^ j) ≡ bits_told g 64
bit_taken f g j low others gone =
    let mask : ℕ = 2 ^ 64 - 1 - 2 ^ j in
    same_from_bits_below 64 (bit_and (bits_told f 64) mask) (bits_told g 64)
    (omega (arith, and_le_l (bits_told f 64) mask, told_below f 64)) (told_below g 64)
    (λ i inside. elim (cases_eq i j) [
      | inl same ↦ bit_at_and (bits_told f 64) mask i ∙ ap (λ b. min (bit_at (bits_told f 64) i) b)
          (ap (bit_at mask) same ∙ mask_same j low) ∙ min_zero (bit_at (bits_told f 64) i)
          ∙ sym (told_bit g 64 i inside ∙ ap (λ k. one (g k)) same ∙ ap one gone)
      | inr other ↦ bit_at_and (bits_told f 64) mask i ∙ ap (λ b. min (bit_at (bits_told f 64) i) b)
          (mask_other j i low inside other) ∙ min_one (bit_at (bits_told f 64) i) (bit_at-lt (bits_told f 64) i)
          ∙ told_bit f 64 i inside ∙ sym (told_bit g 64 i inside ∙ ap one (others i inside other))
    ])
  where
    min_zero : (b : ℕ) → min b 0 ≡ 0
    min_zero b = omega arith

    min_one : (b : ℕ) → b < 2 → min b 1 ≡ b
    min_one b low = omega (arith, low)

pub bit_given : (f g : ℕ → Bool) (j : ℕ) → j < 64 → ((i : ℕ) → i < 64 → i ≢ j → g i ≡ f i) → g j ≡ true
    → bit_or (bits_told f 64) (2 ^ j) ≡ bits_told g 64
bit_given f g j low others given =
    same_from_bits_below 64 (bit_or (bits_told f 64) (2 ^ j)) (bits_told g 64)
    (or_lt 64 (bits_told f 64) (2 ^ j) (told_below f 64) (pow_below j 64 low)) (told_below g 64)
    (λ i inside. elim (cases_eq i j) [
      | inl same ↦ bit_at_or (bits_told f 64) (2 ^ j) i ∙ ap (λ b. max (bit_at (bits_told f 64) i) b)
          (ap (bit_at (2 ^ j)) same ∙ bit_at-pow_same j)
          ∙ max_one (bit_at (bits_told f 64) i) (bit_at-lt (bits_told f 64) i)
          ∙ sym (told_bit g 64 i inside ∙ ap (λ k. one (g k)) same ∙ ap one given)
      | inr other ↦ bit_at_or (bits_told f 64) (2 ^ j) i ∙ ap (λ b. max (bit_at (bits_told f 64) i) b)
          (bit_at-pow_other j i other) ∙ max_zero (bit_at (bits_told f 64) i)
          ∙ told_bit f 64 i inside ∙ sym (told_bit g 64 i inside ∙ ap one (others i inside other))
    ])
  where
    max_zero : (b : ℕ) → max b 0 ≡ b
    max_zero b = omega arith

    max_one : (b : ℕ) → b < 2 → max b 1 ≡ 1
    max_one b low = omega (arith, low)

-- ---- cells and their bits

-- a cell's word and bit name the cell
pub cell_of_bit : (c : ℕ) → c / 64 * 64 + c % 64 ≡ c
cell_of_bit c = omega arith

-- a cell is the only one of its word and bit
pub bit_of_cell : (c k i : ℕ) → i < 64 → k * 64 + i ≡ c → (k ≡ c / 64) × (i ≡ c % 64)
bit_of_cell c k i low is = (omega (arith, low, is), omega (arith, low, is))

pub free_bit : (h : Heap) (c : ℕ) → bit_at (free_bits h (c / 64)) (c % 64) ≡ one (is_free_cell h c)
free_bit h c = told_bit (λ i. is_free_cell h (c / 64 * 64 + i)) 64 (c % 64) (omega arith)
    ∙ ap (λ d. one (is_free_cell h d)) (cell_of_bit c)

-- ---- what an owner word says

-- while an object lives the word is its owner's
pub live_shown : (threads : ℕ) (o : Owner) (number : ℕ) → lives o ≡ true → ShowsOwner threads o number
    → number ≡ word_of o
live_shown threads owners.Nobody number live shown = shown
live_shown threads (owners.Thread t) number live shown = shown
live_shown threads (owners.Claimed t) number live shown = absurd (true≢false (sym live))
live_shown threads owners.Free number live shown = absurd (true≢false (sym live))

-- always it is 0 or a thread that was registered
pub shown_below : (threads : ℕ) (o : Owner) (number : ℕ) → 0 < threads → OwnerFits threads o
    → ShowsOwner threads o number → number < threads
shown_below threads owners.Nobody number some fits shown = omega (arith, some, shown)
shown_below threads (owners.Thread t) number some fits shown = omega (arith, fits.1, shown)
shown_below threads (owners.Claimed t) number some fits shown = shown
shown_below threads owners.Free number some fits shown = shown

-- threads only join
pub shown_longer : (old new : ℕ) (o : Owner) (number : ℕ) → old ≤ new → ShowsOwner old o number
    → ShowsOwner new o number
shown_longer old new owners.Nobody number more shown = shown
shown_longer old new (owners.Thread t) number more shown = shown
shown_longer old new (owners.Claimed t) number more shown = omega (arith, more, shown)
shown_longer old new owners.Free number more shown = omega (arith, more, shown)
