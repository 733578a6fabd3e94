-- Single bits of words: after one is set or cleared, and after a word is moved to other words.
use Rattle.std.proofs.Common.{◌≡◌, ◌≢◌, ℕ, ◌+◌, ◌/◌, ◌%◌, ◌^◌, ◌<◌, ◌≤◌, ◌==◌, not, true, List, length, get_or, set}
use Rattle.std.proofs.Common.{max, Some, refl, sym, ◌∙◌, ap, inl, inr, arith, if◌then◌else◌}
use Rattle.std.specs.Int.{bit_at}
use Rattle.std.specs.Int.RustNames.{bit_or, bit_xor}
use Rattle.std.proofs.lemmas.List.{get_or-set_same, get_or-set_other, length-set, get_or_past}
use Rattle.std.proofs.lemmas.List.Sums.{get_or-le-sum_by}
use Rattle.std.proofs.lemmas.Bool.{cases_eq, cases_lt, ne_eqb, eqb-true}
use Rattle.std.proofs.lemmas.Nat.Bits.{bit_at-zero, bit_at-lt, bit_at_or, bit_at_xor, bit_at-pow_same, bit_at-pow_other}
use Rattle.law.specs.world.Lists.{bit_of, word_at, with_bit, without_bit, is_blank}
use Rattle.law.specs.world.Steps.{with_drained, without_drained}

pub bit_of-lt : (words : List ℕ) (q : ℕ) → bit_of words q < 2
bit_of-lt words q = bit_at-lt (word_at words (q / 32)) (q % 32)

-- a cell of a word's is told by its bit
pub bit_tells : (q c : ℕ) → q / 32 ≡ c / 32 → q % 32 ≡ c % 32 → q ≡ c
bit_tells q c word bit = omega arith

module _ (words : List ℕ) where
  -- the words after one is written
  word_here : (k w q : ℕ) → k < length words → q / 32 ≡ k → bit_of (set words k w) q ≡ bit_at w (q % 32)
  word_here k w q inside same = ap (λ n. bit_at (get_or (set words k w) n 0) (q % 32)) same
      ∙ ap (λ v. bit_at v (q % 32)) (get_or-set_same words k w 0 inside)

  pub word_else : (k w q : ℕ) → q / 32 ≢ k → bit_of (set words k w) q ≡ bit_of words q
  word_else k w q other = ap (λ v. bit_at v (q % 32)) (get_or-set_other words k (q / 32) w 0 other)

  -- a bit that is set has its word
  pub bit_inside : (q : ℕ) → 0 < bit_of words q → q / 32 < length words
  bit_inside q some = elim (cases_lt (q / 32) (length words)) [
    | inl inside ↦ inside
    | inr past ↦ absurd (omega (
      arith,
      some,
      ap (λ v. bit_at v (q % 32)) (get_or_past words (q / 32) 0 past),
      bit_at-zero (q % 32),
    ))
  ]

  -- a cell's word is written, and differs from what it was in no other bit
  bit_else : (c w q : ℕ) → (q % 32 ≢ c % 32 → bit_at w (q % 32) ≡ bit_at (word_at words (c / 32)) (q % 32)) → q ≢ c
      → bit_of (set words (c / 32) w) q ≡ bit_of words q
  bit_else c w q alike other = elim (cases_eq (q / 32) (c / 32)) [
    | inr apart ↦ word_else (c / 32) w q apart
    | inl same ↦
        let was : bit_at (word_at words (c / 32)) (q % 32) ≡ bit_of words q =
        ap (λ n. bit_at (word_at words n) (q % 32)) (sym same) in
        elim (cases_lt (c / 32) (length words)) [
          | inl inside ↦ word_here (c / 32) w q inside same ∙ alike (λ e. other (bit_tells q c same e)) ∙ was
          | inr past ↦ ap (λ n. bit_at (get_or (set words (c / 32) w) n 0) (q % 32)) same
              ∙ ap (λ v. bit_at v (q % 32))
              (get_or_past (set words (c / 32) w) (c / 32) 0 (omega (arith, past, length-set words (c / 32) w))
              ∙ sym (get_or_past words (c / 32) 0 past)) ∙ was
        ]
  ]

  -- ---- the bit of one cell is set, or cleared

  module _ (c : ℕ) where
    -- the cell's word, its bit alone, and the word with that bit set or turned
    abbrev old : ℕ
    old = word_at words (c / 32)

    abbrev bit : ℕ
    bit = 2 ^ (c % 32)

    pub length-with_bit : length (with_bit words c) ≡ length words
    length-with_bit = length-set words (c / 32) (bit_or old bit)

    pub with_bit_here : c / 32 < length words → bit_of (with_bit words c) c ≡ 1
    with_bit_here inside =
        word_here (c / 32) (bit_or old bit) c inside refl
        ∙ omega (arith, bit_at-lt old (c % 32), bit_at_or old bit (c % 32), bit_at-pow_same (c % 32))

    pub with_bit_else : (q : ℕ) → q ≢ c → bit_of (with_bit words c) q ≡ bit_of words q
    with_bit_else q = bit_else c (bit_or old bit) q
        (λ apart. omega (arith, bit_at_or old bit (q % 32), bit_at-pow_other (c % 32) (q % 32) apart))

    pub length-without_bit : length (without_bit words c) ≡ length words
    length-without_bit = length-set words (c / 32) (bit_xor old bit)

    pub without_bit_here : bit_of words c ≡ 1 → bit_of (without_bit words c) c ≡ 0
    without_bit_here there =
        let both : bit_at old (c % 32) + bit_at bit (c % 32) ≡ 2 = omega (arith, there, bit_at-pow_same (c % 32)) in
        word_here (c / 32) (bit_xor old bit) c (bit_inside c (omega (arith, there))) refl ∙ bit_at_xor old bit (c % 32)
        ∙ ap (λ n. n % 2) both

    pub without_bit_else : (q : ℕ) → q ≢ c → bit_of (without_bit words c) q ≡ bit_of words q
    without_bit_else q =
        bit_else c (bit_xor old bit) q
        (λ apart. omega (
          arith,
          bit_at-lt old (q % 32),
          bit_at_xor old bit (q % 32),
          bit_at-pow_other (c % 32)
              (q % 32) apart,
        ))

-- ---- a word is moved

module _ (k : ℕ) (queue : List ℕ) where
  pub length-without_taken : length (without_drained (Some k) queue) ≡ length queue
  length-without_taken = length-set queue k 0

  pub untaken_here : (q : ℕ) → q / 32 ≡ k → bit_of (without_drained (Some k) queue) q ≡ 0
  untaken_here q same = elim (cases_lt k (length queue)) [
    | inl inside ↦ word_here queue k 0 q inside same ∙ bit_at-zero (q % 32)
    | inr past ↦ ap (λ v. bit_at v (q % 32))
        (get_or_past (set queue k 0) (q / 32) 0 (omega (arith, past, same, length-set queue k 0)))
        ∙ bit_at-zero (q % 32)
  ]

  pub untaken_else : (q : ℕ) → q / 32 ≢ k → bit_of (without_drained (Some k) queue) q ≡ bit_of queue q
  untaken_else q other = word_else queue k 0 q other

  module _ (popped : List ℕ) where
    pub length-with_taken : length (with_drained (Some k) queue popped) ≡ length popped
    length-with_taken = length-set popped k (bit_or (word_at popped k) (word_at queue k))

    -- the cells of the word are popped, and no other
    pub taken_here : (q : ℕ) → k < length popped → q / 32 ≡ k → bit_of (with_drained (Some k) queue popped) q ≡ max
        (bit_of popped q) (bit_of queue q)
    taken_here q inside same =
        word_here popped k (bit_or (word_at popped k) (word_at queue k)) q inside same
        ∙ bit_at_or (word_at popped k) (word_at queue k) (q % 32)
        ∙ ap (λ n. max (bit_at (word_at popped n) (q % 32)) (bit_at (word_at queue n) (q % 32))) (sym same)

    pub taken_else : (q : ℕ) → q / 32 ≢ k → bit_of (with_drained (Some k) queue popped) q ≡ bit_of popped q
    taken_else q other = word_else popped k (bit_or (word_at popped k) (word_at queue k)) q other

    -- no bit is lost, and none is new
    pub taken_bits : (q : ℕ) → k < length popped → bit_of queue q + bit_of popped q ≤ 1
        → bit_of (with_drained (Some k) queue popped) q + bit_of (without_drained (Some k) queue) q ≡ bit_of popped q
        + bit_of queue q
    taken_bits q inside once = elim (cases_eq (q / 32) k) [
      | inl same ↦ omega (arith, once, taken_here q inside same, untaken_here q same)
      | inr other ↦ omega (arith, taken_else q other, untaken_else q other)
    ]

-- ---- words without bits

pub blank_word : (words : List ℕ) (k : ℕ) → is_blank words ≡ true → word_at words k ≡ 0
blank_word words k blank = elim (cases_lt k (length words)) [
  | inr past ↦ get_or_past words k 0 past
  | inl inside ↦ elim (cases_eq (word_at words k) 0) [
    | inl none ↦ none
    | inr some ↦
        let counted = get_or-le-sum_by (λ (w : ℕ). if not (w == 0) then 1 else 0) words k 0 inside in
        let used : ◌≡◌ {A = ℕ} (if not (word_at words k == 0) then 1 else 0) 1 = ap (λ b. if not b then 1 else 0)
        (ne_eqb (word_at words k) 0 some) in
        absurd (omega (arith, counted, used, eqb-true _ _ blank))
  ]
]

pub blank_bits : (words : List ℕ) → is_blank words ≡ true → (q : ℕ) → bit_of words q ≡ 0
blank_bits words blank q = ap (λ w. bit_at w (q % 32)) (blank_word words (q / 32) blank) ∙ bit_at-zero (q % 32)
