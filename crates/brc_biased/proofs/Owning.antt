-- What the owned bits say of the counts, and how they go on saying it.
use Rattle.std.proofs.Common.{◌≡◌, ◌≢◌, ℕ, ◌+◌, ◌-◌, ◌*◌, ◌/◌, ◌%◌}
use Rattle.std.proofs.Common.{◌^◌, ◌<◌, ◌≤◌, ◌==◌, Bool, true, if◌then◌else◌, List, length}
use Rattle.std.proofs.Common.{set, replicate, slice_index, inl, inr, refl, sym, ◌∙◌, ap, arith}
use Rattle.std.specs.Int.{bit_at}
use Rattle.std.proofs.lemmas.Bool.{cases_eq, cases_lt, eq-eqb, ne_eqb, lt-ltb, le-ltb}
use Rattle.std.proofs.lemmas.List.{get_or-set_same, get_or-set_other, length-set, length-replicate}
use Rattle.std.proofs.lemmas.Nat.{shr-shr}
use Rattle.std.proofs.lemmas.Nat.Bits.{bit_at-zero}
use Rattle.brc_words.specs.declared.limits.TheConstants.{FIRST_MORTAL, IMMORTAL_LOCAL}
use Rattle.brc_table.specs.law.world.Heap.{words_for}
use Rattle.brc_table.specs.law.world.Lists.{bit_of, word_at, with_bit}
use Rattle.brc_table.proofs.law.world.Bitwise.{with_bit_here, with_bit_else}
use Rattle.brc_table.proofs.law.world.Bitwise.{length-with_bit}
use Rattle.brc_table.specs.law.declared.rule.told.LogItem.{LogItem}
use Rattle.brc_table.specs.law.world.Steps.{is_active}
use Rattle.brc_table.specs.law.rule.Seen.{part_seen, counts_seen}
use Rattle.brc_biased.specs.Counter.{CountsFit, AreOwned, first_count}

-- a word of 32 bits is written, and changes at most in the bit of one cell
pub other_bits : (words : List ℕ) (cell word : ℕ) → cell / 32 < length words
    → ((i : ℕ) → i < 32 → i ≢ cell % 32 → bit_at word i ≡ bit_at (word_at words (cell / 32)) i)
    → (c : ℕ) → c ≢ cell → bit_of (set words (cell / 32) word) c ≡ bit_of words c
other_bits words cell word inside rest c other = elim (cases_eq (c / 32) (cell / 32)) [
  | inl same ↦ ap (λ k. bit_at (word_at (set words (cell / 32) word) k) (c % 32)) same
      ∙ ap (λ w. bit_at w (c % 32)) (get_or-set_same words (cell / 32) word 0 inside)
      ∙ rest (c % 32) (omega arith) (λ is. other (omega (arith, is, same)))
      ∙ ap (λ k. bit_at (word_at words k) (c % 32)) (sym same)
  | inr apart ↦ ap (λ w. bit_at w (c % 32)) (get_or-set_other words (cell / 32) (c / 32) word 0 apart)
]

-- a cell's count is gone, of a mortal one or of one that was never counted
module _ (n : ℕ) (before log : List LogItem) (counts : List ℕ) (cell : ℕ) (fit : CountsFit n before counts)
    (gone : (c : ℕ) → counts_seen n log c ≡ (if c == cell then 0 else counts_seen n before c))
    (active : is_active (part_seen n log).row.stage ≡ true) where
  counts_else : (c : ℕ) → c ≢ cell → counts_seen n log c ≡ counts_seen n before c
  counts_else c other = gone c ∙ ap (λ (b : Bool). if b then 0 else counts_seen n before c) (ne_eqb c cell other)

  pub counts_gone : FIRST_MORTAL ≤ cell → CountsFit n log (set counts cell 0)
  counts_gone low = record {
    wide = length-set counts cell 0 ∙ fit.wide;
    immortal = λ c fixed inside. get_or-set_other counts cell c 0 0 (λ same. omega (arith, same, fixed, low))
        ∙ fit.immortal c fixed inside;
    mortal = λ c mortal inside. elim (cases_eq c cell) [
      | inl same ↦ ap (λ i. slice_index (set counts cell 0) i) same
          ∙ get_or-set_same counts cell 0 0 (omega (arith, inside, same, fit.wide))
          ∙ sym (gone c ∙ ap (λ (b : Bool). if b then 0 else counts_seen n before c) (eq-eqb c cell same))
      | inr other ↦ get_or-set_other counts cell c 0 0 other ∙ fit.mortal c mortal inside ∙ sym (counts_else c other)
    ];
    active = λ c mortal inside some. active;
  }

  pub counts_apart : cell < FIRST_MORTAL → CountsFit n log counts
  counts_apart low = record {
    wide = fit.wide;
    immortal = fit.immortal;
    mortal = λ c mortal inside. fit.mortal c mortal inside
        ∙ sym (counts_else c (λ same. omega (arith, same, mortal, low)));
    active = λ c mortal inside some. active;
  }

-- a thread that counts nothing is counted so
pub counts_none : (n : ℕ) (log : List LogItem) (counts : List ℕ) → length counts ≡ n
    → ((c : ℕ) → c < n → slice_index counts c ≡ first_count c)
    → ((c : ℕ) → FIRST_MORTAL ≤ c → c < n → counts_seen n log c ≡ 0) → CountsFit n log counts
counts_none n log counts wide first none = record {
  wide = wide;
  immortal = λ c fixed inside. first c inside
      ∙ ap (λ (b : Bool). if b then IMMORTAL_LOCAL else 0) (lt-ltb c FIRST_MORTAL fixed);
  mortal = λ c mortal inside. first c inside
      ∙ ap (λ (b : Bool). if b then IMMORTAL_LOCAL else 0) (le-ltb c FIRST_MORTAL mortal) ∙ sym
      (none c mortal inside);
  active = λ c mortal inside some. absurd (omega (arith, some, none c mortal inside));
}

pub owns_none : (n : ℕ) (counts owned : List ℕ) → owned ≡ replicate (words_for n) 0
    → ((c : ℕ) → c < n → slice_index counts c ≡ first_count c) → AreOwned n counts owned
owns_none n counts owned blank first = record {
  words = ap length blank ∙ length-replicate (words_for n) 0;
  marked = λ c mortal inside some. absurd (omega (arith, some, first c inside ∙ mortal_none c mortal));
}
  where
    mortal_none : (c : ℕ) → FIRST_MORTAL ≤ c → first_count c ≡ 0
    mortal_none c mortal = ap (λ (b : Bool). if b then IMMORTAL_LOCAL else 0) (le-ltb c FIRST_MORTAL mortal)

module _ (n : ℕ) (counts owned : List ℕ) (cell : ℕ) where
  -- a cell's count is written, and no other bit than its own
  owns_set : (later : List ℕ) (k : ℕ) → AreOwned n counts owned → length counts ≡ n → length later ≡ length owned
      → ((c : ℕ) → c ≢ cell → bit_of later c ≡ bit_of owned c)
      → (FIRST_MORTAL ≤ cell → cell < n → 0 < k → bit_of later cell ≡ 1)
      → AreOwned n (set counts cell k) later
  owns_set later k owns wide words rest here = record {
    words = words ∙ owns.words;
    marked = λ c mortal inside some. elim (cases_eq c cell) [
      | inl same ↦
          let low : cell < n = omega (arith, same, inside) in
          ap (bit_of later) same ∙ here (omega (arith, same, mortal)) low (omega (
            arith,
            some,
            ap (λ i. slice_index (set counts cell k) i) same,
            get_or-set_same counts cell k 0 (omega (arith, low, wide)),
          ))
      | inr other ↦
          rest c other ∙ owns.marked c mortal inside (omega (arith, some, get_or-set_other counts cell c k 0 other))
    ];
  }

  module _ (owns : AreOwned n counts owned) (wide : length counts ≡ n) where
    pub owns_born : (k : ℕ) → AreOwned n (set counts cell k) (with_bit owned cell)
    owns_born k = owns_set (with_bit owned cell) k owns wide (length-with_bit owned cell)
        (λ c other. with_bit_else owned cell c other)
        (λ mortal inside some. with_bit_here owned cell (omega (arith, inside, owns.words)))

    pub owns_more : (k : ℕ) → 0 < slice_index counts cell → AreOwned n (set counts cell k) owned
    owns_more k some = owns_set owned k owns wide refl (λ c other. refl)
        (λ mortal inside more. owns.marked cell mortal inside some)

    pub owns_gone : (later : List ℕ) → length later ≡ length owned
        → ((c : ℕ) → c ≢ cell → bit_of later c ≡ bit_of owned c)
        → AreOwned n (set counts cell 0) later
    owns_gone later words rest = owns_set later 0 owns wide words rest
        (λ mortal inside more. absurd (omega (arith, more)))

    pub owns_less : (later : List ℕ) (k : ℕ) → slice_index counts cell ≡ k → 0 < k → length later ≡ length owned
        → ((c : ℕ) → c ≢ cell → bit_of later c ≡ bit_of owned c) → (1 < k → later ≡ owned)
        → AreOwned n (set counts cell (k - 1)) later
    owns_less later k is some words rest kept = owns_set later (k - 1) owns wide words rest
        (λ mortal inside more.
        ap (λ ws. bit_of ws cell) (kept (omega (arith, more)))
        ∙ owns.marked cell mortal inside (omega (arith, is, some)))

    pub owns_freed : (later : List ℕ) → slice_index counts cell ≡ 0 → length later ≡ length owned
        → ((c : ℕ) → c ≢ cell → bit_of later c ≡ bit_of owned c) → AreOwned n counts later
    owns_freed later none words rest = record {
      words = words ∙ owns.words;
      marked = λ c mortal inside some. elim (cases_eq c cell) [
        | inl same ↦ absurd (omega (arith, some, ap (λ i. slice_index counts i) same, none))
        | inr other ↦ rest c other ∙ owns.marked c mortal inside some
      ];
    }

-- ---- the search for a cell that is counted

bit_above : (w i j : ℕ) → w / 2 ^ i ≡ 0 → i ≤ j → bit_at w j ≡ 0
bit_above w i j none above =
    let up : j ≡ i + (j - i) = omega (arith, above) in
    ap (λ m. bit_at w m) up ∙ ap (λ m. m % 2) (sym (shr-shr w i (j - i)))
    ∙ ap (λ m. m / 2 ^ (j - i) % 2) none ∙ bit_at-zero (j - i)

-- no cell of a word from one on has its bit set, where none is left in the word
pub none_in_word : (n : ℕ) (counts owned : List ℕ) (from c : ℕ) → AreOwned n counts owned
    → word_at owned (from / 32) / 2 ^ (from % 32) ≡ 0 → FIRST_MORTAL ≤ c → c < n → from ≤ c
    → c < (from / 32 + 1) * 32 → slice_index counts c ≡ 0
none_in_word n counts owned from c owns none mortal inside low high = elim (cases_lt 0 (slice_index counts c)) [
  | inr past ↦ omega (arith, past)
  | inl some ↦
      let same : c / 32 ≡ from / 32 = omega (arith, low, high) in
      let zero : bit_of owned c ≡ 0 = ap (λ k. bit_at (word_at owned k) (c % 32)) same
      ∙ bit_above (word_at owned (from / 32)) (from % 32) (c % 32) none (omega (arith, low, high)) in
      absurd (omega (arith, owns.marked c mortal inside some, zero))
]
