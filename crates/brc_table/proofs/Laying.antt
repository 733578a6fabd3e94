-- Words that are stored one by one over zeros are those that a table opens with.
use Rattle.std.proofs.Common.{◌≡◌, ◌≢◌, ℕ, ◌+◌, ◌-◌, ◌*◌, ◌^◌, ◌<◌, ◌≤◌, if◌then◌else◌, List, length, set, get_or}
use Rattle.std.proofs.Common.{replicate, sym, ◌∙◌, ap, subst, inl, inr, arith}
use Rattle.std.proofs.lemmas.Bool.{cases_eq, cases_lt, ne_eqb}
use Rattle.std.proofs.lemmas.Grind.{same_number_lists}
use Rattle.std.proofs.lemmas.List.{get_or-set_same, get_or-set_other, length-set, length-replicate, get_or-replicate, get_or_past}
use Rattle.brc_words.specs.declared.limits.TheConstants.{MOST_CELLS}
use Rattle.law.specs.declared.known.word.Field.TheVariants.{Shared}
use Rattle.law.specs.declared.known.word.Word.TheVariants.{Of, FreeWord}
use Rattle.law.specs.known.Free_Words.{free_words_for}
use Rattle.law.specs.rule.Layout.{counts_from, queues_from, extent}
use Rattle.law.proofs.rule.Spots.{inside}
use Rattle.brc_table.specs.Opening.{opening_free, opening_count, opening_word, opening_words}
use Rattle.brc_table.proofs.Opened.{among_counts, between, among_free, past_counts, length-opening_words, read_word}

-- the free words below k are stored, and all others are 0
pub record FreeLaid (n k : ℕ) (words : List ℕ) : Type 0 where
  pub wide : length words ≡ extent n
  pub laid : (at : ℕ) → at < k → get_or words at 0 ≡ opening_word n at
  pub blank : (at : ℕ) → k ≤ at → get_or words at 0 ≡ 0

-- all free words and the counts of the cells below k are stored, and all others are 0
pub record CountsLaid (n k : ℕ) (words : List ℕ) : Type 0 where
  pub wide : length words ≡ extent n
  pub laid : (at : ℕ) → at < counts_from + k * 8 → get_or words at 0 ≡ opening_word n at
  pub blank : (at : ℕ) → counts_from + k * 8 ≤ at → get_or words at 0 ≡ 0

pub cell_inside : (n c : ℕ) → c < n → counts_from + c * 8 < extent n
cell_inside n c low = inside n (Of Shared c) low

pub free_inside : (n k : ℕ) → k < free_words_for n → k < extent n
free_inside n k low = inside n (FreeWord k) low

pub nothing_laid : (n : ℕ) (words : List ℕ) → words ≡ replicate (extent n) 0 → FreeLaid n 0 words
nothing_laid n words are = record {
  wide = ap length are ∙ wide;
  laid = λ at low. absurd (omega (arith, low));
  blank = λ at high. ap (λ ws. get_or ws at 0) are ∙ blank at;
}
  where
    zeros : List ℕ
    zeros = replicate (extent n) 0

    wide : length zeros ≡ extent n
    wide = length-replicate (extent n) 0

    blank : (at : ℕ) → get_or zeros at 0 ≡ 0
    blank at = elim (cases_lt at (extent n)) [
      | inl low ↦ get_or-replicate (extent n) at 0 0 low
      | inr past ↦ get_or_past zeros at 0 (omega (arith, past, wide))
    ]

pub one_word_more : (n k : ℕ) (old new : List ℕ) → n ≤ MOST_CELLS → FreeLaid n k old → k < free_words_for n
    → new ≡ set old k (opening_free n k) → FreeLaid n (k + 1) new
one_word_more n k old new few was low is = record {
  wide = ap length is ∙ length-set old k (opening_free n k) ∙ was.wide;
  laid = λ at below. ap (λ ws. get_or ws at 0) is ∙ elim (cases_eq at k) [
    | inl same ↦ ap (λ i. get_or (set old k (opening_free n k)) i 0) same
        ∙ get_or-set_same old k (opening_free n k) 0 (omega (arith, free_inside n k low, was.wide))
        ∙ sym (among_free n k few low) ∙ ap (opening_word n) (sym same)
    | inr other ↦ get_or-set_other old k at (opening_free n k) 0 other ∙ was.laid at (omega (arith, below, other))
  ];
  blank = λ at high. ap (λ ws. get_or ws at 0) is
      ∙ get_or-set_other old k at (opening_free n k) 0 (λ same. omega (arith, same, high))
      ∙ was.blank at (omega (arith, high));
}

pub all_free : (n : ℕ) (words : List ℕ) → n ≤ MOST_CELLS → FreeLaid n (free_words_for n) words → CountsLaid n 0 words
all_free n words few all = record {
  wide = all.wide;
  laid = λ at low. elim (cases_lt at (free_words_for n)) [
    | inl less ↦ all.laid at less
    | inr past ↦ all.blank at past ∙ sym (between n at past (omega (arith, low)))
  ];
  blank = λ at high. all.blank at (omega (arith, high, few));
}

module _ (n k : ℕ) (old : List ℕ) (was : CountsLaid n k old) (low : k < n) where
  -- where the cell's words begin
  abbrev begins : ℕ
  begins = counts_from + k * 8

  -- the words once the cell's one that isn't 0 is stored
  abbrev more : List ℕ
  more = set old begins (2 ^ 42)

  within : begins < length old
  within = omega (arith, cell_inside n k low, was.wide)

  other_word : (at : ℕ) → at ≢ begins → get_or more at 0 ≡ get_or old at 0
  other_word at shared = get_or-set_other old begins at (2 ^ 42) 0 shared

  shared_word : get_or more begins 0 ≡ opening_word n begins
  shared_word = get_or-set_same old begins (2 ^ 42) 0 within
      ∙ sym (among_counts n begins k 0 low (omega arith) (omega arith))

  -- another word of this cell
  else_zero : (part : ℕ) → part ≢ 0 → opening_count part ≡ 0
  else_zero part other = ap (λ z. if z then 2 ^ 42 else 0) (ne_eqb part 0 other)

  laid_more : (at : ℕ) → at < counts_from + (k + 1) * 8 → get_or more at 0 ≡ opening_word n at
  laid_more at below = elim (cases_lt at begins) [
    | inl less ↦ other_word at (λ same. omega (arith, same, less)) ∙ was.laid at less
    | inr reached ↦ elim (cases_eq at begins) [
      | inl same ↦ ap (λ i. get_or more i 0) same ∙ shared_word ∙ ap (opening_word n) (sym same)
      | inr other ↦
          let part : ℕ = at - begins in
          other_word at other ∙ was.blank at reached
          ∙ sym (among_counts n at k part low (omega (arith, reached, below)) (omega (arith, reached))
          ∙ else_zero part (λ z. other (omega (arith, z, reached))))
    ]
  ]

  one_more : CountsLaid n (k + 1) more
  one_more = record {
    wide = length-set old begins (2 ^ 42) ∙ was.wide;
    laid = laid_more;
    blank = λ at high. other_word at (λ same. omega (arith, same, high)) ∙ was.blank at (omega (arith, high));
  }

pub one_cell_more : (n k : ℕ) (old new : List ℕ) → CountsLaid n k old → k < n
    → new ≡ set old (counts_from + k * 8) (2 ^ 42)
    → CountsLaid n (k + 1) new
one_cell_more n k old new was low is = subst (CountsLaid n (k + 1)) (sym is) (one_more n k old was low)

pub all_laid : (n : ℕ) (words : List ℕ) → CountsLaid n n words → words ≡ opening_words n (extent n)
all_laid n words all = same_number_lists words (opening_words n (extent n))
    (all.wide ∙ sym (length-opening_words n (extent n)))
    (λ at low. each at (omega (arith, low, all.wide)))
  where
    each : (at : ℕ) → at < extent n → get_or words at 0 ≡ get_or (opening_words n (extent n)) at 0
    each at low = elim (cases_lt at (queues_from n)) [
      | inl less ↦ all.laid at (omega (arith, less)) ∙ sym (read_word n (extent n) at low)
      | inr past ↦ all.blank at (omega (arith, past)) ∙ sym (past_counts n at past) ∙ sym (read_word n (extent n) at low)
    ]
