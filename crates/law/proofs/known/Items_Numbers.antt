-- A shared word's count and state, and the tests of them, on the number that was told.
use Rattle.std.proofs.Common.{◌≡◌, ◌≢◌, ℕ, ◌+◌, ◌-◌, ◌*◌, ◌/◌, ◌%◌, ◌<◌, ◌==◌, not, Bool, true, false, if◌then◌else◌, ℤ}
use Rattle.std.proofs.Common.{pos, negsuc, ◌+ℤ◌, ◌-ℤ◌, ◌*ℤ◌, refl, sym, ◌∙◌, ap, inl, inr, arith, ◌^◌}
use Rattle.std.proofs.lemmas.Bool.{cases_eq, cases_Bool, eq-eqb, ne_eqb}
use Rattle.std.proofs.lemmas.Int.{ints}
use Rattle.brc_words.specs.Shared.{Spells, bits_of}
use Rattle.brc_words.specs.declared.state.State.{State}
use Rattle.brc_words.specs.declared.state.State.TheVariants as states
use Rattle.law.specs.declared.world.cell.Cell.{Cell}
use Rattle.law.specs.declared.world.event.Step.{Step}
use Rattle.law.specs.declared.world.event.Step.TheVariants.{LocalDown}
use Rattle.law.specs.world.Heap.{no_cell}
use Rattle.law.specs.world.Steps.{is_zero, is_default, is_merged, takes_block}
use Rattle.law.specs.known.Items.{count_told, state_told, cell_told}
use Rattle.law.specs.known.Risen.{is_risen_word}
use Rattle.law.proofs.world.Naming.{zero_count}

by_tests : Bool → Bool → State
by_tests zero two = if zero then states.Default else (if two then states.Queued else states.Merged)

default_by : (zero two : Bool) → is_default (by_tests zero two) ≡ zero
unfolding by_tests
default_by true two = refl
default_by false true = refl
default_by false false = refl

pub default_told : (n : ℕ) → is_default (state_told n) ≡ (n % 4 == 0)
unfolding by_tests
default_told n = default_by (n % 4 == 0) (n % 4 == 2)

pub merged_told : (n : ℕ) → n % 4 ≢ 1 → is_merged (state_told n) ≡ (n % 4 == 3)
unfolding by_tests
merged_told n usual = elim (cases_eq (n % 4) 0) [
  | inl zero ↦ ap (λ r. is_merged (by_tests (r == 0) (r == 2))) zero ∙ sym (ap (λ r. r == 3) zero)
  | inr more ↦ elim (cases_eq (n % 4) 2) [
    | inl two ↦ ap (λ r. is_merged (by_tests (r == 0) (r == 2))) two ∙ sym (ap (λ r. r == 3) two)
    | inr rest ↦ let three : n % 4 ≡ 3 = omega (arith, usual, more, rest) in
        ap (λ r. is_merged (by_tests (r == 0) (r == 2))) three ∙ sym (ap (λ r. r == 3) three)
  ]
]

-- a count is zero at one number alone
zero_at : (count : ℤ) (k most : ℕ) → count ≡ pos k -ℤ pos most → is_zero count ≡ (k == most)
zero_at count k most is = elim (cases_eq k most) [
  | inl same ↦
      let none : count ≡ pos 0 = omega (arith, ints, is, same) in
      ap is_zero none ∙ sym (eq-eqb k most same)
  | inr other ↦ elim (cases_Bool (is_zero count)) [
    | inl zero ↦ absurd (other (omega (arith, ints, is, zero_count count zero)))
    | inr apart ↦ apart ∙ sym (ne_eqb k most other)
  ]
]

pub zero_told : (n : ℕ) → is_zero (count_told n) ≡ (n / 4 == 2 ^ 40)
zero_told n = zero_at (count_told n) (n / 4) (2 ^ 40) refl

-- the count is zero once one is taken
pub one_told : (n : ℕ) → is_zero (count_told n -ℤ pos 1) ≡ (n / 4 == 1099511627777)
one_told n = zero_at (count_told n -ℤ pos 1) (n / 4) 1099511627777 (omega (arith, ints))

-- ---- a number that spells a count and a state tells them

spelled_told : (number : ℕ) (count : ℤ) (bits : ℕ) → bits < 4
    → pos number ≡ ((count +ℤ pos (2 ^ 40)) *ℤ pos 4) +ℤ pos bits → (count_told number ≡ count) × (number % 4 ≡ bits)
spelled_told number (pos n) bits few is =
    let same : number ≡ (n + 2 ^ 40) * 4 + bits = omega (arith, ints, is) in
    (omega (arith, ints, same, few), omega (arith, same, few))
spelled_told number (negsuc n) bits few is =
    let low : n < 2 ^ 40 = omega (arith, ints, is, few) in
    let same : number ≡ (2 ^ 40 - 1 - n) * 4 + bits = omega (arith, ints, is, low) in
    (omega (arith, ints, same, few, low), omega (arith, same, few))

state_of_bits : (number : ℕ) (state : State) → number % 4 ≡ bits_of state → state_told number ≡ state
unfolding by_tests
state_of_bits number states.Default is = ap (λ r. by_tests (r == 0) (r == 2)) is
state_of_bits number states.Queued is = ap (λ r. by_tests (r == 0) (r == 2)) is
state_of_bits number states.Merged is = ap (λ r. by_tests (r == 0) (r == 2)) is

bits_small : (state : State) → bits_of state < 4
bits_small states.Default = omega arith
bits_small states.Queued = omega arith
bits_small states.Merged = omega arith

pub count_spelled : (number : ℕ) (count : ℤ) (state : State) → Spells number count state → count_told number ≡ count
count_spelled number count state spells =
    (spelled_told number count (bits_of state) (bits_small state) spells.spelled).0

pub state_spelled : (number : ℕ) (count : ℤ) (state : State) → Spells number count state → state_told number ≡ state
state_spelled number count state spells = state_of_bits number state
    (spelled_told number count (bits_of state) (bits_small state) spells.spelled).1

-- the cell as a step was told it, where it was told its shared word
abbrev pub spelled_cell : ℤ → State → Cell
spelled_cell count state = record no_cell { count = count; state = state }

-- whether a step takes a block, by the count and the state that its number spells
pub takes_spelled : (s : Step) (number : ℕ) (count : ℤ) (state : State) → Spells number count state
    → takes_block s (cell_told s number) ≡ takes_block s (spelled_cell count state)
takes_spelled (LocalDown drop) number count state spells = refl
takes_spelled s number count state spells =
    ap (λ n. takes_block s (spelled_cell n (state_told number))) (count_spelled number count state spells)
    ∙ ap (λ g. takes_block s (spelled_cell count g)) (state_spelled number count state spells)

-- whether a number tells of a state that has risen
pub risen_spelled : (number : ℕ) (count : ℤ) (state : State) → Spells number count state
    → is_risen_word number ≡ not (is_default state)
risen_spelled number count state spells = ap not (sym (default_told number)
    ∙ ap is_default (state_spelled number count state spells))
