-- The numbers of shared words: a step adds, takes or sets bits, and no sum leaves its 64 bits.
use Rattle.std.proofs.Common.{◌≡◌, ℕ, ◌+◌, ◌-◌, ◌*◌, ◌%◌, ◌^◌, ◌<◌, ℤ, pos, negsuc, ◌+ℤ◌, ◌-ℤ◌, refl, ◌∙◌, ap, arith}
use Rattle.std.specs.Int.RustNames.{bit_or}
use Rattle.std.proofs.lemmas.Int.{ints}
use Rattle.std.proofs.lemmas.Nat.{or_block}
use lib.Bits.{or_zero_r}
use Rattle.brc_words.specs.declared.state.State.{State}
use Rattle.brc_words.specs.declared.state.State.TheVariants as states
use Rattle.brc_words.specs.Shared.{bits_of, CountFits}
use Rattle.law.specs.known.Items.{raised, shared_word}

raised_is : (count : ℤ) → CountFits count → pos (raised count) ≡ count +ℤ pos (2 ^ 40)
raised_is (pos k) fits = omega (arith, ints)
raised_is (negsuc k) fits = omega (arith, ints, fits.0)

pub raised_up : (count : ℤ) → CountFits count → CountFits (count +ℤ pos 1) → raised (count +ℤ pos 1) ≡ raised count + 1
raised_up count fits more = omega (arith, ints, raised_is count fits, raised_is (count +ℤ pos 1) more)

pub raised_down : (count : ℤ) → CountFits count → CountFits (count -ℤ pos 1)
    → raised (count -ℤ pos 1) + 1 ≡ raised count
raised_down count fits less = omega (arith, ints, raised_is count fits, raised_is (count -ℤ pos 1) less)

pub raised_by : (count : ℤ) (local : ℕ) → CountFits count → CountFits (count +ℤ pos local)
    → raised (count +ℤ pos local) ≡ raised count + local
raised_by count local fits more = omega (arith, ints, raised_is count fits, raised_is (count +ℤ pos local) more)

raised_small : (count : ℤ) → CountFits count → raised count < 2 ^ 41
raised_small count fits = omega (arith, ints, raised_is count fits, fits.1)

pub bits_small : (state : State) → bits_of state < 4
bits_small states.Default = omega arith
bits_small states.Queued = omega arith
bits_small states.Merged = omega arith

pub word_small : (count : ℤ) (state : State) → CountFits count → shared_word count state < 2 ^ 43
word_small count state fits = omega (arith, raised_small count fits, bits_small state)

-- one reference more, or less
pub word_up : (count : ℤ) (state : State) → CountFits count → CountFits (count +ℤ pos 1)
    → shared_word (count +ℤ pos 1) state ≡ (shared_word count state + 4) % 2 ^ 64
word_up count state fits more = omega (arith, raised_up count fits more, word_small count state fits)

pub word_down : (count : ℤ) (state : State) → CountFits count → CountFits (count -ℤ pos 1)
    → shared_word (count -ℤ pos 1) state ≡ shared_word count state - 4
word_down count state fits less = omega (arith, raised_down count fits less)

pub word_taken : (count : ℤ) (state : State) → CountFits count → CountFits (count -ℤ pos 1)
    → shared_word (count -ℤ pos 1) state ≡ (shared_word count state + (2 ^ 64 - 4)) % 2 ^ 64
word_taken count state fits less = omega (arith, raised_down count fits less, word_small count state fits)

-- the local count joins, and the state goes from queued to merged
pub word_merged : (count : ℤ) (local : ℕ) → CountFits count → CountFits (count +ℤ pos local) → local < 2 ^ 33
    → shared_word (count +ℤ pos local) states.Merged ≡ (shared_word count states.Queued + (local * 4 + 1)) % 2 ^ 64
word_merged count local fits more few =
    omega (arith, raised_by count local fits more, word_small count states.Queued fits, few)

-- ---- bits

-- bits that stand below a multiple of 4
or_low : (k r b : ℕ) → r < 4 → b < 4 → bit_or (k * 4 + r) b ≡ k * 4 + bit_or r b
or_low k r b small few =
    let e : b ≡ 0 + b = omega arith in
    ap (bit_or (k * 4 + r)) e ∙ or_block 2 k 0 r b small few ∙ ap (λ m. m * 4 + bit_or r b) (or_zero_r k)

pub bits_two : (k : ℕ) (state : State) → bit_or (k * 4 + bits_of state) 2 ≡ k * 4 + bit_or (bits_of state) 2
bits_two k state = or_low k (bits_of state) 2 (bits_small state) (omega arith)

pub bits_three : (k : ℕ) (state : State) → bit_or (k * 4 + bits_of state) 3 ≡ k * 4 + 3
bits_three k state = or_low k (bits_of state) 3 (bits_small state) (omega arith) ∙ ap (λ r. k * 4 + r) (three state)
  where
    three : (state : State) → bit_or (bits_of state) 3 ≡ 3
    three states.Default = refl
    three states.Queued = refl
    three states.Merged = refl
