use Rattle.std.specs.Prelude.{◌≡◌, ℕ, ◌^◌, ◌-◌, ℤ, pos, negsuc, ◌+ℤ◌, ◌*ℤ◌, ◌≤ℤ◌, ◌<ℤ◌}
use Rattle.brc_words.specs.declared.state.State.{State}
use Rattle.brc_words.specs.declared.state.State.TheVariants.{Default, Queued, Merged}

-- the state bits of PEP 703, "Biased Reference Counting"; 01, weak references, is nobody's here
abbrev pub bits_of : State → ℕ
bits_of Default = 0
bits_of Queued = 2
bits_of Merged = 3

-- the word is four times the count, counted from -2^40, and the state's bits (the offset is this heap's own)
pub record Spells (word : ℕ) (count : ℤ) (state : State) : Type 0 where
  pub spelled : pos word ≡ ((count +ℤ pos (2 ^ 40)) *ℤ pos 4) +ℤ pos (bits_of state)

-- the counts that a word can spell: -2^40 or more, and below 2^40
abbrev pub CountFits : ℤ → Type 0
CountFits count = (negsuc (2 ^ 40 - 1) ≤ℤ count) × (count <ℤ pos (2 ^ 40))
