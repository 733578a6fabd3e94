use Rattle.std.proofs.Common.{◌≡◌, ℕ, ◌+◌, ◌*◌, ◌/◌, ◌%◌, ℤ, pos, negsuc, ◌+ℤ◌, arith}
use Rattle.std.proofs.lemmas.Int.{ints}
use Rattle.brc_words.specs.Shared.{Spells, bits_of}
use Rattle.brc_words.specs.declared.state.State.{State}

-- a word spells some count with the state that its last two bits say
pub some_count : (word : ℕ) (state : State) → word % 4 ≡ bits_of state → (count : ℤ) × Spells word count state
some_count word state bits =
    let parts : word ≡ 4 * (word / 4) + bits_of state = omega (arith, bits) in
    (pos (word / 4) +ℤ negsuc 1099511627775, record { spelled = omega (arith, ints, parts) })
