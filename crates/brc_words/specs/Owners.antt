use Rattle.std.specs.Prelude.{ℕ, ◌^◌, ◌+◌, ◌-◌, ◌≤◌}
use Rattle.brc_words.specs.declared.owner.Owner.{Owner}
use Rattle.brc_words.specs.declared.owner.Owner.TheVariants.{Nobody, Thread, Claimed, Free}

-- the owners that a word can spell: threads have the numbers 1 to 64
abbrev pub IsOwner : Owner → Type 0
IsOwner Nobody = Unit {0}
IsOwner (Thread thread) = (1 ≤ thread) × (thread ≤ 64)
IsOwner (Claimed thread) = (1 ≤ thread) × (thread ≤ 64)
IsOwner Free = Unit {0}

-- an owner's word: 0 and thread numbers as in PEP 703, `ob_tid`; the last two are this heap's own
abbrev pub word_of : Owner → ℕ
word_of Nobody = 0
word_of (Thread thread) = thread
word_of (Claimed thread) = 2 ^ 32 + thread
word_of Free = 2 ^ 64 - 1
