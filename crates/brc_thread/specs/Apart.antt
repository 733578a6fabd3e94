-- Where the claims of a thread begin that makes its objects apart from the others.
use Rattle.std.specs.Prelude.{ℕ, ◌+◌, ◌-◌, ◌*◌, ◌/◌}
use Rattle.brc_words.specs.declared.limits.TheConstants.{FIRST_MORTAL, MOST_THREADS}

-- the first cell of a thread's part, if the mortal cells of a heap that has n cells are cut into 64 parts
abbrev pub first_of_part : ℕ → ℕ → ℕ
first_of_part n thread = FIRST_MORTAL + ((n - FIRST_MORTAL) * (thread - 1)) / MOST_THREADS
