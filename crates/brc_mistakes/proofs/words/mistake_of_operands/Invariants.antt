use Rattle.std.proofs.Common.{ℕ, ◌<◌}
use Rattle.brc_mistakes.specs.Rules.{IsFitAt}
use Rattle.brc_mistakes.proofs.words.mistake_of_operands.Given as goal

abbrev pub invariant-loop-at : goal.invariant-loop-at
invariant-loop-at l = (k : ℕ) → k < l.at → IsFitAt l.opening l.line k
