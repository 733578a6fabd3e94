use Rattle.std.proofs.Common.{ℕ, ◌<◌}
use Rattle.brc_mistakes.specs.Rules.{Differ}
use Rattle.brc_mistakes.proofs.words.named_twice.Given as goal

abbrev pub invariant-loop-second : goal.invariant-loop-second
invariant-loop-second l = (first other : ℕ) → first < other → other < l.second → Differ l.opening l.line first other

abbrev pub invariant-loop-first : goal.invariant-loop-first
invariant-loop-first l = (k : ℕ) → k < l.first → Differ l.opening l.line k l.second
