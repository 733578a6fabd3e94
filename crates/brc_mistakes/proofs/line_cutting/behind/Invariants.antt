use Rattle.std.proofs.Common.{◌≡◌, Some}
use Rattle.brc_mistakes.specs.Words.{behind}
use Rattle.brc_mistakes.proofs.line_cutting.behind.Given as goal

abbrev pub invariant-loop : goal.invariant-loop
invariant-loop l = behind l.counter l.line ≡ Some l.rest
