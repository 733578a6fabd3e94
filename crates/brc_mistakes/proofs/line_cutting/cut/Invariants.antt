use Rattle.std.proofs.Common.{◌≡◌, take, true}
use Rattle.brc_text.specs.Lines.{lacks}
use Rattle.brc_mistakes.proofs.line_cutting.cut.Given as goal

abbrev pub invariant-loop-at : goal.invariant-loop-at
invariant-loop-at l = lacks l.mark (take l.at l.bytes) ≡ true
