use Rattle.std.proofs.Common.{◌≡◌, length}
use Rattle.brc_mistakes.specs.Nearness.{apart}
use Rattle.brc_mistakes.proofs.nearness.apart.Given as goal

abbrev pub invariant-loop-left : goal.invariant-loop-left
invariant-loop-left l = apart l.left l.right ≡ apart l.word l.other

abbrev pub decreases-loop-left : goal.decreases-loop-left
decreases-loop-left l = length l.left
