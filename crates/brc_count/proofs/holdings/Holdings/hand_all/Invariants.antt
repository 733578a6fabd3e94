use Rattle.std.proofs.Common.{◌≡◌, ◌-◌}
use Rattle.brc_count.proofs.Handing.{HandsUpTo}
use Rattle.brc_count.proofs.holdings.Holdings.hand_all.Given as goal

abbrev pub invariant-loop-from : goal.invariant-loop-from
invariant-loop-from g l = (l.cells ≡ l.initial.self.heap.cells) × HandsUpTo l.initial.self l.from l.self

abbrev pub decreases-loop-from : goal.decreases-loop-from
decreases-loop-from g l = l.cells - l.from
