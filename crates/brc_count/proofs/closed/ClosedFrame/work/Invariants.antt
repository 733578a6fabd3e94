use Rattle.std.proofs.Common.{◌-◌, ◌≤◌}
use Rattle.brc_count.specs.Frames.{KeepsHandles}
use Rattle.brc_count.specs.Closing.{TurnsLeaving}
use Rattle.brc_count.proofs.closed.ClosedFrame.work.Given as goal

abbrev pub invariant-loop-left : goal.invariant-loop-left
invariant-loop-left g l = (l.left ≤ l.fn.budget) × TurnsLeaving l.fn.self (l.fn.budget - l.left) l.self
    × KeepsHandles l.fn.self l.self

abbrev pub decreases-loop-left : goal.decreases-loop-left
decreases-loop-left g l = l.left
