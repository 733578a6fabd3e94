use Rattle.std.proofs.Common.{◌≡◌, ◌-◌, ◌≤◌}
use Rattle.brc_count.specs.Frames.{Turns, KeepsHandles, popped_seen}
use Rattle.brc_count.proofs.holdings.Holdings.work.Given as goal

abbrev pub invariant-loop-left : goal.invariant-loop-left
invariant-loop-left g l = (l.left ≤ l.fn.budget) × Turns l.fn.self (l.fn.budget - l.left) l.self
    × KeepsHandles l.fn.self l.self × (popped_seen l.self ≡ popped_seen l.fn.self)

abbrev pub decreases-loop-left : goal.decreases-loop-left
decreases-loop-left g l = l.left
