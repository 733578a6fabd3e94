use Rattle.std.proofs.Common.{◌≡◌, ◌≤◌, ◌+◌, length, min}
use Rattle.brc_block.specs.Blocks.{most_counted}
use Rattle.brc_block.proofs.worklist.Worklist.len.Given as goal

abbrev pub invariant-loop-rest : goal.invariant-loop-rest
invariant-loop-rest g l = (l.passed ≤ most_counted)
    × (min (l.passed + length l.rest) most_counted ≡ min (length l.self) most_counted)

abbrev pub decreases-loop-rest : goal.decreases-loop-rest
decreases-loop-rest g l = length l.rest
