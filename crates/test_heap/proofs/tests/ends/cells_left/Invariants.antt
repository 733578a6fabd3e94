use Rattle.std.proofs.Common.{length}
use Rattle.test_heap.proofs.tests.ends.cells_left.Given as goal

abbrev pub decreases-loop-block : goal.decreases-loop-block
decreases-loop-block g l = length l.rest
