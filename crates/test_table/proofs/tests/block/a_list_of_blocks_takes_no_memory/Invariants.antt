use Rattle.std.proofs.Common.{◌≡◌, [], length}
use Rattle.test_table.proofs.tests.block.a_list_of_blocks_takes_no_memory.Given as goal

abbrev pub decreases-loop-block : goal.decreases-loop-block
decreases-loop-block g l = length l.first

abbrev pub invariant-loop-block-2 : goal.invariant-loop-block-2
invariant-loop-block-2 g l = l.first ≡ []

abbrev pub decreases-loop-block-2 : goal.decreases-loop-block-2
decreases-loop-block-2 g l = length l.second
