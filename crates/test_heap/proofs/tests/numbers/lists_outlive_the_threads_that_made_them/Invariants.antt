use Rattle.std.proofs.Common.{◌≡◌}
use Rattle.test_heap.proofs.tests.numbers.lists_outlive_the_threads_that_made_them.Given as goal

abbrev pub invariant-loop-key : goal.invariant-loop-key
invariant-loop-key g l = l.root.table ≡ l.heap.table
