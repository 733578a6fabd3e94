use Rattle.std.proofs.Common.{◌≡◌}
use Rattle.test_heap.proofs.tests.numbers.no_more_than_64_threads_are_there.Given as goal

abbrev pub invariant-loop-number : goal.invariant-loop-number
invariant-loop-number g l = l.root.table ≡ l.heap.table
