use Rattle.std.proofs.Common.{◌≡◌}
use Rattle.test_heap.proofs.tests.numbers.no_more_than_65_536_threads_are_registered.Given as goal

abbrev pub invariant-loop : goal.invariant-loop
invariant-loop g l = l.root.table ≡ l.heap.table
