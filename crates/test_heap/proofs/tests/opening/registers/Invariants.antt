use Rattle.std.proofs.Common.{◌≡◌}
use Rattle.test_heap.proofs.tests.opening.registers.Given as goal

abbrev pub invariant-loop-earlier : goal.invariant-loop-earlier
invariant-loop-earlier g l = l.root.table ≡ l.heap.table
