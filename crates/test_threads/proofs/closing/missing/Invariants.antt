use Rattle.std.proofs.Common.{◌≡◌}
use Rattle.test_threads.proofs.closing.missing.Given as goal

abbrev pub invariant-loop : goal.invariant-loop
invariant-loop g l = l.root.table ≡ l.heap.table
