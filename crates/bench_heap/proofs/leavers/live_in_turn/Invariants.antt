use Rattle.std.proofs.Common.{◌≡◌}
use Rattle.bench_heap.proofs.leavers.live_in_turn.Given as goal

abbrev pub invariant-loop : goal.invariant-loop
invariant-loop g l = l.root.table ≡ l.fn.root.table
