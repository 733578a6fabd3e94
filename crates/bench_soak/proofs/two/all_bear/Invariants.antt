use Rattle.std.proofs.Common.{◌≡◌}
use Rattle.bench_soak.proofs.two.all_bear.Given as goal

abbrev pub invariant-loop : goal.invariant-loop
invariant-loop g l = l.root.table ≡ l.fn.root.table
