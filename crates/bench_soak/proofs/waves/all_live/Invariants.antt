use Rattle.std.proofs.Common.{◌≡◌}
use Rattle.bench_soak.proofs.waves.all_live.Given as goal

abbrev pub invariant-loop-wave : goal.invariant-loop-wave
invariant-loop-wave g l = l.root.table ≡ l.fn.root.table
