use Rattle.brc_heap.specs.Words.{IsUnlocked, Keeps}
use Rattle.bench_soak.proofs.two.shares.Given as goal

abbrev pub invariant-loop-list : goal.invariant-loop-list
invariant-loop-list g l = Keeps l.fn.frame l.frame × IsUnlocked l.frame
