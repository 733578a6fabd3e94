use Rattle.brc_heap.specs.Words.{IsUnlocked, Keeps}
use Rattle.test_threads.proofs.closing.lives.lives.Given as goal

abbrev pub invariant-loop-step : goal.invariant-loop-step
invariant-loop-step g l = Keeps l.fn.mutator l.mutator × IsUnlocked l.mutator
