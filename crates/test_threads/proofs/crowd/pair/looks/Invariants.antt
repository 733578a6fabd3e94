use Rattle.brc_heap.specs.Words.{IsUnlocked, Keeps}
use Rattle.test_threads.proofs.crowd.pair.looks.Given as goal

abbrev pub invariant-loop : goal.invariant-loop
invariant-loop g l = Keeps l.fn.frame l.frame × IsUnlocked l.frame
