use Rattle.brc_heap.specs.Words.{IsUnlocked, Keeps}
use Rattle.test_threads.proofs.letters.starving.waits_with_memory.Given as goal

abbrev pub invariant-loop-tried : goal.invariant-loop-tried
invariant-loop-tried g l = Keeps l.fn.frame l.frame × IsUnlocked l.frame
