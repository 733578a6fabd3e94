use Rattle.brc_heap.specs.Words.{IsUnlocked, Keeps}
use Rattle.test_threads.proofs.globals.puts_each.Given as goal

abbrev pub invariant-loop-key : goal.invariant-loop-key
invariant-loop-key g l = Keeps l.fn.frame l.frame × IsUnlocked l.frame
