use Rattle.std.proofs.Common.{◌≡◌}
use Rattle.brc_heap.specs.Words.{Holds, IsUnlocked}
use Rattle.test_threads.proofs.letters.starving.fills.Given as goal

abbrev pub invariant-loop : goal.invariant-loop
invariant-loop g l = record {
  heap : l.frame.heap ≡ l.fn.frame.heap;
  holds : Holds 0 l.frame l.handles;
  unlocked : IsUnlocked l.frame;
}
