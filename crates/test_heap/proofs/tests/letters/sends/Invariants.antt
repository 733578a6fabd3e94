use Rattle.std.proofs.Common.{◌≡◌}
use Rattle.brc_count.specs.Frames.{IsUnlocked}
use Rattle.test_heap.proofs.tests.letters.sends.Given as goal

abbrev pub invariant-loop-number : goal.invariant-loop-number
invariant-loop-number g l = record {
  heap : l.mutator.heap ≡ l.fn.heap;
  bare : l.mutator.len ≡ 0;
  unlocked : IsUnlocked l.mutator;
}
