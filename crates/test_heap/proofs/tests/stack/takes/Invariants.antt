use Rattle.std.proofs.Common.{◌≡◌}
use Rattle.brc_count.specs.Frames.{IsUnlocked}
use Rattle.brc_handles.specs.Handles.{Holds}
use Rattle.test_heap.proofs.tests.stack.takes.Given as goal

abbrev pub invariant-loop-text : goal.invariant-loop-text
invariant-loop-text g l = record {
  heap : l.thread.heap ≡ l.fn.thread.heap;
  holds : Holds 0 l.thread l.stack;
  unlocked : IsUnlocked l.thread;
}
