use Rattle.std.proofs.Common.{◌≡◌}
use Rattle.brc_count.specs.Frames.{IsUnlocked}
use Rattle.brc_handles.specs.Handles.{Holds}
use Rattle.test_heap.proofs.tests.player.times.Given as goal

abbrev pub invariant-loop-taken : goal.invariant-loop-taken
invariant-loop-taken g l = record {
  heap : l.thread.heap ≡ l.fn.thread.heap;
  holds : Holds 0 l.thread l.handles;
  unlocked : IsUnlocked l.thread;
}
