use Rattle.std.proofs.Common.{◌≡◌}
use Rattle.brc_count.specs.Frames.{IsUnlocked}
use Rattle.brc_handles.specs.Handles.{Holds}
use Rattle.test_heap.proofs.tests.player.until_refused.Given as goal

abbrev pub invariant-loop-passed : goal.invariant-loop-passed
invariant-loop-passed g l = record {
  heap : l.thread.heap ≡ l.fn.thread.heap;
  holds : Holds 0 l.thread l.handles;
  unlocked : IsUnlocked l.thread;
}
