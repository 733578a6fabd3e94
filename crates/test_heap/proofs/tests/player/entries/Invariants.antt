use Rattle.std.proofs.Common.{◌≡◌}
use Rattle.brc_count.specs.Frames.{IsUnlocked}
use Rattle.brc_handles.specs.Handles.{Holds}
use Rattle.test_heap.proofs.tests.player.entries.Given as goal

abbrev pub invariant-loop-place : goal.invariant-loop-place
invariant-loop-place g l = record {
  heap : l.frame.heap ≡ l.fn.frame.heap;
  holds : Holds 0 l.frame l.fn.handles;
  unlocked : IsUnlocked l.frame;
}
