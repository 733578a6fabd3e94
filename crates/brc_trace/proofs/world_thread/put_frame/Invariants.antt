use Rattle.std.proofs.Common.{length}
use Rattle.law.specs.world.Heap.{frame_at}
use Rattle.brc_trace.specs.Worlds.{over, frame_text}
use Rattle.brc_trace.proofs.WorldLaws.{PutsOver}
use Rattle.brc_trace.proofs.world_thread.put_frame.Given as goal

abbrev pub invariant-loop-place : goal.invariant-loop-place
invariant-loop-place g l =
    PutsOver (g.W.Write.contents l.fn.writer) (g.W.Write.contents l.writer)
    (over (frame_text l.world l.thread) 0 (length (frame_at l.world l.thread)))
    (frame_text l.world l.thread) (l.place) (length (frame_at l.world l.thread)) l.place
