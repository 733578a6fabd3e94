use Rattle.std.proofs.Common.{length}
use Rattle.brc_trace.specs.Worlds.{over, lying_text}
use Rattle.brc_trace.proofs.WorldLaws.{PutsOver}
use Rattle.brc_trace.proofs.world_thread.put_pile.Given as goal

abbrev pub invariant-loop-cell : goal.invariant-loop-cell
invariant-loop-cell g l =
    PutsOver (g.W.Write.contents l.fn.writer) (g.W.Write.contents l.writer)
    (over (lying_text l.world l.thread l.pile) 0 (length l.world.cells))
    (lying_text l.world l.thread l.pile) (l.cell) (length l.world.cells) l.cell
