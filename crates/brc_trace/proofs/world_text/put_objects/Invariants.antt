use Rattle.std.proofs.Common.{length}
use Rattle.brc_trace.specs.Worlds.{over, object_text}
use Rattle.brc_trace.proofs.WorldLaws.{PutsOver}
use Rattle.brc_trace.proofs.world_text.put_objects.Given as goal

abbrev pub invariant-loop-cell : goal.invariant-loop-cell
invariant-loop-cell g l =
    PutsOver (g.W.Write.contents l.fn.writer) (g.W.Write.contents l.writer)
    (over (object_text l.world) 0 (length l.world.cells))
    (object_text l.world) (l.cell) (length l.world.cells) l.cell
