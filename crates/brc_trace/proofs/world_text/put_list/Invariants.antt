use Rattle.std.proofs.Common.{length}
use Rattle.brc_trace.specs.Worlds.{over, entry_line}
use Rattle.brc_trace.proofs.WorldLaws.{PutsOver}
use Rattle.brc_trace.proofs.world_text.put_list.Given as goal

abbrev pub invariant-loop-index : goal.invariant-loop-index
invariant-loop-index g l =
    PutsOver (g.W.Write.contents l.fn.writer) (g.W.Write.contents l.writer)
    (over (entry_line l.cell l.entries) 0 (length l.entries))
    (entry_line l.cell l.entries) (l.index) (length l.entries) l.index
