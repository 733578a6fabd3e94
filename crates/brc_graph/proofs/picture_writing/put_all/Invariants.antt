use Rattle.std.proofs.Common.{drop}
use Rattle.brc_text.specs.Puts.{PutsUpTo}
use Rattle.brc_graph.specs.Pictures.{drawn_texts}
use Rattle.brc_graph.proofs.picture_writing.put_all.Given as goal

abbrev pub invariant-loop-drawn : goal.invariant-loop-drawn
invariant-loop-drawn g l =
    PutsUpTo (g.W.Write.contents l.fn.writer) (g.W.Write.contents l.writer) (drawn_texts l.all)
    (drawn_texts (drop l.drawn-index l.all))
