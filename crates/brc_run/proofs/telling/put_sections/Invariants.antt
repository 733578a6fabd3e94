use Rattle.std.proofs.Common.{drop}
use Rattle.brc_text.specs.Puts.{PutsUpTo}
use Rattle.brc_run.specs.Tellings.{sections_text}
use Rattle.brc_run.proofs.telling.put_sections.Given as goal

abbrev pub invariant-loop-at : goal.invariant-loop-at
invariant-loop-at g l =
    PutsUpTo (g.W.Write.contents l.fn.writer) (g.W.Write.contents l.writer) (sections_text l.sections l.ends)
    (sections_text (drop l.at l.sections) (drop l.at l.ends))
