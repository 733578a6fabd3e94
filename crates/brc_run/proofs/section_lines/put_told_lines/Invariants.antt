use Rattle.std.proofs.Common.{length}
use Rattle.brc_text.specs.Puts.{PutsUpTo}
use Rattle.brc_run.specs.Sections.{told_lines}
use Rattle.brc_run.proofs.section_lines.put_told_lines.Given as goal

abbrev pub invariant-loop-rest : goal.invariant-loop-rest
invariant-loop-rest g l =
    PutsUpTo (g.W.Write.contents l.fn.writer) (g.W.Write.contents l.writer) (told_lines l.name l.text)
    (told_lines l.name l.rest)

abbrev pub decreases-loop-rest : goal.decreases-loop-rest
decreases-loop-rest g l = length l.rest
