use Rattle.std.proofs.Common.{drop}
use Rattle.brc_text.specs.Puts.{PutsUpTo}
use Rattle.brc_report.specs.Texts.{cycles_text}
use Rattle.brc_report.proofs.report.put_cycles.Given as goal

abbrev pub invariant-loop-cycle : goal.invariant-loop-cycle
invariant-loop-cycle g l =
    PutsUpTo (g.W.Write.contents l.fn.writer) (g.W.Write.contents l.writer) (cycles_text l.cycles)
    (cycles_text (drop l.cycle-index l.cycles))
