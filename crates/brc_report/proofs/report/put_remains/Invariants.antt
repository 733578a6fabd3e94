use Rattle.std.proofs.Common.{drop}
use Rattle.brc_text.specs.Puts.{PutsUpTo}
use Rattle.brc_report.specs.Texts.{remains_text}
use Rattle.brc_report.proofs.report.put_remains.Given as goal

abbrev pub invariant-loop-remain : goal.invariant-loop-remain
invariant-loop-remain g l =
    PutsUpTo (g.W.Write.contents l.fn.writer) (g.W.Write.contents l.writer) (remains_text l.remains)
    (remains_text (drop l.remain-index l.remains))
