use Rattle.std.proofs.Common.{◌≡◌, drop}
use Rattle.brc_report.specs.Reports.{rises}
use Rattle.brc_report.proofs.checking.is_contents.Given as goal

abbrev pub invariant-loop-content : goal.invariant-loop-content
invariant-loop-content g l = rises l.last (drop l.content-index l.others) ≡ rises l.first.cell l.others
