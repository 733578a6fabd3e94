use Rattle.std.proofs.Common.{◌≡◌, drop}
use Rattle.brc_report.specs.Spelled.{all_spelled}
use Rattle.brc_report.proofs.report.all_spelled.Given as goal

abbrev pub invariant-loop-remain : goal.invariant-loop-remain
invariant-loop-remain l = all_spelled (drop l.remain-index l.remains) ≡ all_spelled l.remains
