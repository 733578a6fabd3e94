use Rattle.std.proofs.Common.{◌≡◌, ℕ, ◌≤◌, length, drop}
use Rattle.brc_report.specs.Tables.{at}
use Rattle.brc_report.specs.Cycles.{holder_in}
use Rattle.brc_report.proofs.cycles.holders_in_table.Given as goal

abbrev pub invariant-loop-left : goal.invariant-loop-left
invariant-loop-left g l =
    (l.left ≤ length l.remains) × ((q : ℕ) → at l.table q ≡ holder_in (drop l.left l.remains) q)

abbrev pub decreases-loop-left : goal.decreases-loop-left
decreases-loop-left g l = l.left
