use Rattle.std.proofs.Common.{◌≡◌, ℕ, ◌≤◌, length, drop}
use Rattle.brc_report.specs.Tables.{at}
use Rattle.brc_report.specs.Holding.{holder_of}
use Rattle.brc_report.proofs.holders.holders.Given as goal

abbrev pub invariant-loop-left : goal.invariant-loop-left
invariant-loop-left g l =
    (l.left ≤ length l.contents) × ((q : ℕ) → at l.table q ≡ holder_of (drop l.left l.contents) q)

abbrev pub decreases-loop-left : goal.decreases-loop-left
decreases-loop-left g l = l.left
