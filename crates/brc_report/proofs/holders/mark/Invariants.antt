use Rattle.std.proofs.Common.{◌≡◌, ℕ, Some, if◌then◌else◌, take}
use Rattle.brc_report.specs.Tables.{at}
use Rattle.brc_report.specs.Holding.{has}
use Rattle.brc_report.proofs.holders.mark.Given as goal

abbrev pub invariant-loop-entry : goal.invariant-loop-entry
invariant-loop-entry g l =
    (q : ℕ) → at l.table q ≡ (if has (take l.entry-index l.entries) q then Some l.cell else at l.fn.table q)
