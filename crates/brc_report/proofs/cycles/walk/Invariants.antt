use Rattle.brc_report.specs.Tables.{sees}
use Rattle.brc_report.specs.Cycles.{holder_in}
use Rattle.brc_report.specs.Walking.{Walking, unseen}
use Rattle.brc_report.proofs.cycles.walk.Given as goal

abbrev pub invariant-loop-next : goal.invariant-loop-next
invariant-loop-next g l =
    Walking (holder_in l.remains) (sees l.fn.seen) (sees l.seen) l.from l.path.items l.cell

abbrev pub decreases-loop-next : goal.decreases-loop-next
decreases-loop-next g l = unseen (sees l.seen) l.remains
