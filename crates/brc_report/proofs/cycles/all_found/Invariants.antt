use Rattle.std.proofs.Common.{◌<◌, ℕ, get_or}
use Rattle.brc_report.specs.declared.content.Remain.{Remain}
use Rattle.brc_report.specs.Tables.{at, sees}
use Rattle.brc_report.specs.Cycles.{holder_in}
use Rattle.brc_report.specs.Walking.{WalksAreKnown, IsSettled}
use Rattle.brc_report.proofs.cycles.all_found.Given as goal

abbrev pub invariant-loop-remain : goal.invariant-loop-remain
invariant-loop-remain g l =
    WalksAreKnown (holder_in l.remains) (sees l.seen) (at l.found)
    × ((k : ℕ) (d : Remain) → k < l.remain-index
    → IsSettled (holder_in l.remains) (sees l.seen) (get_or l.remains k d).cell)
