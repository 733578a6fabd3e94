use Rattle.std.proofs.Common.{◌++◌, ℕ, List, drop}
use Rattle.brc_report.specs.Cycles.{holder_in, CyclesAt, AreCycles}
use Rattle.brc_report.proofs.cycles.find_cycles.Given as goal

abbrev pub invariant-loop-remain : goal.invariant-loop-remain
invariant-loop-remain g l =
    (rest : List (List ℕ)) → CyclesAt (holder_in l.remains) (drop l.remain-index l.remains) rest
    → AreCycles l.remains (l.cycles.items ++ rest)
