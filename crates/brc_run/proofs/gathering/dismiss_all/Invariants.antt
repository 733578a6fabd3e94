use Rattle.std.proofs.Common.{◌≡◌}
use Rattle.std.specs.List.{All}
use Rattle.std.specs.Vec.Iter.{into_iter_items}
use Rattle.brc_run.specs.Runs.{IsReady}
use Rattle.brc_run.proofs.gathering.dismiss_all.Given as goal

abbrev pub invariant-loop-resting : goal.invariant-loop-resting
invariant-loop-resting g l =
    (l.root.table ≡ l.fn.root.table) × All (IsReady l.heap) (into_iter_items l.resting-iterator)
