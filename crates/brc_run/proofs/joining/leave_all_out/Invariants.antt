use Rattle.std.proofs.Common.{◌≡◌, ◌+◌, ◌≤◌, length, vec_capacity, vec_len}
use Rattle.std.specs.Prelude.{vec_items}
use Rattle.std.specs.List.{All}
use Rattle.std.specs.Vec.Iter.{into_iter_items}
use Rattle.brc_run.specs.Runs.{CameBack, IsReady}
use Rattle.brc_run.proofs.Ordered.{Along}
use Rattle.brc_run.proofs.joining.leave_all_out.Given as goal

abbrev pub invariant-loop-section : goal.invariant-loop-section
invariant-loop-section g l =
    Along (CameBack l.context.heap.now (g.G.Gate.may_refuse l.context.gate.now)) l.sections l.section-index (vec_items l.done)
    × All (IsReady l.context.heap.now) (into_iter_items l.crew)
    × (length (into_iter_items l.crew) + l.section-index ≡ length l.sections)
    × (l.number ≡ l.section-index + 1)
    × (vec_len l.done ≡ l.section-index) × (length l.sections ≤ vec_capacity l.done)
