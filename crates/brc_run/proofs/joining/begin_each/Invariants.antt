use Rattle.std.proofs.Common.{◌≡◌, ◌+◌, ◌≤◌, length, vec_capacity, vec_len}
use Rattle.std.specs.Prelude.{vec_items}
use Rattle.std.specs.List.{All}
use Rattle.std.specs.Vec.Iter.{into_iter_items}
use Rattle.brc_run.specs.Runs.{IsBegun, IsReady}
use Rattle.brc_run.proofs.Ordered.{Along}
use Rattle.brc_run.proofs.joining.begin_each.Given as goal

abbrev pub invariant-loop-section : goal.invariant-loop-section
invariant-loop-section g l =
    Along (IsBegun l.context.heap.now l.context.gate.now (g.G.Gate.may_refuse l.context.gate.now)) l.sections l.section-index (vec_items l.begun)
    × All (IsReady l.context.heap.now) (into_iter_items l.crew)
    × (length (into_iter_items l.crew) + l.section-index ≡ length l.sections)
    × (l.number ≡ l.section-index + 1)
    × (vec_len l.begun ≡ l.section-index) × (length l.sections ≤ vec_capacity l.begun)
