use Rattle.std.proofs.Common.{◌≡◌, ◌+◌, length}
use Rattle.std.specs.List.{All}
use Rattle.std.specs.Vec.Iter.{into_iter_items, into_iter_len}
use Rattle.brc_thread.specs.Counting.{gatherings}
use Rattle.brc_loops.proofs.duties.end_each.Given as goal

abbrev pub invariant-loop-resting : goal.invariant-loop-resting
invariant-loop-resting g l =
    (l.root.table ≡ l.fn.root.table)
    × All (λ job. job.0.heap ≡ l.heap) (into_iter_items l.resting-iterator)
    × (gatherings l.root.view + length (into_iter_items l.resting-iterator)
    ≡ gatherings l.fn.root.view + length l.fn.jobs.items)
    × (length (into_iter_items l.resting-iterator) ≡ into_iter_len l.resting-iterator)
