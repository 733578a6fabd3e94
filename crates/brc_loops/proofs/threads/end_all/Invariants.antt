use Rattle.std.proofs.Common.{◌≡◌, ◌+◌, length}
use Rattle.std.specs.List.{All}
use Rattle.std.specs.Vec.Iter.{into_iter_items, into_iter_len}
use Rattle.brc_thread.specs.Counting.{registrations, gatherings}
use Rattle.brc_loops.proofs.threads.end_all.Given as goal

abbrev pub invariant-loop-resting : goal.invariant-loop-resting
invariant-loop-resting g l =
    (l.root.table ≡ l.fn.root.table)
    × All (λ resting. resting.heap ≡ l.heap) (into_iter_items l.resting-iterator)
    × (gatherings l.root.view + length (into_iter_items l.resting-iterator)
    ≡ gatherings l.fn.root.view + length l.fn.all.items)
    × (length (into_iter_items l.resting-iterator) ≡ into_iter_len l.resting-iterator)
    × (registrations l.root.view ≡ registrations l.fn.root.view)
