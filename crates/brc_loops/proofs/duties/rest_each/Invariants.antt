use Rattle.std.proofs.Common.{◌≡◌, ◌++◌, length, map}
use Rattle.std.specs.List.{All}
use Rattle.std.specs.Vec.Iter.{into_iter_items, into_iter_len}
use Rattle.brc_thread.specs.Counting.{gatherings}
use Rattle.brc_loops.proofs.duties.rest_each.Given as goal

abbrev pub invariant-loop-job : goal.invariant-loop-job
invariant-loop-job g l =
    (l.root.table ≡ l.fn.root.table)
    × All (λ given. given.0.heap ≡ l.heap) l.all.items
    × (map (λ given. given.1) l.all.items ++ into_iter_items l.job-iterator
    ≡ map (λ given. given.1) l.fn.all.items ++ l.fn.jobs.items)
    × (gatherings l.root.view ≡ gatherings l.fn.root.view)
    × (length (into_iter_items l.job-iterator) ≡ into_iter_len l.job-iterator)
