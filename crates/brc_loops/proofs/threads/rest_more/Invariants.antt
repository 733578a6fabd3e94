use Rattle.std.proofs.Common.{◌≡◌, ◌+◌, length}
use Rattle.std.specs.List.{All}
use Rattle.brc_thread.specs.Counting.{registrations, gatherings}
use Rattle.brc_loops.proofs.threads.rest_more.Given as goal

abbrev pub invariant-loop-before : goal.invariant-loop-before
invariant-loop-before g l =
    (l.root.table ≡ l.fn.root.table)
    × All (λ resting. resting.heap ≡ l.heap) l.all.items
    × (length l.all.items ≡ length l.fn.all.items + l.before)
    × (gatherings l.root.view ≡ gatherings l.fn.root.view)
    × (registrations l.root.view ≡ registrations l.fn.root.view + l.before)
