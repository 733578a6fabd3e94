use Rattle.std.proofs.Common.{◌≡◌, ◌≤◌, vec_capacity, vec_len}
use Rattle.std.specs.Prelude.{vec_items}
use Rattle.std.specs.List.{All}
use Rattle.test_threads.proofs.crowd.crew.register_all.Given as goal

abbrev pub invariant-loop : goal.invariant-loop
invariant-loop l =
    (l.root.table ≡ l.fn.root.table) × All (λ resting. resting.heap ≡ l.heap) (vec_items l.crew)
    × (vec_len l.crew ≡ l.counter) × (vec_capacity l.fn.crew ≤ vec_capacity l.crew)
