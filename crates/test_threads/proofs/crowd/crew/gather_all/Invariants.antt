use Rattle.std.proofs.Common.{◌≡◌}
use Rattle.std.specs.List.{All}
use Rattle.std.specs.Vec.Iter.{into_iter_items}
use Rattle.test_threads.proofs.crowd.crew.gather_all.Given as goal

abbrev pub invariant-loop-one : goal.invariant-loop-one
invariant-loop-one l =
    (l.root.table ≡ l.fn.root.table) × All (λ one. one.retired.heap ≡ l.heap) (into_iter_items l.one-iterator)
