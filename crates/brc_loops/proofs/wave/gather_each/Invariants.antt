use Rattle.std.proofs.Common.{◌≡◌, ◌+◌, length}
use Rattle.std.specs.List.{All}
use Rattle.std.specs.Vec.Iter.{into_iter_items, into_iter_len}
use Rattle.brc_thread.specs.Counting.{registrations, gatherings}
use Rattle.brc_loops.proofs.wave.gather_each.Given as goal

abbrev pub invariant-loop-one : goal.invariant-loop-one
invariant-loop-one g l =
    (l.root.table ≡ l.fn.root.table)
    × All (λ one. one.retired.heap ≡ l.heap) (into_iter_items l.one-iterator)
    × (gatherings l.root.view + length (into_iter_items l.one-iterator)
    ≡ gatherings l.fn.root.view + length l.fn.all.items)
    × (length (into_iter_items l.one-iterator) ≡ into_iter_len l.one-iterator)
    × (registrations l.root.view ≡ registrations l.fn.root.view)
