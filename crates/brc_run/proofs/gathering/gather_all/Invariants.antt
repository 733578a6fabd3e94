use Rattle.std.proofs.Common.{◌≡◌, ◌+◌, ◌≤◌, length, vec_capacity}
use Rattle.std.specs.Prelude.{vec_items, IfSome}
use Rattle.std.specs.List.{All}
use Rattle.std.specs.Vec.Iter.{into_iter_items, into_iter_len}
use Rattle.brc_run.specs.Runs.{life_of}
use Rattle.brc_run.proofs.One_Heap.{Gathering, Ended}
use Rattle.brc_run.proofs.gathering.gather_all.Given as goal

abbrev pub invariant-loop-one : goal.invariant-loop-one
invariant-loop-one g l =
    Gathering life_of l.fn.root l.root (vec_items l.fn.done) (into_iter_items l.one-iterator)
    × All (λ one. one.retired.heap ≡ l.heap) (into_iter_items l.one-iterator)
    × IfSome l.ends (Ended vec_items (λ one. one.end) (vec_items l.fn.done) (into_iter_items l.one-iterator))
    × IfSome l.ends (λ ends. length (vec_items ends) + length (into_iter_items l.one-iterator) ≤ vec_capacity ends)
    × (length (into_iter_items l.one-iterator) ≡ into_iter_len l.one-iterator)
