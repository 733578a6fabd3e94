use Rattle.std.proofs.Common.{◌≡◌, ◌≤◌, ◌+◌, ◌++◌, length, map, vec_capacity}
use Rattle.std.specs.List.{All}
use Rattle.std.specs.Vec.Iter.{into_iter_items, into_iter_len}
use Rattle.brc_thread.specs.Counting.{gatherings}
use Rattle.brc_loops.proofs.threads.gather_answers.Given as goal

abbrev pub invariant-loop-one : goal.invariant-loop-one
invariant-loop-one g l =
    (l.root.table ≡ l.fn.root.table)
    × All (λ one. one.retired.heap ≡ l.heap) (into_iter_items l.one-iterator)
    × (gatherings l.root.view + length (into_iter_items l.one-iterator)
    ≡ gatherings l.fn.root.view + length l.fn.all.items)
    × (length (into_iter_items l.one-iterator) ≡ into_iter_len l.one-iterator)
    × (l.answers.items ++ map (λ one. one.answer) (into_iter_items l.one-iterator)
    ≡ map (λ one. one.answer) l.fn.all.items)
    × (length l.answers.items + length (into_iter_items l.one-iterator) ≡ length l.fn.all.items)
    × (length l.fn.all.items ≤ vec_capacity l.answers)
