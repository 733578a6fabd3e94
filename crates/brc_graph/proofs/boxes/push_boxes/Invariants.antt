use Rattle.std.proofs.Common.{◌≡◌, ◌++◌, length, map}
use Rattle.std.specs.Vec.Iter.{into_iter_items, into_iter_len}
use Rattle.brc_graph.specs.Reports.{cycle_drawn}
use Rattle.brc_graph.proofs.boxes.push_boxes.Given as goal

abbrev pub invariant-loop-cycle : goal.invariant-loop-cycle
invariant-loop-cycle g l =
    (l.drawn.items ++ map cycle_drawn (into_iter_items l.cycle-iterator)
    ≡ l.fn.drawn.items ++ map cycle_drawn l.fn.cycles.items)
    × (length (into_iter_items l.cycle-iterator) ≡ into_iter_len l.cycle-iterator)
