use Rattle.std.proofs.Common.{◌≡◌, ◌++◌, drop}
use Rattle.brc_graph.specs.Boxes.{held_among}
use Rattle.brc_graph.proofs.boxes.held_objects.Given as goal

abbrev pub invariant-loop-line : goal.invariant-loop-line
invariant-loop-line g l =
    l.held.items ++ held_among l.lines (drop l.line-index l.lines) ≡ held_among l.lines l.lines
