use Rattle.std.proofs.Common.{◌≡◌}
use Rattle.brc_graph.specs.Cells.{cells_from, cells_at}
use Rattle.brc_graph.proofs.cells.cells_of.Given as goal

abbrev pub invariant-loop-left : goal.invariant-loop-left
invariant-loop-left g l = cells_from l.left l.cells.items l.rest ≡ cells_at l.bytes

abbrev pub decreases-loop-left : goal.decreases-loop-left
decreases-loop-left g l = l.left
