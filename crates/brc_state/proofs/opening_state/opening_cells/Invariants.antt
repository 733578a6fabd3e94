use Rattle.std.proofs.Common.{◌≡◌}
use Rattle.law.specs.world.Heap.{opening_cells}
use Rattle.brc_state.proofs.opening_state.opening_cells.Given as goal

abbrev pub invariant-loop-cell : goal.invariant-loop-cell
invariant-loop-cell g l = l.made.items ≡ opening_cells l.cell
