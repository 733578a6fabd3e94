use Rattle.std.proofs.Common.{◌≡◌}
use Rattle.law.specs.world.Heap.{worklist_at}
use Rattle.law.specs.world.Steps.{owned_are_marked}
use Rattle.brc_state.proofs.tables.Tables.owned_are_marked.Given as goal

abbrev pub invariant-loop-cell : goal.invariant-loop-cell
invariant-loop-cell g l = l.marked ≡ owned_are_marked l.thread l.self.cells (worklist_at l.self l.thread) l.cell
