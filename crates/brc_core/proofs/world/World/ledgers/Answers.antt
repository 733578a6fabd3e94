use Rattle.std.proofs.Common.{arith}
use Rattle.brc_core.proofs.Bounds.{allocs_fit, frees_fit, all_allocs_fit, all_frees_fit}
use Rattle.brc_core.proofs.world.World.ledgers.Goals as goal

pub allocs-requires : goal.allocs-requires
allocs-requires g c = rw c.rows.ensures (allocs_fit _ c.self.invariant)

pub frees-requires : goal.frees-requires
frees-requires g c = rw c.rows-2.ensures (frees_fit _ c.self.invariant)

pub overflow_add-result : goal.overflow_add-result
overflow_add-result g c = let counted = rw c.rows.ensures at c.allocs.ensures in
    omega (arith, all_allocs_fit _ c.self.invariant, counted, c.past_allocs.ensures)

pub overflow_add-result-2 : goal.overflow_add-result-2
overflow_add-result-2 g c = let counted = rw c.rows-2.ensures at c.frees.ensures in
    omega (arith, all_frees_fit _ c.self.invariant, counted, c.past_frees.ensures)
