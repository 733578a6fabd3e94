use Rattle.std.proofs.Common.{subst}
use Rattle.std.specs.Mem.Slots.{slots_items}
use Rattle.brc_table.specs.Rest.{Remains}
use Rattle.brc_table.specs.Seated.{TableSeen, RootSeen}
use Rattle.brc_table.proofs.Remaining.{remains}
use Rattle.brc_table.proofs.table.HeapTable.take_apart.Goals as goal

pub returns : goal.returns
returns g c =
    let t = c.self.inside in let place = c.root.inside.place in let slots =
    slots_items c.close_with-closed.result.slots in
    subst (λ (z : TableSeen × RootSeen). Remains z.0.cells z.0.local_limit z.1.id z.1.view slots)
    (λ i. (c.self.view_is i, c.root.view_is i))
    (remains t.cells t.local_limit _ _ place.id place.me.0 _ _ c.self.invariant.same_cells c.self.invariant.same_limit
    c.close_with-closed.ensures.values.2)
