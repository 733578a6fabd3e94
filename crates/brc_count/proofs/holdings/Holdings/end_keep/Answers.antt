use Rattle.std.proofs.Common.{◌≡◌, Some, sym, subst}
use Rattle.brc_table.specs.law.declared.world.event.Change.TheVariants as changes
use Rattle.brc_count.specs.Frames.{FrameSeen}
use Rattle.brc_count.specs.Locking.{IsLocked, cell_locked}
use Rattle.brc_count.proofs.Locks.{after_end}
use Rattle.brc_count.proofs.holdings.Holdings.end_keep.Goals as goal

pub invariant_of-self : goal.invariant_of-self
invariant_of-self g c =
    let now = c.unlock.ensures in
    let was = c.self.invariant in
    rw now.heap (after_end c.self.inside.counter.seat c.unlock.new.self.seat changes.Keep c.args.block.0 was
    (subst IsLocked (sym c.self.view_is) c.requires.locked)
    (subst (λ (f : FrameSeen g.row.A.Denot). cell_locked f ≡ Some c.args.block.0)
    (sym c.self.view_is) c.requires.of_cell)
    now.home now.knows now.keeps
    (record { placed = was.placed; risen = λ j held there is. there; inside = was.inside }))
