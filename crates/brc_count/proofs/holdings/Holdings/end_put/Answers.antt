use Rattle.std.proofs.Common.{◌≡◌, Some, sym, subst}
use Rattle.brc_count.specs.Frames.{FrameSeen}
use Rattle.brc_count.specs.Locking.{IsLocked, cell_locked}
use Rattle.brc_count.proofs.Locks.{after_end_put}
use Rattle.brc_count.proofs.holdings.Holdings.end_put.Goals as goal

pub invariant_of-self : goal.invariant_of-self
invariant_of-self g c =
    let now = c.unlock.ensures in
    let locked = subst (λ (f : FrameSeen g.row.A.Denot). cell_locked f ≡ Some c.args.block.0)
    (sym c.self.view_is) c.requires.of_cell in
    rw now.heap (after_end_put c.self.inside.counter.seat c.unlock.new.self.seat c.args.block.0 c.args.place
    c.self.invariant
    (subst IsLocked (sym c.self.view_is) c.requires.locked) locked now.home now.knows now.keeps
    c.take-held.ensures.updates)
