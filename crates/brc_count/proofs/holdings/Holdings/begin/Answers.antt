use Rattle.std.proofs.Common.{◌≡◌, Some, sym, subst}
use Rattle.brc_table.specs.Shown.{contents_of}
use Rattle.brc_count.specs.Frames.{FrameSeen, IsActive, IsUnlocked}
use Rattle.brc_count.specs.Locking.{cell_in}
use Rattle.brc_count.proofs.Locks.{lock_carries, after_lock, after_busy}
use Rattle.brc_count.proofs.holdings.Holdings.begin.Goals as goal

pub lock-requires-clause-carries : goal.lock-requires-clause-carries
lock-requires-clause-carries g c =
    lock_carries c.self.inside.counter.seat c.self.inside.counter.seat c.args.place c.filled_cell-cell.result c.self.invariant
    (subst IsActive (sym c.self.view_is) c.requires.active) (subst IsUnlocked (sym c.self.view_is) c.requires.unlocked)
    (subst (λ (f : FrameSeen g.row.A.Denot). cell_in f c.args.place ≡ Some c.filled_cell-cell.result) (sym c.self.view_is)
    c.filled_cell-cell.ensures.has)

-- found locked
pub invariant_of-self : goal.invariant_of-self
invariant_of-self g c =
    let lost = c.in_default.ensures in
    rw c.lock.ensures.heap (after_busy c.self.inside.counter.seat c.lock.new.self.seat c.self.invariant
    (subst IsUnlocked (sym c.self.view_is) c.requires.unlocked) lost.still lost.lost_knows lost.keeps)

pub invariant_of-self-2 : goal.invariant_of-self-2
invariant_of-self-2 g c =
    let won = c.in-Ok.ensures in
    rw c.lock.ensures.heap (after_lock c.self.inside.counter.seat c.lock.new.self.seat c.args.place c.filled_cell-cell.result
    (contents_of c.in-Ok.block.1) c.self.invariant
    (subst IsUnlocked (sym c.self.view_is) c.requires.unlocked)
    (subst (λ (f : FrameSeen g.row.A.Denot). cell_in f c.args.place ≡ Some c.filled_cell-cell.result) (sym c.self.view_is)
    c.filled_cell-cell.ensures.has)
    won.out won.won_knows won.keeps won.fresh won.won_found)
