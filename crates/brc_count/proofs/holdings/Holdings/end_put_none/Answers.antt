use Rattle.std.proofs.Common.{◌≡◌, None, Some, false, sym, subst}
use Rattle.std.proofs.lemmas.Bool.{true≢false}
use Rattle.brc_count.specs.Frames.{FrameSeen, IsActive}
use Rattle.brc_count.specs.Locking.{IsLocked, cell_in, cell_locked}
use Rattle.brc_count.proofs.Changes.{after_up}
use Rattle.brc_count.proofs.Locks.{after_end_put}
use Rattle.brc_count.proofs.None_Locks.{none_inside, none_raises}
use Rattle.brc_count.proofs.Place_Marks.{with_place, updates_with, updates_back}
use Rattle.brc_count.proofs.holdings.Holdings.end_put_none.Goals as goal

pub up-risen-requires-clause-raising : goal.up-risen-requires-clause-raising
up-risen-requires-clause-raising g c =
    let now = c.unlock.ensures in
    let mid = after_end_put c.self.inside.counter.seat c.unlock.new.self.seat
    {places = with_place c.self.inside.places c.args.place None} c.args.block.0 c.args.place c.self.invariant
    (subst IsLocked (sym c.self.view_is) c.requires.locked)
    (subst (λ (f : FrameSeen g.row.A.Denot). cell_locked f ≡ Some c.args.block.0) (sym c.self.view_is) c.requires.of_cell)
    now.home now.knows now.keeps (updates_with c.self.inside.places c.args.place None) in
    rw now.heap (none_raises c.self.inside.counter.seat c.self.inside.places c.args.block.0 c.args.place mid
    (subst IsActive (sym c.self.view_is) c.requires.active) now.knows c.replace.ensures.low)

pub invariant_of-self : goal.invariant_of-self
invariant_of-self g c =
    let now = c.unlock.ensures in
    let up = c.up-risen.ensures in
    let mid = after_end_put c.self.inside.counter.seat c.unlock.new.self.seat
    {places = with_place c.self.inside.places c.args.place None} c.args.block.0 c.args.place c.self.invariant
    (subst IsLocked (sym c.self.view_is) c.requires.locked)
    (subst (λ (f : FrameSeen g.row.A.Denot). cell_locked f ≡ Some c.args.block.0) (sym c.self.view_is) c.requires.of_cell)
    now.home now.knows now.keeps (updates_with c.self.inside.places c.args.place None) in
    let all = after_up c.unlock.new.self.seat c.up-risen.new.self.seat {places = c.replace.new.self} c.args.place 0
    false mid up.seat (rw now.heap at up.knows) (rw now.heap at up.keeps) (λ no. absurd (true≢false (sym no)))
    (none_inside c.args.place c.self.invariant
    (subst (λ (f : FrameSeen g.row.A.Denot). cell_in f c.args.place ≡ Some 0) (sym c.self.view_is) c.requires.none))
    (updates_back c.self.inside.places c.replace.new.self c.args.place None _ c.replace.ensures.updates)
    (updates_with c.self.inside.places c.args.place None).changed up.found in
    rw (up.heap, now.heap) all
