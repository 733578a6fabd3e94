use Rattle.std.proofs.Common.{◌≡◌, Some, sym, subst, refl, false}
use Rattle.brc_table.specs.law.declared.world.event.Change.TheVariants as changes
use Rattle.brc_table.specs.law.declared.world.row.Hand.TheVariants as hands
use Rattle.brc_table.specs.law.rule.Seen.{part_seen}
use Rattle.brc_table.specs.law.steps.Owing.{MayUnlock}
use Rattle.brc_table.specs.Moving.{found_locked}
use Rattle.brc_table.specs.Shown.{shows}
use Rattle.brc_count.specs.Frames.{FrameSeen}
use Rattle.brc_count.specs.Locking.{IsLocked, cell_locked}
use Rattle.brc_count.proofs.Locks.{unlocks_swap, after_end_filled, changes_place}
use Rattle.brc_count.proofs.holdings.Holdings.end_swap.Goals as goal

pub unlock-requires-clause-unlocks : goal.unlock-requires-clause-unlocks
unlock-requires-clause-unlocks g c =
    let back : FrameSeen g.row.A.Denot → Type 0 = λ f. MayUnlock f.heap.cells f.seat.log (shows c.args.block)
    (found_locked f.seat.log) (changes.Swap c.args.index c.args.place) c.args.block.0 in
    subst back (sym c.self.view_is) (unlocks_swap c.args.self.now c.args.block c.args.index c.args.place c.args.cell
    c.requires.active
    (subst (λ (f : FrameSeen g.row.A.Denot). (part_seen f.heap.cells f.seat.log).row.hand ≡ hands.Free) c.self.view_is
    c.self.invariant.hand_is)
    c.requires.locked c.requires.of_cell c.requires.container c.requires.same_kind c.requires.entry c.requires.filled
    c.requires.apart c.requires.entries c.requires.keys)

pub invariant_of-self : goal.invariant_of-self
invariant_of-self g c =
    let now = c.unlock.ensures in
    let locked = subst (λ (f : FrameSeen g.row.A.Denot). cell_locked f ≡ Some c.args.block.0)
    (sym c.self.view_is) c.requires.of_cell in
    let updates = c.replace.ensures.updates in
    let all = after_end_filled c.self.inside.counter.seat c.unlock.new.self.seat
    (changes.Swap c.args.index c.args.place) c.args.block.0 c.args.index c.args.place c.args.cell
    c.self.invariant (subst IsLocked (sym c.self.view_is) c.requires.locked) locked
    (rw (← c.self.view_is) at c.requires.entry) (λ frame es. refl)
    now.home now.knows now.keeps updates in
    rw now.heap all

pub returns-clause-places : goal.returns-clause-places
returns-clause-places g c =
    let now = c.unlock.ensures in
    let locked = subst (λ (f : FrameSeen g.row.A.Denot). cell_locked f ≡ Some c.args.block.0)
    (sym c.self.view_is) c.requires.of_cell in
    let updates = c.replace.ensures.updates in
    let all = after_end_filled c.self.inside.counter.seat c.unlock.new.self.seat
    (changes.Swap c.args.index c.args.place) c.args.block.0 c.args.index c.args.place c.args.cell
    c.self.invariant (subst IsLocked (sym c.self.view_is) c.requires.locked) locked
    (rw (← c.self.view_is) at c.requires.entry) (λ frame es. refl)
    now.home now.knows now.keeps updates in
    rw (← c.self.view_is, now.heap)
    (changes_place _ _ c.args.place (Some (record { cell = c.args.cell; risen = false })) c.self.invariant.placed
    all.placed updates)
