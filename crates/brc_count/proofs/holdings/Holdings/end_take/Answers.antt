use Rattle.std.proofs.Common.{◌≡◌, ◌<◌, Some, None, ◌∙◌, sym, ap, subst, refl, false}
use Rattle.brc_count.specs.Places.{cell_held}
use Rattle.brc_words.specs.declared.limits.TheConstants.{MOST_PLACES}
use Rattle.brc_table.specs.law.declared.world.event.Change.TheVariants as changes
use Rattle.brc_table.specs.law.declared.world.row.Hand.TheVariants as hands
use Rattle.brc_table.specs.law.rule.Seen.{part_seen}
use Rattle.brc_table.specs.law.steps.Owing.{MayUnlock}
use Rattle.brc_table.specs.Moving.{found_locked}
use Rattle.brc_table.specs.Shown.{shows}
use Rattle.brc_count.specs.Frames.{FrameSeen}
use Rattle.brc_count.specs.Locking.{IsLocked, cell_in, cell_locked}
use Rattle.brc_count.proofs.Locks.{unlocks_take, after_end_filled, changes_place}
use Rattle.brc_count.proofs.holdings.Holdings.end_take.Goals as goal

pub unlock-requires-clause-unlocks : goal.unlock-requires-clause-unlocks
unlock-requires-clause-unlocks g c =
    let back : FrameSeen g.row.A.Denot → Type 0 = λ f. MayUnlock f.heap.cells f.seat.log (shows c.args.block)
    (found_locked f.seat.log) (changes.Take c.args.index c.next-place.result) c.args.block.0 in
    subst back (sym c.self.view_is) (unlocks_take c.args.self.now c.args.block c.args.index c.next-place.result
    c.args.cell c.requires.active
    (subst (λ (f : FrameSeen g.row.A.Denot). (part_seen f.heap.cells f.seat.log).row.hand ≡ hands.Free) c.self.view_is
    c.self.invariant.hand_is)
    c.requires.locked c.requires.of_cell c.requires.container c.requires.same_kind c.requires.entry
    (subst (λ k. k < MOST_PLACES) (ap (λ (f : FrameSeen g.row.A.Denot). f.next) (sym c.self.view_is)
    ∙ sym c.next-place.ensures.next) c.requires.low)
    (subst (λ (f : FrameSeen g.row.A.Denot). cell_in f c.next-place.result ≡ None) c.self.view_is
    (c.self.invariant.placed c.next-place.result ∙ ap cell_held c.next-place.ensures.vacant))
    c.requires.entries c.requires.keys)

pub invariant_of-self : goal.invariant_of-self
invariant_of-self g c =
    let now = c.unlock.ensures in
    let locked = subst (λ (f : FrameSeen g.row.A.Denot). cell_locked f ≡ Some c.args.block.0)
    (sym c.self.view_is) c.requires.of_cell in
    let place = c.next-place.result in
    let updates = c.fill.ensures.updates in
    let all = after_end_filled c.self.inside.counter.seat c.unlock.new.self.seat (changes.Take c.args.index place)
    c.args.block.0 c.args.index place c.args.cell
    c.self.invariant (subst IsLocked (sym c.self.view_is) c.requires.locked) locked
    (rw (← c.self.view_is) at c.requires.entry) (λ frame es. refl)
    now.home now.knows now.keeps updates in
    rw now.heap all

pub returns-clause-places : goal.returns-clause-places
returns-clause-places g c =
    let now = c.unlock.ensures in
    let locked = subst (λ (f : FrameSeen g.row.A.Denot). cell_locked f ≡ Some c.args.block.0)
    (sym c.self.view_is) c.requires.of_cell in
    let place = c.next-place.result in
    let updates = c.fill.ensures.updates in
    let all = after_end_filled c.self.inside.counter.seat c.unlock.new.self.seat (changes.Take c.args.index place)
    c.args.block.0 c.args.index place c.args.cell
    c.self.invariant (subst IsLocked (sym c.self.view_is) c.requires.locked) locked
    (rw (← c.self.view_is) at c.requires.entry) (λ frame es. refl)
    now.home now.knows now.keeps updates in
    rw (← c.self.view_is, now.heap) (changes_place _ _ place (Some (record { cell = c.args.cell; risen = false }))
    c.self.invariant.placed all.placed updates)
