use Rattle.std.proofs.Common.{◌≡◌, ◌<◌, None, Some, sym, subst, refl, ◌∙◌, ap, false}
use Rattle.brc_words.specs.declared.limits.TheConstants.{MOST_PLACES}
use Rattle.brc_table.specs.law.declared.world.event.Change.TheVariants as changes
use Rattle.brc_table.specs.law.declared.world.row.Hand.TheVariants as hands
use Rattle.brc_table.specs.law.known.Items.{Part}
use Rattle.brc_table.specs.law.rule.Seen.{part_seen}
use Rattle.brc_table.specs.law.steps.Owing.{MayUnlock}
use Rattle.brc_table.specs.Moving.{found_locked}
use Rattle.brc_table.specs.Shown.{shows}
use Rattle.brc_count.specs.declared.held.PlaceEntry.{PlaceEntry}
use Rattle.brc_count.specs.Frames.{FrameSeen}
use Rattle.brc_count.specs.Locking.{IsLocked, cell_in, cell_locked}
use Rattle.brc_count.specs.Places.{cell_held}
use Rattle.brc_count.proofs.Changes.{after_release}
use Rattle.brc_count.proofs.Locks.{unlocks_take, after_end_filled}
use Rattle.brc_count.proofs.Place_Marks.{with_place, updates_with, updates_back}
use Rattle.brc_count.proofs.holdings.Holdings.end_take_none.Goals as goal

pub unlock-requires-clause-unlocks : goal.unlock-requires-clause-unlocks
unlock-requires-clause-unlocks g c =
    let back : FrameSeen g.row.A.Denot → Type 0 = λ f. MayUnlock f.heap.cells f.seat.log (shows c.args.block)
    (found_locked f.seat.log) (changes.Take c.args.index c.next-place.result) c.args.block.0 in
    subst back (sym c.self.view_is) (unlocks_take c.args.self.now c.args.block c.args.index c.next-place.result 0
    c.requires.active
    (subst (λ (f : FrameSeen g.row.A.Denot). (part_seen f.heap.cells f.seat.log).row.hand ≡ hands.Free) c.self.view_is
    c.self.invariant.hand_is)
    c.requires.locked c.requires.of_cell c.requires.container c.requires.same_kind c.requires.entry
    (subst (λ k. k < MOST_PLACES) (ap (λ (f : FrameSeen g.row.A.Denot). f.next) (sym c.self.view_is)
    ∙ sym c.next-place.ensures.next) c.requires.low)
    (subst (λ (f : FrameSeen g.row.A.Denot). cell_in f c.next-place.result ≡ None) c.self.view_is
    (c.self.invariant.placed c.next-place.result ∙ ap cell_held c.next-place.ensures.vacant))
    c.requires.entries c.requires.keys)

pub invariant_of-self-in_default : goal.invariant_of-self-in_default
invariant_of-self-in_default g c =
    let now = c.unlock.ensures in
    let down = c.give_up.ensures in
    let place = c.next-place.result in
    let none : PlaceEntry = record { cell = 0; risen = false } in
    let lock = subst IsLocked (sym c.self.view_is) c.requires.locked in
    let entry = rw (← c.self.view_is) at c.requires.entry in
    let mid = after_end_filled c.self.inside.counter.seat c.unlock.new.self.seat
    {places = with_place c.self.inside.places place (Some none)} (changes.Take c.args.index place) c.args.block.0
    c.args.index place 0 c.self.invariant lock
    (subst (λ (f : FrameSeen g.row.A.Denot). cell_locked f ≡ Some c.args.block.0) (sym c.self.view_is) c.requires.of_cell)
    entry (λ frame es. refl) now.home now.knows now.keeps (updates_with c.self.inside.places place (Some none)) in
    let all = after_release c.unlock.new.self.seat c.give_up.new.self.seat {places = c.self.inside.places} place none
    c.give_up.result mid down.seat (rw now.heap at down.knows) (rw now.heap at down.keeps) (rw now.heap at down.block)
    (lock.cells c.args.index 0 entry)
    (updates_back c.self.inside.places c.self.inside.places place (Some none) None
    (record { changed = c.next-place.ensures.vacant; others = λ j other. refl }))
    (ap (λ (p : Part). p.row.locked) now.knows.part) in
    rw (down.heap, now.heap) (rw c.in_default.is at all)

pub returns-in_default-clause-frame : goal.returns-in_default-clause-frame
returns-in_default-clause-frame g c =
    let now = c.unlock.ensures in
    let down = c.give_up.ensures in
    let place = c.next-place.result in
    let none : PlaceEntry = record { cell = 0; risen = false } in
    let lock = subst IsLocked (sym c.self.view_is) c.requires.locked in
    let entry = rw (← c.self.view_is) at c.requires.entry in
    let mid = after_end_filled c.self.inside.counter.seat c.unlock.new.self.seat
    {places = with_place c.self.inside.places place (Some none)} (changes.Take c.args.index place) c.args.block.0
    c.args.index place 0 c.self.invariant lock
    (subst (λ (f : FrameSeen g.row.A.Denot). cell_locked f ≡ Some c.args.block.0) (sym c.self.view_is) c.requires.of_cell)
    entry (λ frame es. refl) now.home now.knows now.keeps (updates_with c.self.inside.places place (Some none)) in
    let all = after_release c.unlock.new.self.seat c.give_up.new.self.seat {places = c.self.inside.places} place none
    c.give_up.result mid down.seat (rw now.heap at down.knows) (rw now.heap at down.keeps) (rw now.heap at down.block)
    (lock.cells c.args.index 0 entry)
    (updates_back c.self.inside.places c.self.inside.places place (Some none) None
    (record { changed = c.next-place.ensures.vacant; others = λ j other. refl }))
    (ap (λ (p : Part). p.row.locked) now.knows.part) in
    rw (← c.self.view_is, down.heap, now.heap) record {
      places = λ k. all.placed k ∙ sym (c.self.invariant.placed k);
      len = refl;
      spare = refl;
      next = refl;
    }
