use Rattle.std.proofs.Common.{◌≡◌, false, refl, sym, subst, ◌∙◌, ap}
use Rattle.brc_table.specs.law.declared.world.event.Dropped.TheVariants as drops
use Rattle.brc_table.specs.law.known.Items.{Part}
use Rattle.brc_count.specs.declared.held.PlaceEntry.{PlaceEntry}
use Rattle.brc_count.specs.Frames.{IsUnlocked}
use Rattle.brc_count.specs.Places.{cell_held}
use Rattle.brc_count.proofs.Changes.{after_release}
use Rattle.brc_count.proofs.None_Locks.{none_inside, none_ends_nothing}
use Rattle.brc_count.proofs.holdings.Holdings.release_none.Goals as goal

pub invariant_of-self-in_default : goal.invariant_of-self-in_default
invariant_of-self-in_default g c =
    let down = c.give_up.ensures in
    let none : PlaceEntry = record { cell = 0; risen = false } in
    let all = after_release c.self.inside.counter.seat c.give_up.new.self.seat {places = c.take-held.new.self}
    c.args.place none c.give_up.result c.self.invariant down.seat down.knows down.keeps down.block
    (none_inside c.args.place c.self.invariant (rw (← c.self.view_is) at c.requires.none))
    c.take-held.ensures.updates (subst IsUnlocked (sym c.self.view_is) c.requires.unlocked) in
    rw down.heap (rw c.in_default.is at all)

pub returns-in_default-clause-gone : goal.returns-in_default-clause-gone
returns-in_default-clause-gone g c =
    let down = c.give_up.ensures in
    let none : PlaceEntry = record { cell = 0; risen = false } in
    let all = after_release c.self.inside.counter.seat c.give_up.new.self.seat {places = c.take-held.new.self}
    c.args.place none c.give_up.result c.self.invariant down.seat down.knows down.keeps down.block
    (none_inside c.args.place c.self.invariant (rw (← c.self.view_is) at c.requires.none))
    c.take-held.ensures.updates (subst IsUnlocked (sym c.self.view_is) c.requires.unlocked) in
    let told = none_ends_nothing c.self.inside.counter.heap.cells (drops.Frame c.args.place) false c.give_up.result
    c.self.inside.counter.seat.log c.give_up.new.self.seat.log down.told in
    rw (← c.self.view_is, down.heap) record {
      found = told.1.0;
      gone = told.1.1;
      places = record {
        has = all.placed c.args.place ∙ ap cell_held c.take-held.ensures.updates.changed;
        others = λ j other. all.placed j ∙ ap cell_held (c.take-held.ensures.updates.others j other)
            ∙ sym (c.self.invariant.placed j);
      };
      unlocked = ap (λ (p : Part). p.row.locked) down.knows.part
          ∙ subst IsUnlocked (sym c.self.view_is) c.requires.unlocked;
      keeps = record {
        heap = refl;
        thread = down.seat.1;
        stage = ap (λ (p : Part). p.row.stage) down.knows.part;
        popped = ap (λ (p : Part). p.popped) down.knows.part;
        works = refl;
        from = refl;
        near = refl;
      };
    }
