use Rattle.std.proofs.Common.{subst, ◌∙◌, sym, ap, refl}
use Rattle.brc_table.specs.law.known.Items.{Part}
use Rattle.brc_count.specs.Frames.{IsActive, SourceFits, SourceNames}
use Rattle.brc_count.specs.Places.{cell_held}
use Rattle.brc_count.proofs.Changes.{raising, after_up}
use Rattle.brc_count.proofs.holdings.Holdings.fill.Goals as goal

pub up-risen-requires-clause-raising : goal.up-risen-requires-clause-raising
up-risen-requires-clause-raising g c =
    rw c.next-place.ensures.next
    (raising c.args.source c.self.inside.places.next c.args.cell c.self.invariant
    (subst IsActive (sym c.self.view_is) c.requires.active)
    (subst (SourceFits c.args.source) (sym c.self.view_is) c.requires.fits)
    (subst (SourceNames c.args.source c.args.cell) (sym c.self.view_is) c.requires.named)
    (rw (← c.self.view_is) at c.requires.low)
    (rw c.next-place.ensures.next at c.next-place.ensures.vacant))

pub invariant_of-self : goal.invariant_of-self
invariant_of-self g c =
    let up = c.up-risen.ensures in
    rw up.heap (after_up c.self.inside.counter.seat c.up-risen.new.self.seat c.next-place.result c.args.cell
    c.up-risen.result
    c.self.invariant up.seat up.knows up.keeps up.risen (rw (← c.self.view_is) at c.requires.inside)
    c.fill.ensures.updates c.next-place.ensures.vacant up.found)

pub returns-clause-given : goal.returns-clause-given
returns-clause-given g c =
    let up = c.up-risen.ensures in
    let all = after_up c.self.inside.counter.seat c.up-risen.new.self.seat {places = c.fill.new.self}
    c.next-place.result c.args.cell c.up-risen.result
    c.self.invariant up.seat up.knows up.keeps up.risen (rw (← c.self.view_is) at c.requires.inside)
    c.fill.ensures.updates c.next-place.ensures.vacant up.found in
    rw (← c.self.view_is, up.heap) record {
      heap = refl;
      thread = up.seat.1;
      place = c.next-place.ensures.next;
      room = rw c.next-place.ensures.next (rw (← c.self.view_is) at c.requires.low);
      vacant = c.self.invariant.placed c.next-place.result ∙ ap cell_held c.next-place.ensures.vacant;
      has = all.placed c.next-place.result ∙ ap cell_held c.fill.ensures.updates.changed;
      others = λ j other. all.placed j ∙ ap cell_held (c.fill.ensures.updates.others j other) ∙ sym (c.self.invariant.placed j);
      counted = record { immortal = up.immortal; own = up.own; risen = c.up-risen.result; shared = up.shared };
      seat = up.seat;
      len = c.fill.ensures.len;
      works = refl;
      rest = record {
        stage = ap (λ (p : Part). p.row.stage) up.knows.part;
        lock = ap (λ (p : Part). p.row.locked) up.knows.part;
        from = refl;
        near = refl;
      };
    }
