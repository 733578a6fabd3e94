use Rattle.std.proofs.Common.{subst, ◌∙◌, refl, sym, ap}
use Rattle.brc_table.specs.law.known.Items.{Part}
use Rattle.brc_count.specs.Frames.{IsUnlocked, pushed}
use Rattle.brc_count.specs.Places.{cell_held}
use Rattle.brc_count.proofs.Changes.{after_release, same_cell}
use Rattle.brc_count.proofs.holdings.Holdings.release.Goals as goal

pub invariant_of-self : goal.invariant_of-self
invariant_of-self g c =
    let up = c.give_up.ensures in
    let all = after_release c.self.inside.counter.seat c.give_up.new.self.seat c.args.place c.take-held.result
    c.give_up.result
    c.self.invariant up.seat up.knows up.keeps up.block
    (c.self.invariant.inside c.args.place c.take-held.result c.take-held.ensures.held)
    c.take-held.ensures.updates (subst IsUnlocked (sym c.self.view_is) c.requires.unlocked) in
    rw (up.heap, c.push.ensures) (rw c.in-Some.is at all)

pub invariant_of-self-in_default : goal.invariant_of-self-in_default
invariant_of-self-in_default g c =
    let up = c.give_up.ensures in
    let all = after_release c.self.inside.counter.seat c.give_up.new.self.seat c.args.place c.take-held.result
    c.give_up.result
    c.self.invariant up.seat up.knows up.keeps up.block
    (c.self.invariant.inside c.args.place c.take-held.result c.take-held.ensures.held)
    c.take-held.ensures.updates (subst IsUnlocked (sym c.self.view_is) c.requires.unlocked) in
    rw up.heap (rw c.in_default.is at all)

pub returns-in-Some-clause-released : goal.returns-in-Some-clause-released
returns-in-Some-clause-released g c = λ d there.
    let up = c.give_up.ensures in
    let gone = c.take-held.ensures.updates in
    let was = c.self.invariant.placed c.args.place ∙ ap cell_held c.take-held.ensures.held in
    let all = after_release c.self.inside.counter.seat c.give_up.new.self.seat c.args.place c.take-held.result
    c.give_up.result
    c.self.invariant up.seat up.knows up.keeps up.block
    (c.self.invariant.inside c.args.place c.take-held.result c.take-held.ensures.held) gone
    (subst IsUnlocked (sym c.self.view_is) c.requires.unlocked) in
    rw (← c.self.view_is, up.heap, ← same_cell (sym was ∙ (rw (← c.self.view_is) at there))) record {
      seen = c.take-held.result.risen;
      block = c.give_up.result;
      events = up.told;
      works = c.push.ensures ∙ ap (λ b. pushed b c.self.inside.works) (sym c.in-Some.is);
      vacant = all.placed c.args.place ∙ ap cell_held gone.changed;
      others = λ j other. all.placed j ∙ ap cell_held (gone.others j other) ∙ sym (c.self.invariant.placed j);
      rest = record {
        stage = ap (λ (p : Part). p.row.stage) up.knows.part;
        lock = ap (λ (p : Part). p.row.locked) up.knows.part;
        from = refl;
        near = refl;
      };
    }
