use Rattle.std.proofs.Common.{◌≡◌, None, subst, sym}
use Rattle.brc_count.specs.Places.{held_at}
use Rattle.brc_count.proofs.Place_Lists.{shown, next_is_vacant, fills}
use Rattle.brc_count.proofs.frame_places.Places.fill.Goals as goal

pub invariant_of-self : goal.invariant_of-self
invariant_of-self g c =
    (fills c.self.inside.slots.items c.self.inside.next c.self.inside.len c.args.place c.index.result.now c.of.result
    c.args.held (rw (← c.self.view_is) at c.requires.next) c.self.invariant (rw (← c.self.view_is) at c.requires.spare)
    c.index.ensures c.of.ensures).links

pub returns-clause-vacant : goal.returns-clause-vacant
returns-clause-vacant g c = rw (← c.self.view_is)
    (subst (λ k. held_at (shown c.self.inside.slots.items c.self.inside.next) k ≡ None)
    (sym (rw (← c.self.view_is) at c.requires.next))
    (next_is_vacant c.self.inside.slots.items c.self.inside.next c.self.inside.len c.self.invariant))

pub returns-clause-updates : goal.returns-clause-updates
returns-clause-updates g c = rw (← c.self.view_is)
    (fills c.self.inside.slots.items c.self.inside.next c.self.inside.len c.args.place c.index.result.now c.of.result
    c.args.held (rw (← c.self.view_is) at c.requires.next) c.self.invariant (rw (← c.self.view_is) at c.requires.spare)
    c.index.ensures c.of.ensures).shows

pub returns-clause-len : goal.returns-clause-len
returns-clause-len g c = rw (← c.self.view_is)
    (fills c.self.inside.slots.items c.self.inside.next c.self.inside.len c.args.place c.index.result.now c.of.result
    c.args.held (rw (← c.self.view_is) at c.requires.next) c.self.invariant (rw (← c.self.view_is) at c.requires.spare)
    c.index.ensures c.of.ensures).count
