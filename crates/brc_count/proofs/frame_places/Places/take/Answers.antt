use Rattle.brc_count.proofs.Place_Lists.{vacates}
use Rattle.brc_count.proofs.frame_places.Places.take.Goals as goal

pub invariant_of-self : goal.invariant_of-self
invariant_of-self g c =
    (vacates c.self.inside.slots.items c.self.inside.next c.self.inside.len c.args.place c.self.invariant
    (rw (← c.self.view_is) at c.requires.filled)).links

pub returns-clause-updates : goal.returns-clause-updates
returns-clause-updates g c = rw (← c.self.view_is)
    (vacates c.self.inside.slots.items c.self.inside.next c.self.inside.len c.args.place c.self.invariant
    (rw (← c.self.view_is) at c.requires.filled)).shows

pub returns-clause-len : goal.returns-clause-len
returns-clause-len g c = rw (← c.self.view_is)
    (vacates c.self.inside.slots.items c.self.inside.next c.self.inside.len c.args.place c.self.invariant
    (rw (← c.self.view_is) at c.requires.filled)).count
