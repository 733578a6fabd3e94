use Rattle.brc_count.proofs.Place_Lists.{filled_low, replaces}
use Rattle.brc_count.proofs.frame_places.Places.replace.Goals as goal

pub invariant_of-self : goal.invariant_of-self
invariant_of-self g c =
    (replaces c.self.inside.slots.items c.self.inside.next c.self.inside.len c.args.place c.of.result c.args.held
    c.self.invariant (rw (← c.self.view_is) at c.requires.filled) c.of.ensures).links

pub returns-clause-updates : goal.returns-clause-updates
returns-clause-updates g c = rw (← c.self.view_is)
    (replaces c.self.inside.slots.items c.self.inside.next c.self.inside.len c.args.place c.of.result c.args.held
    c.self.invariant (rw (← c.self.view_is) at c.requires.filled) c.of.ensures).shows

pub returns-clause-len : goal.returns-clause-len
returns-clause-len g c = rw (← c.self.view_is)
    (replaces c.self.inside.slots.items c.self.inside.next c.self.inside.len c.args.place c.of.result c.args.held
    c.self.invariant (rw (← c.self.view_is) at c.requires.filled) c.of.ensures).count

pub returns-clause-spare : goal.returns-clause-spare
returns-clause-spare g c = rw (← c.self.view_is)
    (replaces c.self.inside.slots.items c.self.inside.next c.self.inside.len c.args.place c.of.result c.args.held
    c.self.invariant (rw (← c.self.view_is) at c.requires.filled) c.of.ensures).spare

pub returns-clause-low : goal.returns-clause-low
returns-clause-low g c =
    filled_low c.self.inside.slots.items c.self.inside.next c.self.inside.len c.args.place c.self.invariant
    (rw (← c.self.view_is) at c.requires.filled)
