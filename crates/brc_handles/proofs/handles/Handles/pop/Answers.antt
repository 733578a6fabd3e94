use Rattle.brc_handles.proofs.Places.{apart_less, popped_from}
use Rattle.brc_handles.proofs.handles.Handles.pop.Goals as goal

pub invariant_of-self-2 : goal.invariant_of-self-2
invariant_of-self-2 g c = apart_less c.self.inside.slots.items c.pop.new.self.items c.in-Some.last
    c.in-Some.ensures.items c.self.invariant

pub returns-clause-comes : goal.returns-clause-comes
returns-clause-comes g c = popped_from c.args.self.now c.self.inside.slots.items c.pop.new.self.items c.in-Some.last
    c.self.view_is
    c.in-Some.ensures.items c.self.invariant
