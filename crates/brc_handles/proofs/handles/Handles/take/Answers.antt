use Rattle.brc_handles.proofs.Places.{taken_from}
use Rattle.brc_handles.proofs.handles.Handles.take.Goals as goal

pub returns-clause-comes : goal.returns-clause-comes
returns-clause-comes g c = taken_from c.args.self.now c.self.inside.slots.items c.args.index c.index_mut.result.now
    c.take.result
    c.take.new.self c.self.view_is c.requires.inside c.self.invariant c.index_mut.ensures.value c.take.ensures.value
    c.take.ensures.after
