use Rattle.brc_handles.proofs.Places.{put_into, exchanged_with}
use Rattle.brc_handles.proofs.handles.Handles.put.Goals as goal

pub returns-clause-comes : goal.returns-clause-comes
returns-clause-comes g c = put_into c.args.self.now c.self.inside.slots.items c.args.index c.index_mut.result.now
    c.replace.result
    c.replace.new.self c.args.handle c.self.view_is c.requires.inside c.index_mut.ensures.value c.replace.ensures.value
    c.replace.ensures.after

pub returns-clause-exchanges : goal.returns-clause-exchanges
returns-clause-exchanges g c = exchanged_with c.args.self.now c.self.inside.slots.items c.args.index
    c.index_mut.result.now
    c.replace.result c.replace.new.self c.args.handle c.self.view_is c.requires.inside c.self.invariant c.requires.apart
    c.index_mut.ensures.value c.replace.ensures.value c.replace.ensures.after
