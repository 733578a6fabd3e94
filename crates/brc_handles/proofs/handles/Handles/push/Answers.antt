use Rattle.brc_handles.proofs.Places.{pushed_to}
use Rattle.brc_handles.proofs.handles.Handles.push.Goals as goal

pub returns-clause-comes : goal.returns-clause-comes
returns-clause-comes g c = pushed_to c.args.self.now c.self.inside.slots.items c.reserve.new.self.items
    c.push_reserved.new.self.items
    c.args.handle c.self.view_is c.reserve.ensures.items c.push_reserved.ensures.items
