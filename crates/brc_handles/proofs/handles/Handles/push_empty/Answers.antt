use Rattle.brc_handles.proofs.Places.{empty_more}
use Rattle.brc_handles.proofs.handles.Handles.push_empty.Goals as goal

pub returns-clause-count : goal.returns-clause-count
returns-clause-count g c = empty_more c.args.self.now c.self.inside.slots.items c.reserve.new.self.items
    c.push_reserved.new.self.items c.self.view_is c.reserve.ensures.items c.push_reserved.ensures.items
