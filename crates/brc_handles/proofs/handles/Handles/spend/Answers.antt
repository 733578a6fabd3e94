use Rattle.brc_handles.proofs.Places.{bare_of, none_less}
use Rattle.brc_handles.proofs.handles.Handles.spend.Goals as goal

pub loop-slot-preserved : goal.loop-slot-preserved
loop-slot-preserved g c = none_less c.loop-slot.slots.items c.pop.new.self.items _ c.in-Some.ensures.items
    c.loop-slot.invariant

pub returns : goal.returns
returns g c = record { bare = bare_of c.args.self c.requires.empty }
