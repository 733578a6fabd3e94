use Rattle.brc_handles.proofs.Places.{bare_made}
use Rattle.brc_handles.proofs.handles.Handles.with_places.Goals as goal

pub returns-clause-bare : goal.returns-clause-bare
returns-clause-bare g c = bare_made c.loop-place.slots.items c.loop-place._place c.loop-place.invariant.empty
