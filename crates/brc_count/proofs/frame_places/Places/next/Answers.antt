use Rattle.brc_count.proofs.Place_Lists.{next_is_vacant}
use Rattle.brc_count.proofs.frame_places.Places.next.Goals as goal

pub returns-clause-vacant : goal.returns-clause-vacant
returns-clause-vacant g c = rw (← c.self.view_is)
    (next_is_vacant c.self.inside.slots.items c.self.inside.next c.self.inside.len c.self.invariant)
