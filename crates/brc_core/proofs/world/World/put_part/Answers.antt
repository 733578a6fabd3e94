use Rattle.brc_core.proofs.Eaches.{found_more}
use Rattle.brc_core.proofs.world.World.put_part.Goals as goal

pub loop-number-preserved : goal.loop-number-preserved
loop-number-preserved g c = found_more _ _ _ _ _ c.loop-number.invariant (cc c.in_ok-put_if.ensures)
