use Rattle.brc_core.proofs.Closing.{reached_closers}
use Rattle.brc_core.proofs.world.World.refusal.Goals as goal

pub refusal-requires : goal.refusal-requires
refusal-requires g c = record { closers = reached_closers c.self.inside.tables c.self.invariant }
