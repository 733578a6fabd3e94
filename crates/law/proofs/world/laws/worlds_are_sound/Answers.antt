use Rattle.law.proofs.world.Reached.{reached_sound}
use Rattle.law.proofs.world.laws.worlds_are_sound.Goals as goal

pub returns : goal.returns
returns c = reached_sound
