use Rattle.law.proofs.moves.Allowing.{reached_moves}
use Rattle.law.proofs.moves.laws.events_make_their_moves.Goals as goal

pub returns : goal.returns
returns c = reached_moves (Unit {0})
