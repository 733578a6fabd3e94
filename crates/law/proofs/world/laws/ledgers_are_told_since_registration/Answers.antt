use Rattle.law.proofs.world.Recounting.{run_histories_since}
use Rattle.law.proofs.world.laws.ledgers_are_told_since_registration.Goals as goal

pub returns : goal.returns
returns c = run_histories_since
