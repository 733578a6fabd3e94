use Rattle.law.proofs.world.Reached.{run_histories}
use Rattle.law.proofs.world.laws.lives_are_told_by_the_run.Goals as goal

pub returns : goal.returns
returns c = run_histories
