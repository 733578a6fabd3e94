use Rattle.law.proofs.steps.Locking_Steps.{unlocks_cell}
use Rattle.law.proofs.steps.laws.objects_are_locked.Goals as goal

pub returns-clause-unlock : goal.returns-clause-unlock
returns-clause-unlock g c = unlocks_cell
