use Rattle.law.proofs.steps.Untying_Steps.{unties_offered, unties_popped}
use Rattle.law.proofs.steps.laws.objects_are_merged.Goals as goal

pub returns-clause-offered : goal.returns-clause-offered
returns-clause-offered g c = unties_offered

pub returns-clause-popped : goal.returns-clause-popped
returns-clause-popped g c = unties_popped
