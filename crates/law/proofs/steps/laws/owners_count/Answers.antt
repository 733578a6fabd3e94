use Rattle.law.proofs.steps.Local_Steps.{counts_up, counts_down, counts_immortal_up, counts_immortal_down}
use Rattle.law.proofs.steps.laws.owners_count.Goals as goal

pub returns-clause-up : goal.returns-clause-up
returns-clause-up g c = counts_up

pub returns-clause-down : goal.returns-clause-down
returns-clause-down g c = counts_down

pub returns-clause-immortal_up : goal.returns-clause-immortal_up
returns-clause-immortal_up g c = counts_immortal_up

pub returns-clause-immortal_down : goal.returns-clause-immortal_down
returns-clause-immortal_down g c = counts_immortal_down
