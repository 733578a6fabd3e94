use Rattle.law.proofs.private.Root_Steps.{apart_registered, apart_registered_again, apart_gathered}
use Rattle.law.proofs.private.laws.root_steps_keep_private_cells_apart.Goals as goal

pub returns-clause-registers : goal.returns-clause-registers
returns-clause-registers c = apart_registered

pub returns-clause-again : goal.returns-clause-again
returns-clause-again c = apart_registered_again

pub returns-clause-gathers : goal.returns-clause-gathers
returns-clause-gathers c = apart_gathered
