use Rattle.law.proofs.private.In_Hands.{never_others, late}
use Rattle.law.proofs.private.laws.private_cells_are_never_asked_for.Goals as goal

pub returns-clause-owned : goal.returns-clause-owned
returns-clause-owned c = never_others

pub returns-clause-hands : goal.returns-clause-hands
returns-clause-hands c = late
