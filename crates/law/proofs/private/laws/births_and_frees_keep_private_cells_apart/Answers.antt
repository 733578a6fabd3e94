use Rattle.law.proofs.private.Births_Frees.{own_birth, own_free}
use Rattle.law.proofs.private.laws.births_and_frees_keep_private_cells_apart.Goals as goal

pub returns-clause-birth : goal.returns-clause-birth
returns-clause-birth c = own_birth

pub returns-clause-free : goal.returns-clause-free
returns-clause-free c = own_free
