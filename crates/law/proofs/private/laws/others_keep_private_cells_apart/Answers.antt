use Rattle.law.proofs.private.Others_Steps.{others_step}
use Rattle.law.proofs.private.laws.others_keep_private_cells_apart.Goals as goal

pub returns : goal.returns
returns c = others_step
