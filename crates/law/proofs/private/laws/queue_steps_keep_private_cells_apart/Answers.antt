use Rattle.law.proofs.private.Queue_Steps.{apart_kept}
use Rattle.law.proofs.private.laws.queue_steps_keep_private_cells_apart.Goals as goal

pub returns : goal.returns
returns c = apart_kept
