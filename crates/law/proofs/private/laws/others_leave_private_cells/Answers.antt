use Rattle.law.proofs.private.Others_Leave.{others_leave}
use Rattle.law.proofs.private.laws.others_leave_private_cells.Goals as goal

pub returns : goal.returns
returns c = others_leave
