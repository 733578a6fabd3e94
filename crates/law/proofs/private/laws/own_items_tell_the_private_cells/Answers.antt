use Rattle.law.proofs.private.Private_Law.{private_cells_stay, others_never_mean}
use Rattle.law.proofs.private.laws.own_items_tell_the_private_cells.Goals as goal

pub returns-clause-apart : goal.returns-clause-apart
returns-clause-apart c = private_cells_stay

pub returns-clause-alone : goal.returns-clause-alone
returns-clause-alone c = others_never_mean
