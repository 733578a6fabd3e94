use Rattle.law.proofs.private.Own_Steps.{own_unlock, own_offer, own_plain}
use Rattle.law.proofs.private.laws.own_steps_keep_private_cells_apart.Goals as goal

pub returns-clause-unlock : goal.returns-clause-unlock
returns-clause-unlock c = own_unlock

pub returns-clause-offer : goal.returns-clause-offer
returns-clause-offer c = own_offer

pub returns-clause-plain : goal.returns-clause-plain
returns-clause-plain c = own_plain
