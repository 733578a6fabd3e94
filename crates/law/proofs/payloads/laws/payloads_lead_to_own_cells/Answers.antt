use Rattle.law.proofs.payloads.Leading.{holds_own, seats_hold_own}
use Rattle.law.proofs.payloads.laws.payloads_lead_to_own_cells.Goals as goal

pub returns-clause-locked : goal.returns-clause-locked
returns-clause-locked g c = λ n limit run t cell payload options. holds_own n limit options run t cell payload

pub returns-clause-guards : goal.returns-clause-guards
returns-clause-guards g c = seats_hold_own
