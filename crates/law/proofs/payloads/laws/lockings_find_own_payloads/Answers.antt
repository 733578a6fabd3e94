use Rattle.law.proofs.payloads.Payloads_Law.{own_locks, has_own, seats_own_locks, seats_have_own}
use Rattle.law.proofs.payloads.laws.lockings_find_own_payloads.Goals as goal

pub returns-clause-found : goal.returns-clause-found
returns-clause-found g c = λ n limit run t options. own_locks n limit options run t

pub returns-clause-locked : goal.returns-clause-locked
returns-clause-locked g c = λ n limit run t cell options. has_own n limit options run t cell

pub returns-clause-seats : goal.returns-clause-seats
returns-clause-seats g c = seats_own_locks

pub returns-clause-guards : goal.returns-clause-guards
returns-clause-guards g c = seats_have_own
