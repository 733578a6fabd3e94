use Rattle.law.proofs.living.Quiet_Items.{quiet_places, quiet_allocs, quiet_payloads, was_alive}
use Rattle.law.proofs.living.laws.quiet_items_only_let_go.Goals as goal

pub returns-clause-places : goal.returns-clause-places
returns-clause-places c = quiet_places

pub returns-clause-allocs : goal.returns-clause-allocs
returns-clause-allocs c = quiet_allocs

pub returns-clause-payloads : goal.returns-clause-payloads
returns-clause-payloads c = quiet_payloads

pub returns-clause-alive : goal.returns-clause-alive
returns-clause-alive c = was_alive
