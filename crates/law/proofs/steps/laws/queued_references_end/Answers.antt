use Rattle.law.proofs.steps.Last_Steps.{ends_popped, ends_left, ends_nobodys}
use Rattle.law.proofs.steps.laws.queued_references_end.Goals as goal

pub returns-clause-popped : goal.returns-clause-popped
returns-clause-popped g c = ends_popped

pub returns-clause-nobodys : goal.returns-clause-nobodys
returns-clause-nobodys g c = ends_nobodys

pub returns-clause-left : goal.returns-clause-left
returns-clause-left g c = ends_left
