use Rattle.law_isolation.proofs.Retaining.{means_retained}
use Rattle.law_isolation.proofs.Making_Objects.{means_made}
use Rattle.law_isolation.proofs.Making_Things.{means_integer}
use Rattle.law_isolation.proofs.laws.handles_have_what_they_are_given.Goals as goal

pub returns-clause-retained : goal.returns-clause-retained
returns-clause-retained g c = means_retained

pub returns-clause-made : goal.returns-clause-made
returns-clause-made g c = means_made

pub returns-clause-integer : goal.returns-clause-integer
returns-clause-integer g c = means_integer
