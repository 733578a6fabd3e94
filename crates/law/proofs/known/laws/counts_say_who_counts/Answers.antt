use Rattle.law.proofs.known.Counts_Law.{uncounted, counted}
use Rattle.law.proofs.known.laws.counts_say_who_counts.Goals as goal

pub returns-clause-none : goal.returns-clause-none
returns-clause-none c = uncounted

pub returns-clause-some : goal.returns-clause-some
returns-clause-some c = counted
