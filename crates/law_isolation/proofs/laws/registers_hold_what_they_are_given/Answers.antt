use Rattle.law_isolation.proofs.Registers_Kept.{means_begins, means_held, besides_held, means_taken}
use Rattle.law_isolation.proofs.laws.registers_hold_what_they_are_given.Goals as goal

pub returns-clause-begins : goal.returns-clause-begins
returns-clause-begins g c = means_begins

pub returns-clause-held : goal.returns-clause-held
returns-clause-held g c = means_held

pub returns-clause-gone : goal.returns-clause-gone
returns-clause-gone g c = besides_held

pub returns-clause-taken : goal.returns-clause-taken
returns-clause-taken g c = means_taken
