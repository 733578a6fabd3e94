use Rattle.law.proofs.known.Owned_Law.{counted_alive, uncounted_dead, all_dead}
use Rattle.law.proofs.known.laws.own_counts_tell_what_is_owned.Goals as goal

pub returns-clause-alive : goal.returns-clause-alive
returns-clause-alive c = counted_alive

pub returns-clause-dead : goal.returns-clause-dead
returns-clause-dead c = uncounted_dead

pub returns-clause-all_dead : goal.returns-clause-all_dead
returns-clause-all_dead c = all_dead
