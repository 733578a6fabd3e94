use Rattle.law.proofs.lasting.Ranges_Law.{reached_owners, registered_stays, entries_inside, hand_unmarked, run_limit}
use Rattle.law.proofs.lasting.laws.numbers_name_what_is_there.Goals as goal

pub returns-clause-owners : goal.returns-clause-owners
returns-clause-owners c = λ h q reached. reached_owners h reached q

pub returns-clause-threads : goal.returns-clause-threads
returns-clause-threads c = registered_stays

pub returns-clause-entries : goal.returns-clause-entries
returns-clause-entries c = entries_inside

pub returns-clause-hands : goal.returns-clause-hands
returns-clause-hands c = hand_unmarked

pub returns-clause-limit : goal.returns-clause-limit
returns-clause-limit c = run_limit
