use Rattle.law_isolation.proofs.Calls_Mean.{pop_means, get_means, receive_means, find_means, delete_means}
use Rattle.law_isolation.proofs.containers.calls_hand_out_what_is_meant.Goals as goal

pub returns-clause-pop : goal.returns-clause-pop
returns-clause-pop g c = pop_means

pub returns-clause-get : goal.returns-clause-get
returns-clause-get g c = get_means

pub returns-clause-receive : goal.returns-clause-receive
returns-clause-receive g c = receive_means

pub returns-clause-find : goal.returns-clause-find
returns-clause-find g c = find_means

pub returns-clause-delete : goal.returns-clause-delete
returns-clause-delete g c = delete_means
