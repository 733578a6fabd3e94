use Rattle.law_isolation.proofs.Calls_Mean.{push_means, send_means, set_means, put_means}
use Rattle.law_isolation.proofs.containers.calls_put_in_what_is_meant.Goals as goal

pub returns-clause-push : goal.returns-clause-push
returns-clause-push g c = push_means

pub returns-clause-send : goal.returns-clause-send
returns-clause-send g c = send_means

pub returns-clause-set : goal.returns-clause-set
returns-clause-set g c = set_means

pub returns-clause-put : goal.returns-clause-put
returns-clause-put g c base old new registers s own container h there value r means apart =
    put_means base old new registers s own container h there value r means apart _

pub returns-clause-set_key : goal.returns-clause-set_key
returns-clause-set_key g c base old new registers s own container h there value r means apart =
    put_means base old new registers s own container h there value r means apart _
