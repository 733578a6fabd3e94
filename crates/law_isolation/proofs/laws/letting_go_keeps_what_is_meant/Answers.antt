use Rattle.law_isolation.proofs.Quiet_Frames.{means_quietly, means_waited, means_same}
use Rattle.law_isolation.proofs.Dropping_References.{means_let_go, means_worked, means_polled}
use Rattle.law_isolation.proofs.laws.letting_go_keeps_what_is_meant.Goals as goal

pub returns-clause-quiet : goal.returns-clause-quiet
returns-clause-quiet g c = means_quietly

pub returns-clause-released : goal.returns-clause-released
returns-clause-released g c = means_let_go

pub returns-clause-worked : goal.returns-clause-worked
returns-clause-worked g c = means_worked

pub returns-clause-polled : goal.returns-clause-polled
returns-clause-polled g c = means_polled

pub returns-clause-waited : goal.returns-clause-waited
returns-clause-waited g c = means_waited

pub returns-clause-same : goal.returns-clause-same
returns-clause-same g c = means_same
