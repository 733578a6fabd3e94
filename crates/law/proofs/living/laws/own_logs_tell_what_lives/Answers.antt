use Rattle.law.proofs.living.Own_Logs_Law.{own_log, seats_own_log}
use Rattle.law.proofs.living.laws.own_logs_tell_what_lives.Goals as goal

pub returns-clause-runs : goal.returns-clause-runs
returns-clause-runs g c = λ n limit run t options. own_log n limit options run t

pub returns-clause-seats : goal.returns-clause-seats
returns-clause-seats g c = seats_own_log
