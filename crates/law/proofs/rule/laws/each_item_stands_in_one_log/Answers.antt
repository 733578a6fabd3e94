use Rattle.law.proofs.rule.Once.{rule_logs, rule_ended, rule_root, rule_once}
use Rattle.law.proofs.rule.laws.each_item_stands_in_one_log.Goals as goal

pub returns-clause-seats : goal.returns-clause-seats
returns-clause-seats g c = rule_logs

pub returns-clause-ended : goal.returns-clause-ended
returns-clause-ended g c = rule_ended

pub returns-clause-root : goal.returns-clause-root
returns-clause-root g c = rule_root

pub returns-clause-once : goal.returns-clause-once
returns-clause-once g c = rule_once
