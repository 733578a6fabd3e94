use Rattle.law.proofs.rule.Keys_Law.{keys_at_home, keys_found, keys_of_block, keys_of_seat}
use Rattle.law.proofs.rule.laws.no_key_stands_twice.Goals as goal

pub returns-clause-home : goal.returns-clause-home
returns-clause-home g c = keys_at_home

pub returns-clause-locked : goal.returns-clause-locked
returns-clause-locked g c = keys_found

pub returns-clause-blocks : goal.returns-clause-blocks
returns-clause-blocks g c = keys_of_block

pub returns-clause-seats : goal.returns-clause-seats
returns-clause-seats g c = keys_of_seat
