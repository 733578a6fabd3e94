use Rattle.law_means.proofs.Within_Law.{within_start, within_after, within_lines}
use Rattle.law_means.proofs.laws.lines_stay_within.Goals as goal

pub returns-clause-begins : goal.returns-clause-begins
returns-clause-begins g c = within_start

pub returns-clause-one : goal.returns-clause-one
returns-clause-one g c = λ part step s within. within_after part s within step

pub returns-clause-all : goal.returns-clause-all
returns-clause-all g c = within_lines
