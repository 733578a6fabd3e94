use Rattle.law_means.proofs.Fronts_Law.{adds_after, front_adds}
use Rattle.law_means.proofs.laws.lines_only_add.Goals as goal

pub returns-clause-one : goal.returns-clause-one
returns-clause-one g c = adds_after

pub returns-clause-all : goal.returns-clause-all
returns-clause-all g c = front_adds
