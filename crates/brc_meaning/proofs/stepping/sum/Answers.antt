use Rattle.brc_meaning.proofs.Sums.{sum_found, sum_refused}
use Rattle.brc_meaning.proofs.stepping.sum.Goals as goal

pub returns-in-Some : goal.returns-in-Some
returns-in-Some c =
    sum_found c.args.first c.args.second c.in-Some.sum c.ranges.first c.ranges.second (c.in-Some.ensures).0
    (c.in-Some.ensures).1

pub returns-in-None : goal.returns-in-None
returns-in-None c = sum_refused c.args.first c.args.second c.ranges.first c.ranges.second c.in-None.ensures
