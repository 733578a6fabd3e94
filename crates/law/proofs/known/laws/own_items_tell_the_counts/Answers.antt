use Rattle.law.proofs.known.Counts_Law.{counts_are_told}
use Rattle.law.proofs.known.laws.own_items_tell_the_counts.Goals as goal

pub returns : goal.returns
returns c = counts_are_told
