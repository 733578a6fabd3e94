use Rattle.law.proofs.known.Queued_Law.{frees_are_few}
use Rattle.law.proofs.known.laws.own_items_tell_few_frees.Goals as goal

pub returns : goal.returns
returns c = frees_are_few
