use Rattle.law.proofs.world.Reached.{reached_headline}
use Rattle.law.proofs.world.laws.counts_are_references.Goals as goal

pub returns : goal.returns
returns c = reached_headline
