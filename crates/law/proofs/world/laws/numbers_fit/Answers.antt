use Rattle.law.proofs.world.Sizes.{reached_count_range, reached_births, reached_entries}
use Rattle.law.proofs.world.laws.numbers_fit.Goals as goal

pub returns-clause-counts : goal.returns-clause-counts
returns-clause-counts c = reached_count_range

pub returns-clause-births : goal.returns-clause-births
returns-clause-births c = reached_births

pub returns-clause-entries : goal.returns-clause-entries
returns-clause-entries c = reached_entries
