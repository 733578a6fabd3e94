use Rattle.brc_meaning.proofs.WholeSteps.{whole_from_start}
use Rattle.brc_meaning.proofs.laws.references_mean_objects.Goals as goal

pub returns : goal.returns
returns g c = λ lines. whole_from_start lines
