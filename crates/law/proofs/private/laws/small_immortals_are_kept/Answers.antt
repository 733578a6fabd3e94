use Rattle.law.proofs.private.Small_Immortals.{keeps_small}
use Rattle.law.proofs.private.laws.small_immortals_are_kept.Goals as goal

pub returns : goal.returns
returns c = keeps_small
