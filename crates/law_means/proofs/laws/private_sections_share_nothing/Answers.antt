use Rattle.law_means.proofs.Private_Lines.{private_lines}
use Rattle.law_means.proofs.laws.private_sections_share_nothing.Goals as goal

pub returns : goal.returns
returns g c = private_lines
