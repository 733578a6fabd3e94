use Rattle.std.proofs.Common.{rules}
use Rattle.brc_biased.specs.Released.{MergedAtZero}
use Rattle.brc_biased.proofs.own.end_own.Goals as goal

pub returns-clause-told : goal.returns-clause-told
returns-clause-told g c = MergedAtZero c.see_zero-number.result.number (search rules)
