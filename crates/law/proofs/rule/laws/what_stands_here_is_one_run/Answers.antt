use Rattle.law.proofs.rule.Knowing.{kept_reached, kept_headline, kept_part}
use Rattle.law.proofs.rule.laws.what_stands_here_is_one_run.Goals as goal

pub returns-clause-reached : goal.returns-clause-reached
returns-clause-reached g c = kept_reached

pub returns-clause-headline : goal.returns-clause-headline
returns-clause-headline g c = kept_headline

pub returns-clause-own : goal.returns-clause-own
returns-clause-own g c = kept_part
