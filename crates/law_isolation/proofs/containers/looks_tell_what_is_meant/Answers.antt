use Rattle.law_isolation.proofs.Calls_Mean.{kind_means, len_means, int_means, text_means}
use Rattle.law_isolation.proofs.containers.looks_tell_what_is_meant.Goals as goal

pub returns-clause-kind : goal.returns-clause-kind
returns-clause-kind g c = kind_means

pub returns-clause-len : goal.returns-clause-len
returns-clause-len g c = len_means

pub returns-clause-int : goal.returns-clause-int
returns-clause-int g c = int_means

pub returns-clause-text : goal.returns-clause-text
returns-clause-text g c = text_means
