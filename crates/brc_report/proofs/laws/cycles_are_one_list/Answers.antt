use Rattle.brc_report.specs.Cycles.{holder_in}
use Rattle.brc_report.proofs.Unique.{cycles_unique}
use Rattle.brc_report.proofs.laws.cycles_are_one_list.Goals as goal

pub returns : goal.returns
returns c = λ remains one other h k. cycles_unique (holder_in remains) remains one other h k
