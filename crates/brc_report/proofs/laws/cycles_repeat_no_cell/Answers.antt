use Rattle.brc_report.proofs.Unique.{cycle_apart}
use Rattle.brc_report.proofs.laws.cycles_repeat_no_cell.Goals as goal

pub returns : goal.returns
returns c = λ holder first others h cell. cycle_apart holder first others h cell
