use Rattle.brc_report.specs.Cycles.{holder_in}
use Rattle.brc_report.proofs.Unique.{cycle_listed}
use Rattle.brc_report.proofs.laws.every_cycle_is_listed.Goals as goal

pub returns : goal.returns
returns c = λ remains cycles first others h cycle.
    cycle_listed (holder_in remains) remains cycles first cycle.closed.next others h cycle.closed.held cycle
