use Rattle.brc_graph.proofs.ReportAgain.{report_again}
use Rattle.brc_graph.proofs.laws.reports_are_read.Goals as goal

pub returns : goal.returns
returns g c = λ printed ledger live remains cycles all is short.
    report_again printed ledger live remains cycles all is short
