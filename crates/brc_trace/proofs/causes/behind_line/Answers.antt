use Rattle.brc_trace.proofs.CauseLaws.{pieces_behind, nothing_behind}
use Rattle.brc_trace.proofs.causes.behind_line.Goals as goal

pub returns-in-Some : goal.returns-in-Some
returns-in-Some c = pieces_behind c.args.text.now c.in-Some.behind.now (rw c.in-Some.is at c.first_line.ensures.behind)

pub returns-in-None : goal.returns-in-None
returns-in-None c = nothing_behind c.args.text.now (rw c.in-None.is at c.first_line.ensures.behind)
