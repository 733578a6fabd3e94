use Rattle.brc_model.proofs.Exchanging.{Same-put}
use Rattle.brc_model.proofs.exchanges.put.Goals as goal

pub returns-clause-put : goal.returns-clause-put
returns-clause-put g c =
    rw (c.leave.ensures.left, c.push_reserved.ensures.items, c.in_ok-reserve.ensures.items)
    (Same-put c.args.facts.now.items c.args.container c.args.thread c.args.«from» c.args.cell)
