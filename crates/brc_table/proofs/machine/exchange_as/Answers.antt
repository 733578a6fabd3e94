use Rattle.brc_table.specs.Shown.{shows}
use Rattle.brc_table.proofs.Placing.{step_exchanged}
use Rattle.brc_table.proofs.machine.exchange_as.Goals as goal

pub compare_exchange-requires : goal.compare_exchange-requires
compare_exchange-requires g c =
    step_exchanged shows c.args.seat.now.me g.M.Won.word c.args.old c.args.new g.M.Won.item c.args.word
    c.table.invariant c.table.view_is c.spot_of-at.ensures c.requires.same c.requires.inside c.requires.allowed
