use Rattle.brc_table.specs.Shown.{shows}
use Rattle.brc_table.proofs.Placing.{step_found}
use Rattle.brc_table.proofs.machine.look_within.Goals as goal

pub load-requires : goal.load-requires
load-requires g c =
    step_found shows c.args.seat.now.me g.M.Bounded.word g.M.Bounded.known g.M.Bounded.most c.args.word
    c.table.invariant c.table.view_is c.spot_of-at.ensures c.requires.same c.requires.inside c.requires.allowed
