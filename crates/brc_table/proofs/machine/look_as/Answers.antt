use Rattle.brc_table.specs.Shown.{shows}
use Rattle.brc_table.proofs.Placing.{step_told}
use Rattle.brc_table.proofs.machine.look_as.Goals as goal

pub load-requires : goal.load-requires
load-requires g c =
    step_told shows c.args.seat.now.me (λ there. there) (g.M.ToldItem.item) c.args.word
    c.table.invariant c.table.view_is c.spot_of-at.ensures c.requires.same c.requires.inside c.requires.allowed
