use Rattle.brc_table.specs.Shown.{shows}
use Rattle.brc_table.proofs.Placing.{step_told}
use Rattle.brc_table.proofs.machine.store_as.Goals as goal

pub store-requires : goal.store-requires
store-requires g c =
    step_told shows c.args.seat.now.me (λ _. c.args.new) (λ _. g.M.ToldItem.item c.args.new) c.args.word
    c.table.invariant c.table.view_is c.spot_of-at.ensures c.requires.same c.requires.inside c.requires.allowed
