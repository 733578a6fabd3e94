use Rattle.std.proofs.Common.{bit_or}
use Rattle.brc_table.specs.Shown.{shows}
use Rattle.brc_table.proofs.Placing.{step_told}
use Rattle.brc_table.proofs.machine.or_as.Goals as goal

pub fetch_or-requires : goal.fetch_or-requires
fetch_or-requires g c =
    step_told shows c.args.seat.now.me (λ there. bit_or there c.args.bits) (g.M.ToldItem.item) c.args.word
    c.table.invariant c.table.view_is c.spot_of-at.ensures c.requires.same c.requires.inside c.requires.allowed
