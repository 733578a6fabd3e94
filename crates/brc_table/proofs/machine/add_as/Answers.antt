use Rattle.std.proofs.Common.{◌+◌, ◌%◌, ◌^◌}
use Rattle.brc_table.specs.Shown.{shows}
use Rattle.brc_table.proofs.Placing.{step_told}
use Rattle.brc_table.proofs.machine.add_as.Goals as goal

pub fetch_add-requires : goal.fetch_add-requires
fetch_add-requires g c =
    step_told shows c.args.seat.now.me (λ there. (there + c.args.more) % 2 ^ 64) (g.M.ToldItem.item) c.args.word
    c.table.invariant c.table.view_is c.spot_of-at.ensures c.requires.same c.requires.inside c.requires.allowed
