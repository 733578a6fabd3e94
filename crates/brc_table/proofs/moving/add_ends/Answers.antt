use Rattle.std.proofs.Common.{◌+◌, ◌%◌, ◌^◌}
use Rattle.law.specs.world.Steps.{takes_block}
use Rattle.law.specs.declared.known.word.Field.TheVariants.{Shared}
use Rattle.law.specs.declared.known.word.Word.TheVariants.{Of}
use Rattle.law.specs.known.Items.{cell_told}
use Rattle.law.specs.steps.Taking.{EndedObject}
use Rattle.brc_table.specs.Shown.{shows}
use Rattle.brc_table.proofs.Placing.{step_allowed}
use Rattle.brc_table.proofs.moving.add_ends.Goals as goal

pub fetch_add-requires : goal.fetch_add-requires
fetch_add-requires g c =
    let me = c.args.seat.now.me in
    let s = g.M.Summing.step in
    step_allowed shows me (λ there. (there + c.args.more) % 2 ^ 64)
    (λ there after. EndedObject shows g.M.Summing.cells me.0 me.1 s g.M.Summing.cell
    ((there + g.M.Summing.more) % 2 ^ 64)
    (takes_block s (cell_told s ((there + g.M.Summing.more) % 2 ^ 64))) after) (Of Shared c.args.cell)
    c.table.invariant c.table.view_is c.spot_of-at.ensures c.requires.same c.requires.inside c.requires.allowed
