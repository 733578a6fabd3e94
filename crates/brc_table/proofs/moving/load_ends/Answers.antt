use Rattle.law.specs.world.Steps.{takes_block}
use Rattle.law.specs.declared.known.word.Field.TheVariants.{Shared}
use Rattle.law.specs.declared.known.word.Word.TheVariants.{Of}
use Rattle.law.specs.known.Items.{cell_told}
use Rattle.law.specs.steps.Taking.{EndedObject}
use Rattle.brc_table.specs.Shown.{shows}
use Rattle.brc_table.proofs.Placing.{step_allowed}
use Rattle.brc_table.proofs.moving.load_ends.Goals as goal

pub load-requires : goal.load-requires
load-requires g c =
    let me = c.args.seat.now.me in
    let s = g.M.Ending.step in
    step_allowed shows me (λ there. there)
    (λ there after. EndedObject shows g.M.Ending.cells me.0 me.1 s g.M.Ending.cell there
    (takes_block s (cell_told s there))
    after) (Of Shared c.args.cell)
    c.table.invariant c.table.view_is c.spot_of-at.ensures c.requires.same c.requires.inside c.requires.allowed
