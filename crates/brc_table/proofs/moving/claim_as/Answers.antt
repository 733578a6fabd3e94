use Rattle.std.proofs.Common.{◌==◌, ◌/◌, ◌%◌}
use Rattle.std.specs.Prelude.{bit_and}
use Rattle.std.specs.Int.{bit_at}
use Rattle.law.specs.declared.known.word.Word.TheVariants.{FreeWord}
use Rattle.law.specs.steps.Taking.{Claimed}
use Rattle.brc_table.specs.Shown.{shows}
use Rattle.brc_table.proofs.Placing.{step_allowed, free_inside}
use Rattle.brc_table.proofs.moving.claim_as.Goals as goal

pub fetch_and-requires : goal.fetch_and-requires
fetch_and-requires g c =
    let me = c.args.seat.now.me in
    step_allowed shows me (λ there. bit_and there c.args.mask)
    (λ there after. Claimed g.M.Winning.cells me.0 me.1 g.M.Winning.cell there
    (bit_at there (g.M.Winning.cell % 64) == 1) after) (FreeWord (c.args.cell / 64))
    c.table.invariant c.table.view_is c.spot_of-at.ensures c.requires.same
    (free_inside c.args.table.now.cells c.args.cell c.requires.inside) c.requires.allowed
