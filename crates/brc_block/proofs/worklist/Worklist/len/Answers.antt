use Rattle.std.proofs.Common.{◌≡◌, length, arith, ap, sym, ◌∙◌}
use Rattle.brc_block.specs.Blocks.{blocks_of}
use Rattle.brc_block.proofs.worklist.Worklist.len.Goals as goal

pub returns-in-None : goal.returns-in-None
returns-in-None g c =
    let none : length c.loop-rest.rest.now ≡ 0 = ap length (sym c.rest.view_is ∙ ap blocks_of c.in-None.is) in
    omega (arith, none, c.loop-rest.invariant.0, c.loop-rest.invariant.1)
