use Rattle.std.proofs.Common.{◌≡◌, bit_or}
use Rattle.law.specs.rule.Rule.{with_told}
use Rattle.law.specs.steps.Taking.{AreQueued}
use Rattle.brc_table.specs.Shown.{shows}
use Rattle.brc_table.proofs.Placing.{step_allowed}
use Rattle.brc_table.proofs.draining.take_and_close.Goals as goal

pub fetch_or-requires : goal.fetch_or-requires
fetch_or-requires g c =
    let me = c.args.seat.now.me in
    step_allowed shows me (λ there. bit_or there 9223372036854775808)
    (λ there after. (after ≡ (with_told (g.M.Draining.item there) me.0, me.1)) × AreQueued g.M.Draining.cells
    g.M.Draining.word there) c.args.word
    c.table.invariant c.table.view_is c.spot_of-at.ensures c.requires.same c.requires.inside c.requires.allowed
