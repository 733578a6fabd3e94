use Rattle.std.proofs.Common.{◌≡◌, ◌+◌, ◌%◌, ◌^◌}
use Rattle.law.specs.rule.Rule.{with_told}
use Rattle.law.specs.steps.Taking.{CountsSome}
use Rattle.brc_table.specs.Shown.{shows}
use Rattle.brc_table.proofs.Placing.{step_allowed}
use Rattle.brc_table.proofs.machine.add_up.Goals as goal

pub fetch_add-requires : goal.fetch_add-requires
fetch_add-requires g c =
    let me = c.args.seat.now.me in
    step_allowed shows me (λ there. (there + c.args.more) % 2 ^ 64)
    (λ there after. (after ≡ (with_told (g.M.Summed.item there) me.0, me.1)) × CountsSome
    ((there + g.M.Summed.more) % 2 ^ 64)) c.args.word
    c.table.invariant c.table.view_is c.spot_of-at.ensures c.requires.same c.requires.inside c.requires.allowed
