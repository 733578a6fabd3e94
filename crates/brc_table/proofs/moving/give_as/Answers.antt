use Rattle.std.proofs.Common.{◌≡◌}
use Rattle.atomic_table.specs.Table.{rest}
use Rattle.law.specs.rule.Rule.{with_told}
use Rattle.brc_table.specs.Moving.{FewFrees}
use Rattle.brc_table.specs.Shown.{shows}
use Rattle.brc_table.proofs.Placing.{step_allowed}
use Rattle.brc_table.proofs.moving.give_as.Goals as goal

pub store-requires : goal.store-requires
store-requires g c =
    let me = c.args.seat.now.me in
    step_allowed shows me (λ _. c.args.new)
    (λ _ after. (after ≡ (with_told (g.M.Giving.item c.args.new) me.0, rest me.1)) × FewFrees g.M.Giving.cells
    after.0.log) c.args.word
    c.table.invariant c.table.view_is c.spot_of-at.ensures c.requires.same c.requires.inside c.requires.allowed
