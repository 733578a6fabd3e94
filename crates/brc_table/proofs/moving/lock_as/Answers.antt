use Rattle.std.proofs.Common.{◌==◌}
use prog.Atomic.{either}
use Rattle.law.specs.declared.known.word.Field.TheVariants.{Mutex}
use Rattle.law.specs.declared.known.word.Word.TheVariants.{Of}
use Rattle.law.specs.steps.Taking.{LockedOrBusy}
use Rattle.brc_table.specs.Shown.{shows}
use Rattle.brc_table.proofs.Placing.{step_allowed}
use Rattle.brc_table.proofs.moving.lock_as.Goals as goal

pub compare_exchange-requires : goal.compare_exchange-requires
compare_exchange-requires g c =
    let me = c.args.seat.now.me in
    step_allowed shows me (λ there. either (there == 0) c.args.new there)
    (λ there after. LockedOrBusy shows g.M.Winning.cells me.0 me.1 g.M.Winning.place g.M.Winning.cell there
    (there == 0) after) (Of Mutex c.args.cell)
    c.table.invariant c.table.view_is c.spot_of-at.ensures c.requires.same c.requires.inside c.requires.allowed
