use Rattle.std.proofs.Common.{reverse}
use Rattle.law.proofs.world.Reached.{reached_headline}
use Rattle.law.proofs.world.Recounting.{run_histories_since}
use Rattle.brc_core.proofs.Turns.{leads_whole, leads_reached}
use Rattle.brc_core.proofs.replaying.replay_in.Goals as goal

pub returns-clause-headline : goal.returns-clause-headline
returns-clause-headline g c =
    reached_headline _ (leads_reached c.args.edition c.args.cells c.args.local_limit _ _ c.in-Ok.ensures.sizes
    c.loop-at.invariant)

pub returns-clause-histories : goal.returns-clause-histories
returns-clause-histories g c =
    let whole = leads_whole _ _ _ _ c.loop-at.invariant c.loop-at-test.false in
    run_histories_since c.args.edition c.args.cells c.args.local_limit (reverse c.args.events.now) c.in-Ok.ensures.sizes
    whole.is_run
