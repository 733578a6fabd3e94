use Rattle.std.proofs.Common.{reverse}
use Rattle.law.proofs.world.Reached.{run_histories}
use Rattle.brc_core.proofs.Turns.{both_ok}
use Rattle.brc_core.proofs.replaying.replay.Goals as goal

pub returns-clause-histories : goal.returns-clause-histories
returns-clause-histories g c = both_ok c.replay_in.result
    (run_histories c.args.cells c.args.local_limit (reverse c.args.events.now)) c.replay_in.ensures.sizes
    c.replay_in.ensures.run
