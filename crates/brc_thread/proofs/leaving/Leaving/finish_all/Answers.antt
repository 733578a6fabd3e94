use Rattle.std.proofs.Common.{◌+◌, ◌-◌}
use Rattle.brc_count.proofs.Changes.{kept, kept_on}
use Rattle.brc_count.specs.Closing.{NoTurn}
use Rattle.brc_thread.proofs.Finishing.{turns_on, finishes_after}
use Rattle.brc_thread.proofs.leaving.Leaving.finish_all.Goals as goal

pub loop-init : goal.loop-init
loop-init g c = (tt, tt, kept c.args.self, (0, NoTurn))

pub loop-preserved : goal.loop-preserved
loop-preserved g c =
    let was = c.loop.invariant in (
      tt,
      tt,
      kept_on was.2 c.work.ensures.handles,
      (
        was.3.0 + (64 - c.work.result),
        turns_on c.args.self c.loop.leaving c.work.new.self was.3.0
            (64 - c.work.result) was.3.1 c.work.ensures.turns,
      ),
    )

pub returns-in-Ok : goal.returns-in-Ok
returns-in-Ok g c =
    let was = c.loop.invariant in
    finishes_after c.args.self c.work.new.self c.in-Ok.retired (was.3.0 + (64 - c.work.result))
    (kept_on was.2 c.work.ensures.handles)
    (turns_on c.args.self c.loop.leaving c.work.new.self was.3.0 (64 - c.work.result) was.3.1 c.work.ensures.turns)
    c.in-Ok.ensures.seat c.in-Ok.ensures.heap
