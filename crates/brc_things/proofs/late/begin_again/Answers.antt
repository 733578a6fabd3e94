use Rattle.brc_count.proofs.Owning.{owns_kept}
use Rattle.brc_things.specs.Waiting.{NoTry, OneMore}
use Rattle.brc_count.proofs.Kept.{thread_kept_on, frame_kept_on}
use Rattle.brc_things.proofs.Waited.{waits_thread, waits_frame}
use Rattle.brc_things.proofs.late.begin_again.Goals as goal

pub loop-init : goal.loop-init
loop-init g c = (tt, tt, NoTry, c.requires.unlocked)

pub begin-requires-clause-owned : goal.begin-requires-clause-owned
begin-requires-clause-owned g c =
    owns_kept c.args.frame.now c.loop.frame c.args.handle.now (waits_thread c.loop.invariant.2)
    (waits_frame c.loop.invariant.2) c.requires.owned

pub loop-preserved : goal.loop-preserved
loop-preserved g c =
    let kept = c.in_default.ensures in (
      tt,
      tt,
      OneMore c.loop.frame c.begin.new.self c.loop.invariant.2
          (record { busy = kept.busy; keeps = kept.keeps; frame = kept.frame }),
      kept.busy.unlocked,
    )

pub returns-in-Some-begin : goal.returns-in-Some-begin
returns-in-Some-begin g c = record {
  mid = c.loop.frame;
  waits = c.loop.invariant.2;
  began = c.in-Some-begin.ensures.began;
  keeps = c.begin.ensures.keeps;
  frame = c.begin.ensures.frame;
  keeps_all = thread_kept_on (waits_thread c.loop.invariant.2) c.begin.ensures.keeps;
  frame_all = frame_kept_on (waits_frame c.loop.invariant.2) c.begin.ensures.frame;
}
