use Rattle.brc_things.specs.Waiting.{IsBusy, NoTry, OneMore}
use Rattle.brc_count.proofs.Kept.{thread_kept_on, frame_kept_on}
use Rattle.brc_things.proofs.Waited.{waits_on}
use Rattle.brc_things.proofs.late.begin_late.Goals as goal

pub returns-in-Some : goal.returns-in-Some
returns-in-Some g c = record {
  mid = c.args.frame.now;
  waits = NoTry;
  began = c.in-Some.ensures.began;
  keeps = c.begin.ensures.keeps;
  frame = c.begin.ensures.frame;
  keeps_all = c.begin.ensures.keeps;
  frame_all = c.begin.ensures.frame;
}

pub returns-in-None : goal.returns-in-None
returns-in-None g c =
    let busy : IsBusy c.args.frame.now c.begin.new.self c.args.handle.now.place = record {
      busy = c.in-None.ensures.busy;
      keeps = c.begin.ensures.keeps;
      frame = c.begin.ensures.frame;
    } in
    let first = OneMore c.args.frame.now c.begin.new.self NoTry busy in record {
      mid = c.begin_again.ensures.mid;
      waits = waits_on first c.begin_again.ensures.waits;
      began = c.begin_again.ensures.began;
      keeps = c.begin_again.ensures.keeps;
      frame = c.begin_again.ensures.frame;
      keeps_all = thread_kept_on c.begin.ensures.keeps c.begin_again.ensures.keeps_all;
      frame_all = frame_kept_on c.begin.ensures.frame c.begin_again.ensures.frame_all;
    }
