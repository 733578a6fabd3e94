use Rattle.std.proofs.Common.{refl}
use Rattle.brc_c.specs.Exports.{IsMade}
use Rattle.brc_c.proofs.Made.{works_at}
use Rattle.brc_c.proofs.threads.brc_poll.Goals as goal

pub returns-in-Some : goal.returns-in-Some
returns-in-Some c = record {
  carries = IsMade c.in-Some.client.now c.poll.new.self
      (works_at _ _ _ c.in-Some.ensures.value c.as_mut.ensures.value) refl
      (record {
        handles = c.poll.ensures.handles;
        polled = c.poll.ensures.polled;
        quiet = c.poll.ensures.quiet;
        keeps = c.poll.ensures.keeps;
      });
}
