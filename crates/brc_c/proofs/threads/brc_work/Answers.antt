use Rattle.std.proofs.Common.{refl}
use Rattle.brc_c.specs.Exports.{IsMade}
use Rattle.brc_c.proofs.Made.{works_at}
use Rattle.brc_c.proofs.threads.brc_work.Goals as goal

pub returns-in-Some : goal.returns-in-Some
returns-in-Some c = record {
  carries = IsMade c.in-Some.client.now c.work.new.self
      (works_at _ _ _ c.in-Some.ensures.value c.as_mut.ensures.value) refl
      (record {
        handles = c.work.ensures.handles;
        few = c.work.ensures.few;
        turned = c.work.ensures.turns;
        done = c.work.ensures.done;
        keeps = c.work.ensures.keeps;
      });
}
