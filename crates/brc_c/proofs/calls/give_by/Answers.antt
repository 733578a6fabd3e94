use Rattle.std.proofs.Common.{refl}
use Rattle.std.specs.Prelude.{Err}
use Rattle.brc_client.specs.declared.status.Status.TheVariants as statuses
use Rattle.brc_c.specs.Exports.{IsMade, HasLeft}
use Rattle.brc_c.proofs.Made.{works_at, left_at, same_at}
use Rattle.brc_c.proofs.calls.give_by.Goals as goal

pub returns-in-Some-clause-does : goal.returns-in-Some-clause-does
returns-in-Some-clause-does g c = record {
  answer = c.give.result;
  made = IsMade c.in-Some.client.now c.give.new.self
      (works_at _ _ _ c.in-Some.ensures.value c.as_mut.ensures.value) refl
      (record {
        gave = c.give.ensures.gave;
        refused = c.give.ensures.refused;
        names = c.give.ensures.names;
        keeps = c.give.ensures.keeps;
        unchanged = c.give.ensures.unchanged;
      });
  told = c.write.ensures.code;
  written = c.write.ensures.written;
}

pub returns-in-None-clause-does : goal.returns-in-None-clause-does
returns-in-None-clause-does g c = record {
  answer = Err statuses.Gone;
  made = HasLeft (left_at _ _ c.in-None.ensures.value c.as_mut.ensures.value) (same_at _ _ c.as_mut.ensures.value) refl;
  told = c.gone.ensures;
  written = refl;
}
