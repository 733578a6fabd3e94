use Rattle.std.proofs.Common.{refl}
use Rattle.std.specs.Prelude.{Err}
use Rattle.brc_client.specs.declared.status.Status.TheVariants as statuses
use Rattle.brc_c.specs.Exports.{IsMade, HasLeft}
use Rattle.brc_c.proofs.Made.{works_at, left_at, same_at}
use Rattle.brc_c.proofs.references.brc_retain.Goals as goal

pub returns-then-is_ready-clause-does : goal.returns-then-is_ready-clause-does
returns-then-is_ready-clause-does c = record {
  answer = c.retain.result;
  made = IsMade c.in-Some.client.now c.retain.new.self
      (works_at _ _ _ c.in-Some.ensures.value c.as_mut.ensures.value) refl
      (record {
        gave = c.retain.ensures.more;
        refused = c.retain.ensures.refused;
        names = c.retain.ensures.names;
        keeps = c.retain.ensures.keeps;
        unchanged = c.retain.ensures.unchanged;
      });
  told = c.write.ensures.code;
  written = c.write.ensures.written;
}

pub returns-else-is_ready-clause-does : goal.returns-else-is_ready-clause-does
returns-else-is_ready-clause-does c =
    let does = c.retain_late.ensures.does in
    record {
      answer = does.answer;
      made = IsMade c.in-Some.client.now c.retain_late.new.client
          (works_at _ _ _ c.in-Some.ensures.value c.as_mut.ensures.value) refl does.made;
      told = does.told;
      written = does.written;
    }

pub returns-in-None-clause-does : goal.returns-in-None-clause-does
returns-in-None-clause-does c = record {
  answer = Err statuses.Gone;
  made = HasLeft (left_at _ _ c.in-None.ensures.value c.as_mut.ensures.value) (same_at _ _ c.as_mut.ensures.value) refl;
  told = c.gone.ensures;
  written = refl;
}
