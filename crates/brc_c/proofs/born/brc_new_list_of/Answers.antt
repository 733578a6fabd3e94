use Rattle.std.proofs.Common.{refl, ap, ◌∙◌, inl, inr}
use Rattle.std.specs.Prelude.{Err}
use Rattle.brc_client.specs.Numbers.{status_number}
use Rattle.brc_client.specs.declared.status.Status.{Status}
use Rattle.brc_client.specs.declared.status.Status.TheVariants as statuses
use Rattle.brc_c.specs.Exports.{IsMade, HasLeft}
use Rattle.brc_c.proofs.Made.{works_at, left_at, same_at}
use Rattle.brc_c.proofs.born.brc_new_list_of.Goals as goal

pub returns-in-Ok-clause-does : goal.returns-in-Ok-clause-does
returns-in-Ok-clause-does c = record {
  answer = c.new_list_of.result;
  made = IsMade c.in-Some.client.now c.new_list_of.new.self
      (works_at _ _ _ c.in-Some.ensures.value c.as_mut.ensures.value) refl
      (inl (
        c.in-Ok.ensures.all,
        record {
          made = c.new_list_of.ensures.made;
          refused = c.new_list_of.ensures.refused;
          names = c.new_list_of.ensures.names;
          spent = c.new_list_of.ensures.spent;
        },
      ));
  told = c.write.ensures.code;
  written = c.write.ensures.written;
}

pub returns-in-Err-clause-does : goal.returns-in-Err-clause-does
returns-in-Err-clause-does c = record {
  answer = Err statuses.NotValue;
  made = IsMade c.in-Some.client.now c.in-Some.client.now
      (works_at _ _ _ c.in-Some.ensures.value c.as_mut.ensures.value) refl
      (inr (refl, c.in-Err.ensures.refused.1, refl));
  told = c.number.ensures.number ∙ ap (λ (status : Status). status_number status) c.in-Err.ensures.refused.0;
  written = refl;
}

pub returns-in-None-clause-does : goal.returns-in-None-clause-does
returns-in-None-clause-does c = record {
  answer = Err statuses.Gone;
  made = HasLeft (left_at _ _ c.in-None.ensures.value c.as_mut.ensures.value) (same_at _ _ c.as_mut.ensures.value) refl;
  told = c.gone.ensures;
  written = refl;
}
