use Rattle.std.proofs.Common.{refl, ap, ◌∙◌, subst, inl, inr, ℕ, List}
use Rattle.std.specs.Prelude.{Err}
use Rattle.brc_client.specs.Numbers.{status_number}
use Rattle.brc_client.specs.declared.status.Status.{Status}
use Rattle.brc_client.specs.declared.status.Status.TheVariants as statuses
use Rattle.brc_client.specs.Valued.{TakesDatum}
use Rattle.brc_c.specs.Calls.{PutsValueByText}
use Rattle.brc_c.specs.Exports.{IsMade, HasLeft}
use Rattle.brc_c.proofs.Made.{works_at, left_at, same_at}
use Rattle.brc_c.proofs.values.brc_dict_put_text_value.Goals as goal

pub returns-in-Ok-datum_of-clause-does : goal.returns-in-Ok-datum_of-clause-does
returns-in-Ok-datum_of-clause-does c =
    let did : TakesDatum (PutsValueByText c.args.key.now) c.args.dict c.in-Ok-datum_of.datum
    c.in-Some.client.now c.put_value.new.self c.put_value.result =
    record {
      took = c.put_value.ensures.took;
      refused = c.put_value.ensures.refused;
      spent = c.put_value.ensures.spent;
      came = c.put_value.ensures.came;
      handles = c.put_value.ensures.handles;
      numbers = c.put_value.ensures.numbers;
    } in
    record {
      answer = c.put_value.result;
      made = IsMade c.in-Some.client.now c.put_value.new.self
          (works_at _ _ _ c.in-Some.ensures.value c.as_mut.ensures.value) refl
          (inl (inl (
            c.in-Ok-datum_of.datum,
            c.in-Ok-datum_of.ensures.handed,
            did,
          )));
      told = c.write_came.ensures.code;
      written = c.write_came.ensures.written;
    }

pub returns-in-Err-datum_of-clause-does : goal.returns-in-Err-datum_of-clause-does
returns-in-Err-datum_of-clause-does c = record {
  answer = Err statuses.NotValue;
  made = IsMade c.in-Some.client.now c.in-Some.client.now
      (works_at _ _ _ c.in-Some.ensures.value c.as_mut.ensures.value) refl
      (inl (inr (refl, c.in-Err-datum_of.ensures.other, refl)));
  told = c.number.ensures.number ∙ ap (λ (status : Status). status_number status) c.in-Err-datum_of.ensures.refused;
  written = refl;
}

pub returns-in-Err-clause-does : goal.returns-in-Err-clause-does
returns-in-Err-clause-does c = record {
  answer = Err statuses.NotText;
  made = IsMade c.in-Some.client.now c.in-Some.client.now
      (works_at _ _ _ c.in-Some.ensures.value c.as_mut.ensures.value) refl
      (inr (refl, c.in-Err.ensures.not_text, refl));
  told = c.number-in-Err.ensures.number ∙ ap (λ (status : Status). status_number status) c.in-Err.ensures.refused;
  written = refl;
}

pub returns-in-None-clause-does : goal.returns-in-None-clause-does
returns-in-None-clause-does c = record {
  answer = Err statuses.Gone;
  made = HasLeft (left_at _ _ c.in-None.ensures.value c.as_mut.ensures.value) (same_at _ _ c.as_mut.ensures.value) refl;
  told = c.gone.ensures;
  written = refl;
}
