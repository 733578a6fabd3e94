use Rattle.std.proofs.Common.{refl, ap, ◌∙◌, subst, inl, inr, ℕ, List}
use Rattle.std.specs.Prelude.{Err}
use Rattle.brc_client.specs.Numbers.{status_number}
use Rattle.brc_client.specs.declared.status.Status.{Status}
use Rattle.brc_client.specs.declared.status.Status.TheVariants as statuses
use Rattle.brc_client.specs.Valued.{GivesDatum}
use Rattle.brc_c.specs.Calls.{FindsValueByText}
use Rattle.brc_c.specs.Exports.{IsMade, HasLeft}
use Rattle.brc_c.proofs.Made.{works_at, left_at, same_at}
use Rattle.brc_c.proofs.values.brc_dict_find_text_value.Goals as goal

pub returns-in-Ok-clause-does : goal.returns-in-Ok-clause-does
returns-in-Ok-clause-does c =
    let did : GivesDatum (FindsValueByText c.args.key.now) c.args.dict
    c.in-Some.client.now c.take_out_value.new.self c.take_out_value.result =
    record {
      gave = c.take_out_value.ensures.gave;
      refused = c.take_out_value.ensures.refused;
      names = c.take_out_value.ensures.names;
      keeps = c.take_out_value.ensures.keeps;
      unchanged = c.take_out_value.ensures.unchanged;
      none = c.take_out_value.ensures.none;
    } in
    record {
      answer = c.take_out_value.result;
      made = IsMade c.in-Some.client.now c.take_out_value.new.self
          (works_at _ _ _ c.in-Some.ensures.value c.as_mut.ensures.value) refl
          (inl did);
      told = c.write_value.ensures.code;
      written = c.write_value.ensures.written;
    }

pub returns-in-Err-clause-does : goal.returns-in-Err-clause-does
returns-in-Err-clause-does c = record {
  answer = Err statuses.NotText;
  made = IsMade c.in-Some.client.now c.in-Some.client.now
      (works_at _ _ _ c.in-Some.ensures.value c.as_mut.ensures.value) refl
      (inr (refl, c.in-Err.ensures.not_text, refl));
  told = c.number.ensures.number ∙ ap (λ (status : Status). status_number status) c.in-Err.ensures.refused;
  written = refl;
}

pub returns-in-None-clause-does : goal.returns-in-None-clause-does
returns-in-None-clause-does c = record {
  answer = Err statuses.Gone;
  made = HasLeft (left_at _ _ c.in-None.ensures.value c.as_mut.ensures.value) (same_at _ _ c.as_mut.ensures.value) refl;
  told = c.gone.ensures;
  written = refl;
}
