use Rattle.std.proofs.Common.{refl, ap, ◌∙◌, subst, inl, inr, List, ℕ}
use Rattle.std.specs.Prelude.{Err}
use Rattle.brc_client.specs.Numbers.{status_number}
use Rattle.brc_client.specs.Swap_If.{SwapsDatumIf}
use Rattle.brc_client.specs.declared.status.Status.{Status}
use Rattle.brc_client.specs.declared.status.Status.TheVariants as statuses
use Rattle.brc_c.specs.Calls.{OfTwoValues, SwapsIfByText}
use Rattle.brc_c.specs.Exports.{IsMade, HasLeft}
use Rattle.brc_c.proofs.Made.{works_at, left_at, same_at}
use Rattle.brc_c.proofs.swaps.brc_dict_swap_if_text.Goals as goal

pub returns-in-Ok-clause-does : goal.returns-in-Ok-clause-does
returns-in-Ok-clause-does c =
    let did = c.swap_if_by.ensures.does in
    record {
      answer = did.answer;
      made = IsMade c.in-Some.client.now c.swap_if_by.new.client
          (works_at _ _ _ c.in-Some.ensures.value c.as_mut.ensures.value) refl
          (inl did.made);
      told = did.told;
      written = did.written;
    }

pub returns-in-Err-clause-does : goal.returns-in-Err-clause-does
returns-in-Err-clause-does c = record {
  answer = Err statuses.NotText;
  made = IsMade c.in-Some.client.now c.in-Some.client.now
      (works_at _ _ _ c.in-Some.ensures.value c.as_mut.ensures.value) refl
      (inr (refl, c.in-Err.ensures.not_text, refl));
  told = c.number.ensures.number ∙ ap (λ (status : Status). status_number status) c.in-Err.ensures.refused;
  written = (refl, refl);
}

pub returns-in-None-clause-does : goal.returns-in-None-clause-does
returns-in-None-clause-does c = record {
  answer = Err statuses.Gone;
  made = HasLeft (left_at _ _ c.in-None.ensures.value c.as_mut.ensures.value) (same_at _ _ c.as_mut.ensures.value) refl;
  told = c.gone.ensures;
  written = (refl, refl);
}
