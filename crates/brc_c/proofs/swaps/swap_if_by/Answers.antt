use Rattle.std.proofs.Common.{refl, ap, ◌∙◌, ◌<◌, ℕ, inl, inr, subst}
use Rattle.std.specs.Prelude.{Err}
use Rattle.brc_client.specs.Numbers.{status_number}
use Rattle.brc_client.specs.declared.status.Status.{Status}
use Rattle.brc_client.specs.declared.status.Status.TheVariants as statuses
use Rattle.brc_c.specs.Exports.{holds_in}
use Rattle.brc_c.proofs.swaps.swap_if_by.Goals as goal

pub returns-in-Err-clause-does : goal.returns-in-Err-clause-does
returns-in-Err-clause-does g c = record {
  answer = Err statuses.NotValue;
  made = inr (refl, c.in-Err.ensures.other, refl);
  told = c.number.ensures.number ∙ ap (λ (status : Status). status_number status) c.in-Err.ensures.refused;
  written = (refl, refl);
}

pub returns-in-Err-datum_of-clause-does : goal.returns-in-Err-datum_of-clause-does
returns-in-Err-datum_of-clause-does g c = record {
  answer = Err statuses.NotValue;
  made = inl (
    c.in-Ok.expected,
    c.in-Ok.ensures.handed,
    inr (refl, subst (λ (noted : ℕ). 2 < holds_in noted) c.packed.ensures c.in-Err-datum_of.ensures.other, refl),
  );
  told = c.number-in-Err-datum_of.ensures.number
      ∙ ap (λ (status : Status). status_number status) c.in-Err-datum_of.ensures.refused;
  written = (refl, refl);
}
