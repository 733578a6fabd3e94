use Rattle.std.proofs.Common.{refl, ap, ◌∙◌, inl, inr}
use Rattle.std.specs.Prelude.{Err}
use Rattle.brc_client.specs.Numbers.{status_number}
use Rattle.brc_client.specs.declared.status.Status.{Status}
use Rattle.brc_client.specs.declared.status.Status.TheVariants as statuses
use Rattle.brc_c.specs.Exports.{IsMade, HasLeft}
use Rattle.brc_c.proofs.Made.{works_at, left_at, same_at}
use Rattle.brc_c.proofs.values.put_value_by.Goals as goal

pub returns-in-Ok : goal.returns-in-Ok
returns-in-Ok g c = record {
  does = record {
    answer = c.put_value.result;
    made = IsMade c.in-Some.client.now c.put_value.new.self
        (works_at _ _ _ c.in-Some.ensures.value c.as_mut.ensures.value) refl
        (inl (
          c.in-Ok.datum,
          c.in-Ok.ensures.handed,
          record {
            took = c.put_value.ensures.took;
            refused = c.put_value.ensures.refused;
            spent = c.put_value.ensures.spent;
            came = c.put_value.ensures.came;
            handles = c.put_value.ensures.handles;
            numbers = c.put_value.ensures.numbers;
          },
        ));
    told = c.status_of_taking.ensures;
    written = tt;
  };
}

pub returns-in-Err : goal.returns-in-Err
returns-in-Err g c = record {
  does = record {
    answer = Err statuses.NotValue;
    made = IsMade c.in-Some.client.now c.in-Some.client.now
        (works_at _ _ _ c.in-Some.ensures.value c.as_mut.ensures.value) refl
        (inr (refl, c.in-Err.ensures.other, refl));
    told = c.number.ensures.number ∙ ap (λ (status : Status). status_number status) c.in-Err.ensures.refused;
    written = tt;
  };
}

pub returns-in-None : goal.returns-in-None
returns-in-None g c = record {
  does = record {
    answer = Err statuses.Gone;
    made = HasLeft (left_at _ _ c.in-None.ensures.value c.as_mut.ensures.value) (same_at _ _ c.as_mut.ensures.value) refl;
    told = c.gone.ensures;
    written = tt;
  };
}
