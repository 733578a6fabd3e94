use Rattle.std.proofs.Common.{refl}
use Rattle.std.specs.Prelude.{Err}
use Rattle.brc_client.specs.declared.status.Status.TheVariants as statuses
use Rattle.brc_c.specs.Exports.{IsMade, HasLeft}
use Rattle.brc_c.proofs.Made.{works_at, left_at, same_at}
use Rattle.brc_c.proofs.values.take_out_value_by.Goals as goal

pub returns-in-Some-clause-does : goal.returns-in-Some-clause-does
returns-in-Some-clause-does g c = record {
  answer = c.take_out_value.result;
  made = IsMade c.in-Some.client.now c.take_out_value.new.self
      (works_at _ _ _ c.in-Some.ensures.value c.as_mut.ensures.value) refl
      (record {
        gave = c.take_out_value.ensures.gave;
        refused = c.take_out_value.ensures.refused;
        names = c.take_out_value.ensures.names;
        keeps = c.take_out_value.ensures.keeps;
        unchanged = c.take_out_value.ensures.unchanged;
        none = c.take_out_value.ensures.none;
      });
  told = c.write_value.ensures.code;
  written = c.write_value.ensures.written;
}

pub returns-in-None-clause-does : goal.returns-in-None-clause-does
returns-in-None-clause-does g c = record {
  answer = Err statuses.Gone;
  made = HasLeft (left_at _ _ c.in-None.ensures.value c.as_mut.ensures.value) (same_at _ _ c.as_mut.ensures.value) refl;
  told = c.gone.ensures;
  written = refl;
}
