use Rattle.std.proofs.Common.{refl}
use Rattle.std.specs.Prelude.{Ok, Err}
use Rattle.brc_client.specs.declared.status.Status.TheVariants as statuses
use Rattle.brc_c.specs.Exports.{IsMade, HasLeft}
use Rattle.brc_c.proofs.Made.{works_at, left_at, same_at}
use Rattle.brc_c.proofs.values.brc_dict_pair_value.Goals as goal

pub returns-in-Ok-clause-does : goal.returns-in-Ok-clause-does
returns-in-Ok-clause-does c = record {
  answer = Ok c.in-Ok.field-0;
  made = IsMade c.in-Some.client.now c.pair_value.new.self
      (works_at _ _ _ c.in-Some.ensures.value c.as_mut.ensures.value) refl
      (record {
        gave = c.in-Ok.ensures.gave;
        refused = tt;
        names = c.in-Ok.ensures.names;
        keeps = c.in-Ok.ensures.keeps;
        unchanged = tt;
        none = c.in-Ok.ensures.none;
      });
  told = refl;
  written = (c.write.ensures, c.write_key.ensures, refl);
}

pub returns-in-Err-clause-does : goal.returns-in-Err-clause-does
returns-in-Err-clause-does c = record {
  answer = Err c.in-Err.status;
  made = IsMade c.in-Some.client.now c.pair_value.new.self
      (works_at _ _ _ c.in-Some.ensures.value c.as_mut.ensures.value) refl
      (record {
        gave = tt;
        refused = c.in-Err.ensures.refused;
        names = tt;
        keeps = c.in-Err.ensures.keeps;
        unchanged = c.in-Err.ensures.unchanged;
        none = c.in-Err.ensures.none;
      });
  told = c.number.ensures.number;
  written = (refl, refl, refl, refl);
}

pub returns-in-None-clause-does : goal.returns-in-None-clause-does
returns-in-None-clause-does c = record {
  answer = Err statuses.Gone;
  made = HasLeft (left_at _ _ c.in-None.ensures.value c.as_mut.ensures.value) (same_at _ _ c.as_mut.ensures.value) refl;
  told = c.gone.ensures;
  written = (refl, refl, refl, refl);
}
