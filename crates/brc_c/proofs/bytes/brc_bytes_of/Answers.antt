use Rattle.std.proofs.Common.{refl}
use Rattle.std.specs.Prelude.{Err}
use Rattle.brc_client.specs.declared.status.Status.TheVariants as statuses
use Rattle.brc_c.specs.Exports.{IsMade, HasLeft}
use Rattle.brc_c.proofs.Made.{works_at, left_at, same_at}
use Rattle.brc_c.proofs.bytes.brc_bytes_of.Goals as goal

pub returns-in-Some-clause-does : goal.returns-in-Some-clause-does
returns-in-Some-clause-does c = record {
  answer = c.bytes.result;
  made = IsMade c.in-Some.client.now c.bytes.new.self
      (works_at _ _ _ c.in-Some.ensures.value c.as_mut.ensures.value) refl
      (record { looked = c.bytes.ensures.looked; keeps = c.bytes.ensures.keeps });
  told = c.write.ensures.code;
  written = c.write.ensures.written;
}

pub returns-in-None-clause-does : goal.returns-in-None-clause-does
returns-in-None-clause-does c = record {
  answer = Err statuses.Gone;
  made = HasLeft (left_at _ _ c.in-None.ensures.value c.as_mut.ensures.value) (same_at _ _ c.as_mut.ensures.value) refl;
  told = c.gone.ensures;
  written = refl;
}
