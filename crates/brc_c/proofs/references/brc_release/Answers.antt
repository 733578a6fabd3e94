use Rattle.std.proofs.Common.{refl}
use Rattle.std.specs.Prelude.{Err}
use Rattle.brc_client.specs.declared.status.Status.TheVariants as statuses
use Rattle.brc_c.specs.Exports.{IsMade, HasLeft}
use Rattle.brc_c.proofs.Made.{works_at, left_at, same_at}
use Rattle.brc_c.proofs.references.brc_release.Goals as goal

pub returns-in-Some : goal.returns-in-Some
returns-in-Some c = record {
  does = record {
    answer = c.release.result;
    made = IsMade c.in-Some.client.now c.release.new.self
        (works_at _ _ _ c.in-Some.ensures.value c.as_mut.ensures.value) refl
        (record {
          released = c.release.ensures.released;
          spent = c.release.ensures.spent;
          bounded = c.release.ensures.bounded;
          refused = c.release.ensures.refused;
          unchanged = c.release.ensures.unchanged;
        });
    told = c.status_of.ensures;
    written = tt;
  };
}

pub returns-in-None : goal.returns-in-None
returns-in-None c = record {
  does = record {
    answer = Err statuses.Gone;
    made = HasLeft (left_at _ _ c.in-None.ensures.value c.as_mut.ensures.value) (same_at _ _ c.as_mut.ensures.value) refl;
    told = c.gone.ensures;
    written = tt;
  };
}
