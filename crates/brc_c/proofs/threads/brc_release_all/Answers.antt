use Rattle.std.proofs.Common.{refl}
use Rattle.std.specs.Prelude.{Ok, Err}
use Rattle.brc_client.specs.declared.status.Status.TheVariants as statuses
use Rattle.brc_c.specs.Exports.{IsMade, HasLeft}
use Rattle.brc_c.proofs.Made.{works_at, left_at, same_at}
use Rattle.brc_c.proofs.threads.brc_release_all.Goals as goal

pub returns-in-Some : goal.returns-in-Some
returns-in-Some c = record {
  does = record {
    answer = Ok tt;
    made = IsMade c.in-Some.client.now c.release_all.new.self
        (works_at _ _ _ c.in-Some.ensures.value c.as_mut.ensures.value) refl
        (record {
          none = c.release_all.ensures.none;
          nameless = c.release_all.ensures.nameless;
          spent = c.release_all.ensures.spent;
          heap = c.release_all.ensures.heap;
        });
    told = refl;
    written = tt;
  };
}

pub returns-in-None : goal.returns-in-None
returns-in-None c = record {
  does = record {
    answer = Err statuses.Gone;
    made = HasLeft (left_at _ _ c.in-None.ensures.value c.as_mut.ensures.value) (same_at _ _ c.as_mut.ensures.value) refl;
    told = c.gone.ensures;
    written = tt;
  };
}
