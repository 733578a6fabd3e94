use Rattle.std.proofs.Common.{refl}
use Rattle.std.specs.Prelude.{Err}
use Rattle.brc_client.specs.declared.status.Status.TheVariants as statuses
use Rattle.brc_c.specs.Exports.{IsMade, HasLeft}
use Rattle.brc_c.proofs.Made.{works_at, left_at, same_at}
use Rattle.brc_c.proofs.swaps.brc_list_swap_if.Goals as goal

pub returns-in-Some-clause-does : goal.returns-in-Some-clause-does
returns-in-Some-clause-does c = record {
  answer = c.swap_if_by.ensures.does.answer;
  made = IsMade c.in-Some.client.now c.swap_if_by.new.client
      (works_at _ _ _ c.in-Some.ensures.value c.as_mut.ensures.value) refl c.swap_if_by.ensures.does.made;
  told = c.swap_if_by.ensures.does.told;
  written = c.swap_if_by.ensures.does.written;
}

pub returns-in-None-clause-does : goal.returns-in-None-clause-does
returns-in-None-clause-does c = record {
  answer = Err statuses.Gone;
  made = HasLeft (left_at _ _ c.in-None.ensures.value c.as_mut.ensures.value) (same_at _ _ c.as_mut.ensures.value) refl;
  told = c.gone.ensures;
  written = (refl, refl);
}
