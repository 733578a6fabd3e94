use Rattle.law.proofs.known.Risen_Kept.{risen_if, risen_places_kept, risen_entries_kept, risen_apart_kept}
use Rattle.law.proofs.known.Risen_Kept.{risen_after_put, risen_after_take, risen_after_swap, risen_by_up, risen_by_ask}
use Rattle.law.proofs.known.Risen_Kept.{risen_by_look, risen_by_loss}
use Rattle.law.proofs.known.laws.what_has_risen_stays_seen.Goals as goal

pub returns : goal.returns
returns c = record {
  kept = risen_if;
  places = risen_places_kept;
  entries = risen_entries_kept;
  apart = risen_apart_kept;
  put = risen_after_put;
  took = risen_after_take;
  swapped = risen_after_swap;
  counted = risen_by_up;
  asked = risen_by_ask;
  saw = risen_by_look;
  lost = risen_by_loss;
}
