use Rattle.law.proofs.known.Going_On_Law.{goes_on, goes_apart, saw_goes, lost_goes}
use Rattle.law.proofs.known.Kept_Law.{places_kept, entries_kept}
use Rattle.law.proofs.known.laws.own_steps_go_on.Goals as goal

pub returns : goal.returns
returns c = record {
  meant = goes_on;
  apart = goes_apart;
  places = places_kept;
  entries = entries_kept;
  saw = saw_goes;
  lost = lost_goes;
}
