use Rattle.law.proofs.known.Locked_Law.{place_is_told, locked_is_told}
use Rattle.law.proofs.known.laws.own_items_tell_the_lock.Goals as goal

pub returns : goal.returns
returns c = record { place = place_is_told; found = locked_is_told }
