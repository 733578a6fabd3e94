use Rattle.law.proofs.living.Quiet_Items.{lock_names}
use Rattle.law.proofs.living.laws.lockings_lock_their_place.Goals as goal

pub returns : goal.returns
returns c = lock_names
