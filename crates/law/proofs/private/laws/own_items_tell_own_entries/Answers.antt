use Rattle.law.proofs.private.Own_Entries_Law.{entries_stay_own}
use Rattle.law.proofs.private.laws.own_items_tell_own_entries.Goals as goal

pub returns : goal.returns
returns c = entries_stay_own
