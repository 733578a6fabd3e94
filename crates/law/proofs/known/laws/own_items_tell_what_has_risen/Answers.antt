use Rattle.law.proofs.known.Risen_Law.{risen_is_told}
use Rattle.law.proofs.known.laws.own_items_tell_what_has_risen.Goals as goal

pub returns : goal.returns
returns c = risen_is_told
