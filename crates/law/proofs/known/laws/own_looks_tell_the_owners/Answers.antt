use Rattle.law.proofs.known.Owners_Law.{owners_are_registered}
use Rattle.law.proofs.known.laws.own_looks_tell_the_owners.Goals as goal

pub returns : goal.returns
returns c = owners_are_registered
