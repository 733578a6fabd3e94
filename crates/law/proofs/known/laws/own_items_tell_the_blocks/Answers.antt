use Rattle.law.proofs.known.Taken_Law.{taken_is_told, fresh_is_told}
use Rattle.law.proofs.known.laws.own_items_tell_the_blocks.Goals as goal

pub returns : goal.returns
returns c = record { listed = taken_is_told; fresh = fresh_is_told }
