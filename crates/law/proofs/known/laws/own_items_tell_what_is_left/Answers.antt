use Rattle.law.proofs.known.Items_Law.{bare_is_told, blank_is_told}
use Rattle.law.proofs.known.Taken_Law.{none_taken}
use Rattle.law.proofs.known.laws.own_items_tell_what_is_left.Goals as goal

pub returns : goal.returns
returns c = record { blocks = none_taken; places = bare_is_told; popped = blank_is_told }
