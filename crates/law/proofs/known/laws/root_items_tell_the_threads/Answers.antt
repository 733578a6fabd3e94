use Rattle.law.proofs.known.Root_Law.{rows_are_told, gathered_are_told}
use Rattle.law.proofs.known.laws.root_items_tell_the_threads.Goals as goal

pub returns : goal.returns
returns c = record { rows = rows_are_told; gathered = gathered_are_told }
