use Rattle.law.proofs.lasting.Standing.{gathered_hold_nothing}
use Rattle.law.proofs.lasting.laws.gathered_threads_hold_nothing.Goals as goal

pub returns : goal.returns
returns c = gathered_hold_nothing
