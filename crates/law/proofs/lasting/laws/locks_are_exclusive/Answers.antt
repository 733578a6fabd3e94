use Rattle.law.proofs.lasting.Standing.{locked_held, locked_by_one}
use Rattle.law.proofs.lasting.laws.locks_are_exclusive.Goals as goal

pub returns : goal.returns
returns c = record { held = locked_held; one = locked_by_one }
