use Rattle.law.proofs.lasting.Telling.{hand_tells, popped_tells}
use Rattle.law.proofs.lasting.laws.hands_tell.Goals as goal

pub returns-clause-hand : goal.returns-clause-hand
returns-clause-hand c = hand_tells

pub returns-clause-popped : goal.returns-clause-popped
returns-clause-popped c = popped_tells
