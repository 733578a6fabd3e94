use Rattle.law.proofs.lasting.Standing.{taken_once, held_not_freed, held_not_born}
use Rattle.law.proofs.lasting.laws.blocks_are_taken_once.Goals as goal

pub returns-clause-taken : goal.returns-clause-taken
returns-clause-taken c = taken_once

pub returns-clause-freed : goal.returns-clause-freed
returns-clause-freed c = held_not_freed

pub returns-clause-born : goal.returns-clause-born
returns-clause-born c = held_not_born
