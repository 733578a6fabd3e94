use Rattle.law.proofs.lasting.Lasting.{dead_unlocked}
use Rattle.law.proofs.lasting.Standing.{taken_unlocked}
use Rattle.law.proofs.lasting.laws.dead_blocks_are_unlocked.Goals as goal

pub returns-clause-listed : goal.returns-clause-listed
returns-clause-listed c = dead_unlocked

pub returns-clause-taken : goal.returns-clause-taken
returns-clause-taken c = taken_unlocked
