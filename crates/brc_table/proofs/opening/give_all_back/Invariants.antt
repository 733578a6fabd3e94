use Rattle.std.proofs.Common.{length}
use Rattle.brc_table.proofs.opening.give_all_back.Given as goal

abbrev pub invariant-loop-slot : goal.invariant-loop-slot
invariant-loop-slot g l = Unit {0}

abbrev pub decreases-loop-slot : goal.decreases-loop-slot
decreases-loop-slot g l = length l.slots.items
