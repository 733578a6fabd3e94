use Rattle.brc_count.specs.Frames.{IsUnlocked}
use Rattle.brc_things.specs.Waiting.{Waits}
use Rattle.brc_things.proofs.late.begin_again.Given as goal

abbrev pub invariant-loop : goal.invariant-loop
invariant-loop g l =
    (goal.iterator-loop g).can_next l.iterator' × (goal.iterator-loop g).is_finite l.iterator'
    × Waits l.fn.frame l.fn.handle.place l.frame × IsUnlocked l.frame
