use Rattle.brc_count.specs.Frames.{IsUnlocked}
use Rattle.brc_count.specs.Owned.{Keeps}
use Rattle.brc_loops.proofs.stopping.fetch_until.Given as goal

abbrev pub invariant-loop : goal.invariant-loop
invariant-loop g l =
    (goal.iterator-loop g).can_next l.iterator' × (goal.iterator-loop g).is_finite l.iterator'
    × Keeps l.fn.frame l.frame × IsUnlocked l.frame
