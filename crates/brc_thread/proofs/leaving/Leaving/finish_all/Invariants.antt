use Rattle.std.proofs.Common.{ℕ}
use Rattle.brc_count.specs.Frames.{KeepsHandles}
use Rattle.brc_count.specs.Closing.{TurnsLeaving}
use Rattle.brc_thread.proofs.leaving.Leaving.finish_all.Given as goal

abbrev pub invariant-loop : goal.invariant-loop
invariant-loop g l =
    (goal.iterator-loop g).can_next l.iterator' × (goal.iterator-loop g).is_finite l.iterator'
    × KeepsHandles l.fn.self l.leaving × ((n : ℕ) × TurnsLeaving l.fn.self n l.leaving)
