use Rattle.std.specs.Prelude.{ℕ}
use Rattle.brc_count.specs.Frames.{IsUnlocked}
use Rattle.brc_count.specs.Owned.{Keeps}
use Rattle.brc_loops.specs.declared.waiting.Look.TheVariants as looks
use Rattle.brc_loops.specs.Turns.{LoopTurns}
use Rattle.brc_loops.proofs.waiting.wait_for.Given as goal

abbrev pub invariant-loop : goal.invariant-loop
invariant-loop g l =
    (goal.iterator-loop g).can_next l.iterator' × (goal.iterator-loop g).is_finite l.iterator'
    × Keeps l.fn.frame l.frame × IsUnlocked l.frame
    × (count : ℕ) × LoopTurns (λ _. g.W.Awaited.looks l.awaited looks.NotYet) count l.fn.frame l.frame
