use Rattle.std.specs.Prelude.{ℕ}
use Rattle.brc_handles.specs.Standing.{KeepsStanding}
use Rattle.brc_places.specs.Stack_Turns.{TurnsOn}
use Rattle.brc_places.proofs.stack_turns.run_steps.Given as goal

abbrev pub invariant-loop : goal.invariant-loop
invariant-loop g l =
    (goal.iterator-loop g).can_next l.iterator' × (goal.iterator-loop g).is_finite l.iterator'
    × KeepsStanding l.fn.frame l.frame l.fn.stack l.stack
    × (count : ℕ) × TurnsOn g.S.Step.turns count (record { step = l.fn.step; frame = l.fn.frame; stack = l.fn.stack })
    (record { step = l.step; frame = l.frame; stack = l.stack })
