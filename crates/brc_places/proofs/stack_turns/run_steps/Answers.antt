use Rattle.std.proofs.Common.{◌+◌, inl, inr, rules}
use Rattle.brc_places.proofs.Turning.{no_turn, one_more}
use Rattle.brc_places.proofs.stack_turns.run_steps.Goals as goal

pub loop-init : goal.loop-init
loop-init g c = (search rules, search rules, search rules, 0, no_turn _ _)

pub loop-preserved-in-GoesOn : goal.loop-preserved-in-GoesOn
loop-preserved-in-GoesOn g c =
    let was = c.loop.invariant in (
      search rules,
      search rules,
      search rules,
      was.3 + 1,
      one_more _ _ _ _ _ was.4 (inl c.in-GoesOn.ensures.turned),
    )

pub loop-preserved : goal.loop-preserved
loop-preserved g c =
    let was = c.loop.invariant in (
      search rules,
      search rules,
      search rules,
      was.3 + 1,
      one_more _ _ _ _ _ was.4 (inr c.in-Waits.ensures.turned),
    )
