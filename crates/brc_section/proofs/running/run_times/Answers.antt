use Rattle.std.proofs.Common.{◌∙◌}
use Rattle.brc_section.proofs.Runs.{times_next, times_stop, times_end, turn_own}
use Rattle.brc_section.proofs.Wants_Of.{goes_one, goes_next, halts_next}
use Rattle.brc_section.proofs.running.run_times.Goals as goal

pub returns-in-Err-clause-runs : goal.returns-in-Err-clause-runs
returns-in-Err-clause-runs g c = times_stop c.args.times c.loop-turn.turn c.args.body.now c.loop-turn-test.true
    c.loop-turn.invariant.2 c.in-Err.halt c.in-Err.ensures.runs

pub loop-turn-preserved : goal.loop-turn-preserved
loop-turn-preserved g c = (
  c.in-Ok.ensures.heap ∙ c.loop-turn.invariant.0,
  c.in-Ok.ensures.stands,
  times_next c.args.times c.loop-turn.turn c.args.body.now c.loop-turn-test.true c.loop-turn.invariant.2
      c.in-Ok.ensures.runs,
  λ own. goes_next c.args.frame.now c.loop-turn.frame c.run_lines.new.frame c.loop-turn.invariant.0
      (c.loop-turn.invariant.3 own) (c.in-Ok.ensures.wants (turn_own c.args.times c.loop-turn.turn c.args.body.now
      c.loop-turn-test.true own)),
)

pub returns-clause-runs : goal.returns-clause-runs
returns-clause-runs g c = times_end c.args.times c.loop-turn.turn c.args.body.now c.loop-turn-test.false
    c.loop-turn.auto.turn-end c.loop-turn.invariant.2

pub returns-in-Err-clause-wants : goal.returns-in-Err-clause-wants
returns-in-Err-clause-wants g c own =
    halts_next c.args.frame.now c.loop-turn.frame c.run_lines.new.frame c.loop-turn.invariant.0
    (c.loop-turn.invariant.3 own)
    c.in-Err.halt (c.in-Err.ensures.wants (turn_own c.args.times c.loop-turn.turn c.args.body.now c.loop-turn-test.true
    own))

pub returns-clause-wants : goal.returns-clause-wants
returns-clause-wants g c own = goes_one (c.loop-turn.invariant.3 own)
