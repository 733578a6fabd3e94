use Rattle.std.proofs.Common.{◌∙◌}
use Rattle.brc_section.proofs.Lines_In.{line_at}
use Rattle.brc_section.proofs.Runs.{lines_next, lines_stop, lines_end, line_own}
use Rattle.brc_section.proofs.Wants_Of.{goes_one, goes_next, halts_next}
use Rattle.brc_section.proofs.running.run_lines.Goals as goal

pub returns-in-Err-clause-line : goal.returns-in-Err-clause-line
returns-in-Err-clause-line g c = line_at c.args.body.now c.loop-at.at c.index-body-at.result c.in-Err.halt.line
    c.loop-at-test.true c.index-body-at.is c.in-Err.ensures.line

pub returns-in-Err-clause-runs : goal.returns-in-Err-clause-runs
returns-in-Err-clause-runs g c = lines_stop c.args.body.now c.loop-at.at c.index-body-at.result c.loop-at-test.true
    c.index-body-at.is
    c.loop-at.invariant.2 c.in-Err.halt c.in-Err.ensures.runs

pub loop-at-preserved : goal.loop-at-preserved
loop-at-preserved g c = (
  c.in-Ok.ensures.heap ∙ c.loop-at.invariant.0,
  c.in-Ok.ensures.stands,
  lines_next c.args.body.now c.loop-at.at c.index-body-at.result c.loop-at-test.true c.index-body-at.is
      c.loop-at.invariant.2 c.in-Ok.ensures.runs,
  λ own. goes_next c.args.frame.now c.loop-at.frame c.run_line.new.frame c.loop-at.invariant.0
      (c.loop-at.invariant.3 own) (c.in-Ok.ensures.wants (line_own c.args.body.now c.loop-at.at c.index-body-at.result
      c.loop-at-test.true c.index-body-at.is own)),
)

pub returns-clause-runs : goal.returns-clause-runs
returns-clause-runs g c = lines_end c.args.body.now c.loop-at.at c.loop-at-test.false c.loop-at.invariant.2

pub returns-in-Err-clause-wants : goal.returns-in-Err-clause-wants
returns-in-Err-clause-wants g c own =
    halts_next c.args.frame.now c.loop-at.frame c.run_line.new.frame c.loop-at.invariant.0 (c.loop-at.invariant.3 own)
    c.in-Err.halt (c.in-Err.ensures.wants (line_own c.args.body.now c.loop-at.at c.index-body-at.result
    c.loop-at-test.true c.index-body-at.is own))

pub returns-clause-wants : goal.returns-clause-wants
returns-clause-wants g c own = goes_one (c.loop-at.invariant.3 own)
