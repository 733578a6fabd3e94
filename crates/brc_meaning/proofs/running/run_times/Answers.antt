use Rattle.std.proofs.Common.{◌∙◌, sym, arith}
use Rattle.std.proofs.lemmas.Result.{err_from_is_err_and}
use Rattle.brc_meaning.proofs.Turns.{turn_stops, turn_goes}
use Rattle.brc_meaning.proofs.running.run_times.Goals as goal

pub returns-in_err-run_lines : goal.returns-in_err-run_lines
returns-in_err-run_lines g c =
    let answer = err_from_is_err_and c.from_residual.result c.from_residual.ensures.1 in
    rw (answer.1, answer.2) (λ own. sym c.loop.invariant
    ∙ turn_stops c.args.times c.loop.counter c.args.lines.now c.loop.state _ (omega arith)
    (c.in_err-run_lines.ensures own))

pub loop-preserved : goal.loop-preserved
loop-preserved g c =
    sym (turn_goes c.args.times c.loop.counter c.args.lines.now c.loop.state c.run_lines.new.state (omega arith)
    (c.in_ok-run_lines.ensures))
    ∙ c.loop.invariant
