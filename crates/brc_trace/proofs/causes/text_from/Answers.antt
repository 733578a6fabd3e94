use Rattle.std.proofs.Common.{◌≡◌, ◌∙◌, ◌-◌, ℕ, drop, ap, arith}
use Rattle.brc_text.specs.Lines.{pieces}
use Rattle.brc_trace.proofs.CauseLaws.{one_line_on}
use Rattle.brc_trace.proofs.causes.text_from.Goals as goal

pub loop-preserved : goal.loop-preserved
loop-preserved c =
    one_line_on c.args.text.now c.loop.rest.now c.behind_line-rest.result.now c.loop.counter c.loop.invariant
    c.behind_line-rest.ensures

pub returns : goal.returns
returns c =
    let all : c.loop.counter ≡ c.args.number - 1 = omega arith in
    c.loop.invariant ∙ ap (λ (n : ℕ). drop n (pieces c.args.text.now)) all
