use Rattle.std.proofs.Common.{◌≡◌, ◌∙◌, ◌-◌, ℕ, drop, ap, arith}
use Rattle.brc_script.specs.Walks.{lines_of}
use Rattle.brc_mistakes.proofs.LineLaws.{one_line_on}
use Rattle.brc_mistakes.proofs.text_lines.text_from.Goals as goal

pub loop-preserved : goal.loop-preserved
loop-preserved c = record {
  lines = one_line_on c.args.text.now c.loop.rest.now c.behind_line-rest.result.now c.loop.counter
      c.loop.invariant.lines c.behind_line-rest.ensures.lines;
  shorter = omega (arith, c.loop.invariant.shorter, c.behind_line-rest.ensures.shorter);
}

pub returns-clause-lines : goal.returns-clause-lines
returns-clause-lines c =
    let all : c.loop.counter ≡ c.args.number - 1 = omega arith in
    c.loop.invariant.lines ∙ ap (λ (n : ℕ). drop n (lines_of c.args.text.now)) all
