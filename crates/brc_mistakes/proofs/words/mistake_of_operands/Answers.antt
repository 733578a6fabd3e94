use Rattle.std.proofs.Common.{below_more, arith}
use Rattle.brc_mistakes.specs.Rules.{IsFitAt}
use Rattle.brc_mistakes.proofs.RuleLaws.{all_fit}
use Rattle.brc_mistakes.proofs.words.mistake_of_operands.Goals as goal

pub loop-at-preserved : goal.loop-at-preserved
loop-at-preserved c =
    below_more (IsFitAt c.args.opening c.args.line.now) c.loop-at.at c.loop-at.invariant c.in_default.ensures.none

pub returns-clause-none : goal.returns-clause-none
returns-clause-none c =
    all_fit c.args.opening c.args.line.now (λ at below. c.loop-at.invariant at (omega arith))
