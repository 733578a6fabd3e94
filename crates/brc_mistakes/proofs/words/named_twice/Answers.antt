use Rattle.std.proofs.Common.{arith}
use Rattle.brc_mistakes.proofs.RuleLaws.{all_differ}
use Rattle.brc_mistakes.proofs.words.named_twice.Goals as goal

pub returns-clause-none : goal.returns-clause-none
returns-clause-none c =
    all_differ c.args.opening c.args.line.now
    (λ first second before below. c.loop-second.invariant first second before (omega arith))
