use Rattle.std.proofs.Common.{◌+◌, refl, arith}
use Rattle.brc_mistakes.specs.Words.{behind}
use Rattle.brc_mistakes.proofs.WordLaws.{behind_more, behind_none}
use Rattle.brc_mistakes.proofs.line_cutting.behind.Goals as goal

pub loop-init : goal.loop-init
unfolding behind
loop-init c = refl

pub loop-preserved : goal.loop-preserved
loop-preserved c =
    behind_more c.args.line.now c.loop.rest.now c.loop.counter _ c.loop.invariant c.in-Some.ensures

pub returns-in_default : goal.returns-in_default
returns-in_default c =
    behind_none c.args.line.now (c.loop.counter + 1) c.args.spaces (omega arith)
    (behind_more c.args.line.now c.loop.rest.now c.loop.counter _ c.loop.invariant c.in_default.ensures)
