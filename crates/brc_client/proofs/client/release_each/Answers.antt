use Rattle.std.proofs.Common.{arith}
use Rattle.brc_client.proofs.Placed.{bare_below, bare_counted}
use Rattle.brc_client.proofs.Spending.{spent_whole, spent_bare}
use Rattle.brc_client.proofs.client.release_each.Goals as goal

pub returns-after-loop-at-clause-none : goal.returns-after-loop-at-clause-none
returns-after-loop-at-clause-none c = bare_below c.loop-at.handles c.loop-at.at c.loop-at.invariant.1
    (omega (arith, c.loop-at-test.false, c.loop-at.invariant.0.places))

pub returns-after-loop-at-clause-spent : goal.returns-after-loop-at-clause-spent
returns-after-loop-at-clause-spent c = spent_whole c.loop-at.at _ _ _ _ c.loop-at.invariant.3
    (omega (arith, c.loop-at-test.false))

pub returns-then-len-kept-clause-none : goal.returns-then-len-kept-clause-none
returns-then-len-kept-clause-none c = bare_counted c.loop-at.frame c.loop-at.handles c.loop-at.invariant.0
    (omega (arith, c.if-len-kept.true, c.len.ensures, c.kept_in-kept.ensures))

pub returns-then-len-kept-clause-spent : goal.returns-then-len-kept-clause-spent
returns-then-len-kept-clause-spent c = spent_bare c.loop-at.at _ _ _ _ c.loop-at.invariant.3
    (bare_counted c.loop-at.frame c.loop-at.handles c.loop-at.invariant.0
    (omega (arith, c.if-len-kept.true, c.len.ensures, c.kept_in-kept.ensures)))
