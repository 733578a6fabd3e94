use Rattle.std.proofs.Common.{◌≡◌, ◌∙◌, List, ℕ, ap, sym}
use Rattle.brc_mistakes.specs.Nearness.{apart}
use Rattle.brc_mistakes.proofs.WordLaws.{apart_further, apart_here}
use Rattle.brc_mistakes.proofs.nearness.apart.Goals as goal

pub loop-left-preserved : goal.loop-left-preserved
loop-left-preserved c =
    apart_further c.loop-left.left.now c.loop-left.right.now c.behind_first-left.result.now
    c.behind_first-right.result.now (sym c.begin_alike.ensures.alike ∙ c.loop-left-test.true)
    c.behind_first-left.ensures c.behind_first-right.ensures
    ∙ c.loop-left.invariant

pub returns-clause-word : goal.returns-clause-word
returns-clause-word c =
    let here : apart c.loop-left.left.now c.loop-left.right.now ≡ (c.loop-left.left.now, c.loop-left.right.now) =
    apart_here c.loop-left.left.now c.loop-left.right.now
    (sym c.begin_alike.ensures.alike ∙ c.loop-left-test.false) in
    sym (ap (λ (parts : List ℕ × List ℕ). parts.0) (sym c.loop-left.invariant ∙ here))

pub returns-clause-other : goal.returns-clause-other
returns-clause-other c =
    let here : apart c.loop-left.left.now c.loop-left.right.now ≡ (c.loop-left.left.now, c.loop-left.right.now) =
    apart_here c.loop-left.left.now c.loop-left.right.now
    (sym c.begin_alike.ensures.alike ∙ c.loop-left-test.false) in
    sym (ap (λ (parts : List ℕ × List ℕ). parts.1) (sym c.loop-left.invariant ∙ here))
