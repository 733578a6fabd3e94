use Rattle.std.proofs.Common.{◌∙◌, ap, ℕ, List, set, get_or}
use Rattle.brc_text.proofs.Filling.{fills_next}
use Rattle.brc_text.proofs.excerpt.Excerpt.of.Goals as goal

pub loop-at-preserved : goal.loop-at-preserved
loop-at-preserved c =
    let front = c.front_of-front.result.now in
    let at = c.loop-at.at in
    ap (λ (l : List ℕ). set l at (get_or front at 0)) c.loop-at.invariant
    ∙ fills_next front at c.loop-at-test.true c.front_of-front.ensures.short
