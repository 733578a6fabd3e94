use Rattle.std.proofs.Common.{◌∙◌, ◌+◌, ℕ, List, Option, Some, ap, sym}
use Rattle.std.proofs.lemmas.List.{take_rest}
use Rattle.brc_trace.proofs.CauseLaws.{lacks_more, cut_here, never_cut}
use Rattle.brc_trace.proofs.causes.cut_at.Goals as goal

pub returns-then-byte-mark-clause-front : goal.returns-then-byte-mark-clause-front
returns-then-byte-mark-clause-front c =
    sym (ap (λ (parts : List ℕ × Option (List ℕ)). parts.0)
    (cut_here c.args.mark c.args.text.now c.loop-at.at c.loop-at-test.true c.if-byte-mark.true c.loop-at.invariant))

pub returns-then-byte-mark-clause-behind : goal.returns-then-byte-mark-clause-behind
returns-then-byte-mark-clause-behind c =
    ap (λ (parts : List ℕ × Option (List ℕ)). parts.1)
    (cut_here c.args.mark c.args.text.now c.loop-at.at c.loop-at-test.true c.if-byte-mark.true c.loop-at.invariant)
    ∙ ap (λ (l : List ℕ). Some l) (sym (take_rest c.args.text.now (c.loop-at.at + 1)))

pub loop-at-preserved : goal.loop-at-preserved
loop-at-preserved c = lacks_more c.args.mark c.args.text.now c.loop-at.at c.loop-at-test.true c.if-byte-mark.false
    c.loop-at.invariant

pub returns-clause-front : goal.returns-clause-front
returns-clause-front c =
    sym (ap (λ (parts : List ℕ × Option (List ℕ)). parts.0)
    (never_cut c.args.mark c.args.text.now c.loop-at.at c.loop-at-test.false c.loop-at.invariant))

pub returns-clause-behind : goal.returns-clause-behind
returns-clause-behind c =
    ap (λ (parts : List ℕ × Option (List ℕ)). parts.1)
    (never_cut c.args.mark c.args.text.now c.loop-at.at c.loop-at-test.false c.loop-at.invariant)
