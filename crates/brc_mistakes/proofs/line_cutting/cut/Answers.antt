use Rattle.std.proofs.Common.{◌≡◌, ◌∙◌, ◌+◌, Some, ℕ, List, Option, ap, sym, subst, drop, true, arith, length-drop}
use Rattle.std.proofs.lemmas.List.{take_all}
use Rattle.std.proofs.lemmas.Bool.{ne_eqb}
use Rattle.brc_text.specs.Lines.{lacks}
use Rattle.brc_text.proofs.LineLaws.{cut_whole}
use Rattle.brc_script.proofs.CutLaws.{marked, one_more}
use Rattle.brc_mistakes.proofs.line_cutting.cut.Goals as goal

pub returns-then-byte-mark-clause-before : goal.returns-then-byte-mark-clause-before
returns-then-byte-mark-clause-before c =
    sym (ap (λ (p : List ℕ × Option (List ℕ)). p.0)
    (marked c.args.mark c.args.bytes.now c.loop-at.at c.loop-at-test.true c.if-byte-mark.true c.loop-at.invariant))

pub returns-then-byte-mark-clause-behind : goal.returns-then-byte-mark-clause-behind
returns-then-byte-mark-clause-behind c =
    let rest = drop (c.loop-at.at + 1) c.args.bytes.now in
    ap (λ (p : List ℕ × Option (List ℕ)). p.1)
    (marked c.args.mark c.args.bytes.now c.loop-at.at c.loop-at-test.true c.if-byte-mark.true c.loop-at.invariant)
    ∙ ap (λ (l : List ℕ). Some l)
    (sym (take_all _ rest (omega (arith, length-drop (c.loop-at.at + 1) c.args.bytes.now))))

pub loop-at-preserved : goal.loop-at-preserved
loop-at-preserved c =
    one_more c.args.mark c.args.bytes.now c.loop-at.at c.loop-at-test.true (ne_eqb _ _ c.if-byte-mark.false)
    c.loop-at.invariant

pub returns-clause-before : goal.returns-clause-before
returns-clause-before c =
    let all = take_all c.loop-at.at c.args.bytes.now c.loop-at-test.false in
    sym (ap (λ (p : List ℕ × Option (List ℕ)). p.0)
    (cut_whole c.args.mark c.args.bytes.now
    (subst (λ (l : List ℕ). lacks c.args.mark l ≡ true) all c.loop-at.invariant)))

pub returns-clause-behind : goal.returns-clause-behind
returns-clause-behind c =
    let all = take_all c.loop-at.at c.args.bytes.now c.loop-at-test.false in
    ap (λ (p : List ℕ × Option (List ℕ)). p.1)
    (cut_whole c.args.mark c.args.bytes.now
    (subst (λ (l : List ℕ). lacks c.args.mark l ≡ true) all c.loop-at.invariant))
