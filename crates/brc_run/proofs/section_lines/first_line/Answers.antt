use Rattle.std.proofs.Common.{◌≡◌, ◌∙◌, ◌+◌, ◌∷◌, ℕ, List, true, false, ap, sym, subst, take, drop, length-drop, arith}
use Rattle.std.proofs.lemmas.List.{take_all}
use Rattle.std.proofs.lemmas.Bool.{ne_eqb}
use Rattle.brc_text.specs.Lines.{lacks, pieces}
use Rattle.brc_run.proofs.Cutting.{ended_line, goes_past, open_line}
use Rattle.brc_run.proofs.section_lines.first_line.Goals as goal

pub returns-then-byte-eq10-clause-line : goal.returns-then-byte-eq10-clause-line
returns-then-byte-eq10-clause-line c =
    let rest = drop (c.loop-at.at + 1) c.args.text.now in (
      true,
      ended_line c.args.text.now c.loop-at.at c.loop-at-test.true c.if-byte-eq10.true c.loop-at.invariant
          ∙ ap (λ (l : List ℕ). (take c.loop-at.at c.args.text.now, true) ∷ pieces l)
          (sym (take_all _ rest (omega (arith, length-drop (c.loop-at.at + 1) c.args.text.now)))),
    )

pub loop-at-preserved : goal.loop-at-preserved
loop-at-preserved c = goes_past c.args.text.now c.loop-at.at c.loop-at-test.true (ne_eqb _ _ c.if-byte-eq10.false)
    c.loop-at.invariant

pub returns-clause-line : goal.returns-clause-line
returns-clause-line c =
    let all = take_all c.loop-at.at c.args.text.now c.loop-at-test.false in
    (false, open_line c.args.text.now c.requires (subst (λ (l : List ℕ). lacks 10 l ≡ true) all c.loop-at.invariant))
