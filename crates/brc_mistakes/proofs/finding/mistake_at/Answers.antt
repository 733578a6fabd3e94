use Rattle.std.proofs.Common.{◌∷◌, ◌∙◌, sym, arith}
use Rattle.std.proofs.lemmas.Bool.{eqb-true}
use Rattle.brc_script.specs.Walks.{lines_of}
use Rattle.brc_script.proofs.LinesLaws.{no_lines}
use Rattle.brc_mistakes.proofs.LineLaws.{of_line, at_number}
use Rattle.brc_mistakes.proofs.RuleLaws.{none_from, kept_past, kept_there}
use Rattle.brc_mistakes.proofs.finding.mistake_at.Goals as goal

pub returns-in-Some-clause-told : goal.returns-in-Some-clause-told
returns-in-Some-clause-told c =
    let lines = lines_of c.first_line.result.1.now in
    at_number c.args.text.now c.args.number (c.first_line.result.0.now ∷ lines) c.in-Some.mistake
    (sym c.text_from-rest.ensures.lines ∙ c.first_line.ensures.lines)
    (of_line c.args.text.now c.first_line.result.0.now c.args.number lines c.in-Some.mistake c.in-Some.ensures.told)

pub returns-then-number-text-clause-none : goal.returns-then-number-text-clause-none
returns-then-number-text-clause-none c =
    kept_past c.args.text.now c.args.number (none_from c.args.text.now c.args.number (omega arith))

pub returns-then-is_empty-clause-none : goal.returns-then-is_empty-clause-none
returns-then-is_empty-clause-none c =
    kept_past c.args.text.now c.args.number
    (sym c.text_from-rest.ensures.lines
    ∙ no_lines c.text_from-rest.result.now (eqb-true _ _ (sym c.is_empty.ensures ∙ c.if-is_empty.true)))

pub returns-in-None-clause-none : goal.returns-in-None-clause-none
returns-in-None-clause-none c =
    kept_there c.mistake_of_place.result c.args.text.now c.first_line.result.0.now c.args.number
    (lines_of c.first_line.result.1.now) (sym c.text_from-rest.ensures.lines ∙ c.first_line.ensures.lines)
    c.in-None.ensures.none c.mistake_of_place.ensures.none
