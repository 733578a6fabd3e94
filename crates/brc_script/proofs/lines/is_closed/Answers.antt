use Rattle.std.proofs.Common.{◌∙◌, ap, sym}
use Rattle.std.proofs.lemmas.Bool.{eqb-true}
use Rattle.brc_script.specs.Walks.{lines_of, decided}
use Rattle.brc_script.proofs.LinesLaws.{closed_here, closed_later, not_closed}
use Rattle.brc_script.proofs.lines.is_closed.Goals as goal

pub returns-in-Some : goal.returns-in-Some
returns-in-Some c =
    let here = ap decided (sym c.opening_of.ensures) ∙ sym c.in-Some.ensures in
    sym (sym c.loop-rest.invariant ∙ closed_here c.loop-rest.rest.now c.first_line.result.0.now
    (lines_of c.first_line.result.1.now) c.in-Some.closed c.first_line.ensures.lines here)

pub loop-rest-preserved : goal.loop-rest-preserved
loop-rest-preserved c =
    let later = ap decided (sym c.opening_of.ensures) ∙ sym c.in_default.ensures in
    sym (closed_later c.loop-rest.rest.now c.first_line.result.0.now (lines_of c.first_line.result.1.now)
    c.first_line.ensures.lines later) ∙ c.loop-rest.invariant

pub returns : goal.returns
returns c = sym (sym c.loop-rest.invariant
    ∙ not_closed c.loop-rest.rest.now (eqb-true _ _ (sym c.is_empty.ensures ∙ c.loop-rest-test.false)))
