use Rattle.std.proofs.Common.{◌∙◌, sym}
use Rattle.std.proofs.lemmas.Bool.{eqb-true}
use Rattle.brc_script.proofs.LinesLaws.{no_section}
use Rattle.brc_script.proofs.lines.has_section.Goals as goal

pub returns : goal.returns
returns c = sym (sym c.loop-rest.invariant
    ∙ no_section c.loop-rest.rest.now (eqb-true _ _ (sym c.is_empty.ensures ∙ c.loop-rest-test.false)))
