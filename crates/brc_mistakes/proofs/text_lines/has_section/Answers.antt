use Rattle.std.proofs.Common.{◌∙◌, sym, ap}
use Rattle.std.specs.List.{list_any}
use Rattle.std.proofs.lemmas.Bool.{eqb-true}
use Rattle.brc_script.proofs.LinesLaws.{no_lines}
use Rattle.brc_mistakes.specs.Places.{begins_section}
use Rattle.brc_mistakes.proofs.text_lines.has_section.Goals as goal

pub returns : goal.returns
returns c = sym (sym c.loop-rest.invariant
    ∙ ap (list_any begins_section)
    (no_lines c.loop-rest.rest.now (eqb-true _ _ (sym c.is_empty.ensures ∙ c.loop-rest-test.false))))
