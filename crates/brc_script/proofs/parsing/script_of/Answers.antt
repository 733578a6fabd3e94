use Rattle.std.proofs.Common.{◌∙◌, ap, sym}
use Rattle.std.proofs.lemmas.Result.{err_from_is_err_and}
use Rattle.brc_script.specs.Walks.{finished}
use Rattle.brc_script.proofs.WalkLaws.{long_text, no_sections, with_sections, refused_below, gives_same, refused_same}
use Rattle.brc_script.proofs.parsing.script_of.Goals as goal

pub returns-then-text-gt-MOST_INPUT : goal.returns-then-text-gt-MOST_INPUT
returns-then-text-gt-MOST_INPUT g c = long_text c.args.text.now c.if-text-gt-MOST_INPUT.true

pub returns-then-not-has_section : goal.returns-then-not-has_section
returns-then-not-has_section g c = no_sections c.args.text.now c.if-text-gt-MOST_INPUT.false (sym c.has_section.ensures
    ∙ c.if-not-has_section.true)

pub returns-in_err-progress : goal.returns-in_err-progress
returns-in_err-progress g c =
    let p = err_from_is_err_and c.from_residual.result c.from_residual.ensures.1 in
    let fault = c.in_err-progress.field-0.0 in
    let whole = with_sections c.args.text.now c.if-text-gt-MOST_INPUT.false (sym c.has_section.ensures
    ∙ c.if-not-has_section.false) in
    rw (p.1, p.2) (refused_same fault _ _ (sym whole) (refused_below fault _ c.in_err-progress.ensures.read))

pub returns : goal.returns
returns g c =
    let whole = with_sections c.args.text.now c.if-text-gt-MOST_INPUT.false (sym c.has_section.ensures
    ∙ c.if-not-has_section.false) in
    gives_same c.finish.result _ _ (sym (whole ∙ ap finished c.in_ok-progress.ensures.read)) c.finish.ensures
