use Rattle.std.proofs.Common.{◌≡◌, ◌∙◌, List, [], ◌∷◌, sym, ap, subst}
use Rattle.std.specs.List.{repeat}
use Rattle.brc_script.specs.declared.script.Piece.{Piece}
use Rattle.brc_script.specs.Instructions.{NumberedLine}
use Rattle.brc_meaning.specs.Sections.{written_out}
use Rattle.brc_section.specs.Running.{AreOwn, RunsOn}
use Rattle.brc_section.specs.Wants.{HaltsForCause}
use Rattle.brc_section.proofs.Runs.{repeat_alone}
use Rattle.brc_section.proofs.running.run_piece.Goals as goal

pub returns-in-Repeat-clause-runs : goal.returns-in-Repeat-clause-runs
returns-in-Repeat-clause-runs g c =
    let whole : repeat c.in-Repeat.times c.as_slice.result.now ≡ written_out (c.args.piece.now ∷ [])
    = ap (λ (lines : List (NumberedLine g.row.A.Denot)). repeat c.in-Repeat.times lines) c.as_slice.ensures
    ∙ repeat_alone c.in-Repeat.times c.in-Repeat.body
    ∙ ap (λ (p : Piece g.row.A.Denot). written_out (p ∷ [])) (sym c.in-Repeat.is)
    in subst (λ (lines : List (NumberedLine g.row.A.Denot)). RunsOn c.args.frame.now c.args.registers.now
    c.args.lines.now.items c.run_times.new.frame c.run_times.new.registers c.run_times.new.lines.items lines c.run_times.result)
    whole c.run_times.ensures.runs

pub returns-in-Repeat-clause-wants : goal.returns-in-Repeat-clause-wants
returns-in-Repeat-clause-wants g c =
    let whole : repeat c.in-Repeat.times c.as_slice.result.now ≡ written_out (c.args.piece.now ∷ [])
    = ap (λ (lines : List (NumberedLine g.row.A.Denot)). repeat c.in-Repeat.times lines) c.as_slice.ensures
    ∙ repeat_alone c.in-Repeat.times c.in-Repeat.body
    ∙ ap (λ (p : Piece g.row.A.Denot). written_out (p ∷ [])) (sym c.in-Repeat.is)
    in subst (λ (lines : List (NumberedLine g.row.A.Denot)). AreOwn lines
    → HaltsForCause c.args.frame.now c.run_times.new.frame c.run_times.result) whole c.run_times.ensures.wants
