use Rattle.std.proofs.Common.{ℕ, List, Bool, subst}
use Rattle.std.specs.Prelude.{IfOk}
use Rattle.law.specs.declared.world.edition.Edition.{Edition}
use Rattle.brc_trace.specs.Causes.{IsCause, piece_at}
use Rattle.brc_trace.proofs.CauseLaws.{line_from}
use Rattle.brc_trace.proofs.causes.cause_of.Goals as goal

pub returns : goal.returns
returns g c =
    subst (λ (edition : Edition). IfOk c.cause_of_line.result
    (λ cause. IsCause edition cause c.args.number (piece_at c.args.number c.args.text.now))) c.edition_of.ensures
    (subst (λ (piece : List ℕ × Bool). IfOk c.cause_of_line.result
    (λ cause. IsCause c.edition_of.result cause c.args.number piece))
    (line_from c.args.text.now c.text_from.result.now c.args.number c.text_from.ensures) c.cause_of_line.ensures)
