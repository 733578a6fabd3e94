use Rattle.std.proofs.Common.{sym, subst}
use Rattle.brc_text.specs.Puts.{PutsText}
use Rattle.brc_program.specs.declared.failed.Failed.{Failed}
use Rattle.brc_program.specs.Errors.{told_text}
use Rattle.brc_program.proofs.telling.put_told.Goals as goal

pub returns-in-NoGraph : goal.returns-in-NoGraph
returns-in-NoGraph g c =
    let P : Failed → Type 0 = λ failed. PutsText (g.E.Write.contents c.args.errors.now)
    (g.E.Write.contents c.put_bad_line.new.errors) c.put_bad_line.result (told_text failed) in
    subst P (sym c.in-NoGraph.is) c.put_bad_line.ensures
