use Rattle.std.proofs.Common.{◌<◌, List, length, subst}
use Rattle.brc_script.specs.Instructions.{NumberedLine}
use Rattle.brc_section.proofs.Runs.{none_in}
use Rattle.brc_section.proofs.section.first_in.Goals as goal

pub returns-in-empty-clause-none : goal.returns-in-empty-clause-none
returns-in-empty-clause-none g c = none_in c.args.piece.now c.in-Repeat.times c.in-Repeat.lines c.in-Repeat.is
    (subst (λ (lines : List (NumberedLine g.row.A.Denot)). length lines < 1) c.as_slice.ensures c.in-empty.len_below)
