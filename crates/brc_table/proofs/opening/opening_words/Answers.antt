use Rattle.std.proofs.Common.{rules, ◌≡◌, ℕ, subst}
use Rattle.brc_table.proofs.Laying.{CountsLaid, one_cell_more, all_laid}
use Rattle.brc_table.proofs.opening.opening_words.Goals as goal

pub loop-cell-preserved : goal.loop-cell-preserved
loop-cell-preserved g c = one_cell_more c.args.cells c.loop-cell.cell c.loop-cell.made.items _ c.loop-cell.invariant
    (search rules) (search rules)

pub returns : goal.returns
returns g c =
    let all : c.loop-cell.cell ≡ c.args.cells = search rules in
    all_laid c.args.cells c.loop-cell.made.items
    (subst (λ (k : ℕ). CountsLaid c.args.cells k c.loop-cell.made.items) all c.loop-cell.invariant)
