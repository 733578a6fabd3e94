use Rattle.std.proofs.Common.{◌∙◌, ◌-◌, ℕ, List, Some, sym, ap, arith}
use Rattle.brc_graph.specs.Cells.{cells_from}
use Rattle.brc_graph.proofs.CellLaws.{none_behind, some_behind, bad_cell, last_cell, next_cell, no_cell}
use Rattle.brc_graph.proofs.cells.cells_of.Goals as goal

pub returns-in_default-clause-read : goal.returns-in_default-clause-read
returns-in_default-clause-read g c =
    sym (sym c.loop-left.invariant
    ∙ bad_cell c.loop-left.left (c.loop-left.left - 1) c.loop-left.cells.items c.loop-left.rest.now c.cut.result.0.now
    (omega (arith, c.loop-left-test.true)) c.cut.ensures.before (sym c.number_within.ensures ∙ c.in_default.is))

pub returns-in_default-behind-clause-read : goal.returns-in_default-behind-clause-read
returns-in_default-behind-clause-read g c =
    ap (λ (l : List ℕ). Some l) (c.new.ensures ∙ c.in_ok-push.ensures.items)
    ∙ sym (last_cell c.loop-left.left (c.loop-left.left - 1) c.loop-left.cells.items c.loop-left.rest.now
    c.cut.result.0.now c.in-Some.cell (omega (arith, c.loop-left-test.true)) c.cut.ensures.before
    (sym c.number_within.ensures ∙ c.in-Some.is)
    (none_behind c.cut.result.1 _ c.cut.ensures.behind c.in_default-behind.is))
    ∙ c.loop-left.invariant

pub loop-left-preserved : goal.loop-left-preserved
loop-left-preserved g c =
    ap (λ (l : List ℕ). cells_from (c.loop-left.left - 1) l c.in-Some-behind.later.now) c.in_ok-push.ensures.items
    ∙ sym (next_cell c.loop-left.left (c.loop-left.left - 1) c.loop-left.cells.items c.loop-left.rest.now
    c.cut.result.0.now c.in-Some-behind.later.now c.in-Some.cell (omega (arith, c.loop-left-test.true))
    c.cut.ensures.before (sym c.number_within.ensures ∙ c.in-Some.is)
    (some_behind c.cut.result.1 _ c.in-Some-behind.later c.cut.ensures.behind c.in-Some-behind.is))
    ∙ c.loop-left.invariant

pub returns-clause-read : goal.returns-clause-read
returns-clause-read g c =
    sym (sym c.loop-left.invariant
    ∙ no_cell c.loop-left.left c.loop-left.cells.items c.loop-left.rest.now (omega (arith, c.loop-left-test.false)))
