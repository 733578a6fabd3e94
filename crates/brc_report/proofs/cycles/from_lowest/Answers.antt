use Rattle.std.proofs.Common.{◌++◌, ℕ, List, ap, ◌∙◌, arith, drop, take}
use Rattle.brc_report.proofs.Searching.{turned_is, tail_range}
use Rattle.brc_report.proofs.cycles.from_lowest.Goals as goal

pub returns : goal.returns
returns g c =
    turned_is c.args.cells.now _ c.loop-index.lowest c.loop-index.invariant.0
    (λ k within. c.loop-index.invariant.1 k (omega arith))
    (c.in_ok-extend_from_slice-2.ensures.items
    ∙ ap (λ (w : List ℕ). w ++ take c.loop-index.lowest c.args.cells.now)
    (c.in_ok-extend_from_slice.ensures.items
    ∙ (ap (λ (w : List ℕ). c.new-turned.result.items ++ w) (tail_range c.args.cells.now c.loop-index.lowest)
    ∙ ap (λ (w : List ℕ). w ++ drop c.loop-index.lowest c.args.cells.now) c.new-turned.ensures.items)))
