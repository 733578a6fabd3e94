use Rattle.std.proofs.Common.{◌<◌, ◌≤◌, ℕ, length, slice_index}
use Rattle.brc_report.proofs.cycles.from_lowest.Given as goal

abbrev pub invariant-loop-index : goal.invariant-loop-index
invariant-loop-index g l =
    (l.lowest < length l.cells)
    × ((k : ℕ) → k < l.index → slice_index l.cells l.lowest ≤ slice_index l.cells k)
