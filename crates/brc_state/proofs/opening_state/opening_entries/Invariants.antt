use Rattle.std.proofs.Common.{◌≡◌, [], replicate}
use Rattle.brc_state.proofs.opening_state.opening_entries.Given as goal

abbrev pub invariant-loop-cell : goal.invariant-loop-cell
invariant-loop-cell g l = l.made.items ≡ replicate l.cell []
