use Rattle.std.proofs.Common.{◌≡◌, ℕ, None}
use Rattle.brc_handles.specs.Handles.{slot}
use Rattle.brc_handles.proofs.handles.Handles.spend.Given as goal

abbrev pub invariant-loop-slot : goal.invariant-loop-slot
invariant-loop-slot g l = (k : ℕ) → slot l.slots.items k ≡ None

abbrev pub decreases-loop-slot : goal.decreases-loop-slot
decreases-loop-slot g l = goal.left-loop-slot g l
