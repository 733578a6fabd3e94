-- There are no more handles in registers than registers.
use Rattle.std.proofs.Common.{arith, ◌≤◌, List, [], ◌∷◌, Option, Some, None, length}
use Rattle.brc_count.specs.Frames.{HandleSeen}
use Rattle.brc_handles.specs.Handles.{filled}

pub filled_within : (handles : List (Option HandleSeen)) → filled handles ≤ length handles
filled_within [] = omega arith
filled_within (None ∷ handles) = omega (arith, filled_within handles)
filled_within (Some h ∷ handles) = omega (arith, filled_within handles)
