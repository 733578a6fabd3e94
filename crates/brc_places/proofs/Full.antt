-- Places that each have a handle, as a stack's do.
use Rattle.std.proofs.Common.{arith, ◌≡◌, ◌-◌, List, [], ◌∷◌, ◌++◌, Option, length, slice_set}
use Rattle.std.proofs.lemmas.Grind.{common_steps}
use Rattle.brc_count.specs.Frames.{HandleSeen}
use Rattle.brc_places.specs.Stacking.{AreFilled}

-- what came out for the last handle is in its place, or nothing is, and that place goes
pub filled_but_last : (before places after : List (Option HandleSeen)) (answer last : Option HandleSeen)
    → AreFilled before → places ≡ slice_set before (length before - 1) answer → places ≡ after ++ last ∷ []
    → AreFilled after
filled_but_last before places after answer last filled set popped k inside = grind (arith, common_steps, filled k)
