-- Many handles that a frame owns while turns are done over it, each of which keeps its handles.
use Rattle.std.specs.Prelude.{List, Option, Some, None, IfSome}
use Rattle.std.proofs.Common.{◌∙◌}
use Rattle.brc_count.specs.Frames.{FrameSeen, HandleSeen, Owns}
use Rattle.brc_count.specs.Owned.{Keeps}
use Rattle.brc_handles.specs.Handles.{slot, Holds, OwnsEach}

module _ {A : Type 0} where
  -- what was in a place is owned still
  pub owned_still : (old new : FrameSeen A) (place : Option HandleSeen) → Keeps old new
      → IfSome place (Owns old) → IfSome place (Owns new)
  owned_still old new None keeps owned = owned
  owned_still old new (Some h) keeps owned = keeps.owns h owned

  -- so is what was in any of them
  pub each_still : (handles : List (Option HandleSeen)) (old new : FrameSeen A) → Keeps old new
      → OwnsEach old handles → OwnsEach new handles
  each_still handles old new keeps owned = λ k. owned_still old new (slot handles k) keeps (owned k)

  -- and the frame has as many others
  pub held_still : (handles : List (Option HandleSeen)) (old new : FrameSeen A) → Keeps old new
      → Holds 0 old handles → Holds 0 new handles
  held_still handles old new keeps holds = record {
    owned = each_still handles old new keeps holds.owned;
    count = keeps.len ∙ holds.count;
  }
