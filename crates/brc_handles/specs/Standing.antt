-- Many handles beside their frame, and what stands between two calls: which handles the frame owns, and how many others.
use Rattle.std.specs.Prelude.{◌≡◌, ◌+◌, ℕ, List, Option}
use Rattle.brc_count.specs.Frames.{FrameSeen, HandleSeen, IsUnlocked, Owns}
use Rattle.brc_handles.specs.Handles.{Holds, OwnsEach, IsApart, filled}

module _ {A : Type 0} where
  -- Between two calls: the frame owns the handle of each place that isn't empty, and so many others; nothing is locked.
  pub record Stands (others : ℕ) (frame : FrameSeen A) (handles : List (Option HandleSeen)) : Type 0 where
    pub holds : Holds others frame handles
    pub unlocked : IsUnlocked frame

  -- Within a call: beside those and the others the frame owns this one handle more, which is in none of the places.
  pub record Besides (others : ℕ) (frame : FrameSeen A) (handles : List (Option HandleSeen)) (loose : HandleSeen)
      : Type 0 where
    pub holds : Holds (others + 1) frame handles
    pub owned : Owns frame loose
    pub apart : IsApart loose handles
    pub unlocked : IsUnlocked frame

  -- From before a call to behind it: the frame owns each handle that is there, and as many others as before; it is of
  -- the same heap, and nothing is locked. Each other that it owned it owns still, and that is in none of the places.
  pub record KeepsStanding (old new : FrameSeen A) (before after : List (Option HandleSeen)) : Type 0 where
    pub each : OwnsEach new after
    pub count : new.len + filled before ≡ old.len + filled after
    pub heap : new.heap ≡ old.heap
    pub unlocked : IsUnlocked new
    pub owns : (h : HandleSeen) → Owns old h → IsApart h before → Owns new h
    pub apart : (h : HandleSeen) → Owns old h → IsApart h before → IsApart h after
