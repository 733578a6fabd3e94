-- What the calls on a stack do to its top.
use Rattle.std.specs.Prelude.{◌≡◌, ◌≢◌, ◌-◌, ◌<◌, ℕ, List, [], ◌∷◌, ◌++◌, Option, Some, None, Result, MatchOption, length, slice_set}
use Rattle.brc_count.specs.declared.handed.HandedBack.{HandedBack}
use Rattle.brc_count.specs.Frames.{FrameSeen, HandleSeen}
use Rattle.brc_count.specs.Owned.{Loses}
use Rattle.brc_handles.specs.Handles.{slot}
use Rattle.brc_places.specs.Placing.{TakesFrom}

-- each place has a handle
abbrev pub AreFilled : List (Option HandleSeen) → Type 0
AreFilled handles = (k : ℕ) → k < length handles → slot handles k ≢ None

module _ {A : Type 0} where
  -- The handle on top is in place i, and its own place is gone. What was in place i is released.
  pub record Stores (old new : FrameSeen A) (before after : List (Option HandleSeen)) (i : ℕ) : Type 0 where
    pub handle : HandleSeen
    pub rest : List (Option HandleSeen)
    pub popped : before ≡ rest ++ Some handle ∷ []
    pub set : after ≡ slice_set rest i (Some handle)
    pub gone : MatchOption (slot rest i) (new ≡ old) (Loses old new)

  -- the last place is gone, and what was in it is released
  pub record DropsLast (old new : FrameSeen A) (before after : List (Option HandleSeen)) : Type 0 where
    pub last : Option HandleSeen
    pub popped : before ≡ after ++ last ∷ []
    pub gone : MatchOption last (new ≡ old) (Loses old new)

  -- The handle on top went by the call into the container below it. Then its place is gone, and what was in it, which is
  -- what came out, is released.
  pub record TakesTop (call : FrameSeen A → ℕ → HandleSeen → Result (Option HandleSeen) (HandedBack HandleSeen)
      → Type 0)
      (new : FrameSeen A) (before after : List (Option HandleSeen)) : Type 0 where
    pub between : FrameSeen A
    pub places : List (Option HandleSeen)
    pub took : TakesFrom call between before places (length before - 2) (length before - 1)
    pub last : Option HandleSeen
    pub popped : places ≡ after ++ last ∷ []
    pub gone : MatchOption last (new ≡ between) (Loses between new)
