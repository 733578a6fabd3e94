-- Which handles a frame owns, before and after a call or several: what a client carries from call to call.
use Rattle.std.specs.Prelude.{◌≡◌, ◌≢◌, ◌+◌, ◌<◌}
use Rattle.brc_words.specs.declared.limits.TheConstants.{MOST_PLACES}
use Rattle.brc_count.specs.Frames.{FrameSeen, HandleSeen, IsUnlocked, Owns}

module _ {A : Type 0} where
  -- what the frame owned it owns still
  pub record Keeps (old new : FrameSeen A) : Type 0 where
    pub heap : new.heap ≡ old.heap
    pub len : new.len ≡ old.len
    pub owns : (h : HandleSeen) → Owns old h → Owns new h

  -- a handle more, in a place that no other has
  pub record Gains (old new : FrameSeen A) (given : HandleSeen) : Type 0 where
    pub heap : new.heap ≡ old.heap
    pub len : new.len ≡ old.len + 1
    pub owns : (h : HandleSeen) → Owns old h → Owns new h
    pub owned : Owns new given
    pub room : given.place < MOST_PLACES
    pub apart : (h : HandleSeen) → Owns old h → given.place ≢ h.place

  -- a handle fewer: what the frame owned in other places it owns still
  pub record Loses (old new : FrameSeen A) (gone : HandleSeen) : Type 0 where
    pub heap : new.heap ≡ old.heap
    pub len : new.len + 1 ≡ old.len
    pub owns : (h : HandleSeen) → Owns old h → gone.place ≢ h.place → Owns new h

  -- one handle for another: what the frame owned in other places it owns still, and the new one is of none of those
  pub record Trades (old new : FrameSeen A) (gone given : HandleSeen) : Type 0 where
    pub heap : new.heap ≡ old.heap
    pub len : new.len ≡ old.len
    pub owns : (h : HandleSeen) → Owns old h → gone.place ≢ h.place → Owns new h
    pub owned : Owns new given
    pub apart : (h : HandleSeen) → Owns old h → gone.place ≢ h.place → given.place ≢ h.place

  -- the heap is the same, and nothing is locked
  pub record GoesOn (old new : FrameSeen A) : Type 0 where
    pub heap : new.heap ≡ old.heap
    pub unlocked : IsUnlocked new
