-- Settling: polls and turns of work, in turn.
use Rattle.std.specs.Prelude.{◌≡◌, ℕ, []}
use Rattle.brc_count.specs.Frames.{FrameSeen, Turns}
use Rattle.brc_count.specs.Polling.{Polled}

module _ {A : Type 0} where
  -- some polls and some turns of work, in any order
  pub data PollsAndWorks (old : FrameSeen A) : FrameSeen A → Type 0 where
    Nothing : PollsAndWorks old old
    Worked : (n : ℕ) (mid new : FrameSeen A) → PollsAndWorks old mid → Turns mid n new → PollsAndWorks old new
    Polls : (told : ℕ) (mid new : FrameSeen A) → PollsAndWorks old mid → Polled mid new told → PollsAndWorks old new

  -- the last of them is a poll that was told nothing, and no dead block is left
  pub record Settles (old new : FrameSeen A) : Type 0 where
    pub mid : FrameSeen A
    pub before : PollsAndWorks old mid
    pub last : Polled mid new 0
    pub done : new.works ≡ []
