-- What stays as an instruction tries again.
use Rattle.std.specs.Prelude.{◌≡◌, ℕ, List, Option}
use Rattle.brc_count.specs.Frames.{FrameSeen, HandleSeen}
use Rattle.brc_meaning.specs.declared.state.State.{State}
use Rattle.brc_count.specs.law.living.Living.{OwnLog}
use Rattle.brc_count.specs.law.living.Later.{IsLater}
use Rattle.law_isolation.specs.Means.{Means}

module _ {A : Type 0} where
  -- frame and registers went on, and mean what they meant
  pub record StaysMeant (old : FrameSeen A) (before : List (Option HandleSeen)) (frame : FrameSeen A)
      (registers : List (Option HandleSeen)) : Type 0 where
    pub heap : frame.heap ≡ old.heap
    pub later : IsLater old.seat.log frame.seat.log
    pub means : (base : ℕ) (s : State A) → OwnLog frame.heap.cells frame.seat.log → Means base old before s
        → Means base frame registers s
