-- What a wait for a handle came to.
use Rattle.std.specs.Prelude.{Result, Ok, Err}
use Rattle.brc_words.specs.declared.fault.Fault.{Fault}
use Rattle.brc_count.specs.Frames.{FrameSeen, HandleSeen}
use Rattle.brc_count.specs.Owned.{Keeps}
use Rattle.brc_loops.specs.declared.stopping.Waited.{Waited}
use Rattle.brc_loops.specs.declared.stopping.Waited.TheVariants.{Got, Stopped, Refused}

module _ {A : Type 0} where
  -- so of the handle that it has
  abbrev pub IfGot : Waited A → (HandleSeen → Type 0) → Type 0
  IfGot (Got handle) is = is handle
  IfGot Stopped is = Unit {0}
  IfGot (Refused fault) is = Unit {0}

  -- so if it has none
  abbrev pub UnlessGot : Waited A → Type 0 → Type 0
  UnlessGot (Got handle) is = Unit {0}
  UnlessGot Stopped is = is
  UnlessGot (Refused fault) is = is

  -- so if it was stopped
  abbrev pub IfStopped : Waited A → Type 0 → Type 0
  IfStopped (Got handle) is = Unit {0}
  IfStopped Stopped is = is
  IfStopped (Refused fault) is = Unit {0}

  -- so of why it was refused
  abbrev pub IfRefused : Waited A → (Fault → Type 0) → Type 0
  IfRefused (Got handle) is = Unit {0}
  IfRefused Stopped is = Unit {0}
  IfRefused (Refused fault) is = is fault

  -- what its last try returned; one that was stopped had found nothing, which is this fault
  abbrev pub last_of : Fault → Waited A → Result HandleSeen Fault
  last_of nothing (Got handle) = Ok handle
  last_of nothing Stopped = Err nothing
  last_of nothing (Refused fault) = Err fault

  -- Its last try, from a frame that owns what the first one owned.
  pub record LastTry (Tries : FrameSeen A → FrameSeen A → Result HandleSeen Fault → Type 0) (nothing : Fault)
      (old new : FrameSeen A) (waited : Waited A) : Type 0 where
    pub from : FrameSeen A
    pub keeps : Keeps old from
    pub tries : Tries from new (last_of nothing waited)
