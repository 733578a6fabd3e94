-- What a call on an object says of its result: what was done, and what a refusal leaves. Each is said over the frame
-- that the locking began from: of a form with `try_` the one before the call, of one that waits the one after its lost
-- tries. Which handles the frame has then stands beside it in each contract, over the frames before and after the call
-- (`brc_count`, `specs/Owned.antt`).
use Rattle.std.specs.Prelude.{ℕ, Result, IfOk, IfErr, OnErr}
use Rattle.brc_words.specs.declared.fault.Fault.{Fault}
use Rattle.brc_count.specs.declared.handed.HandedBack.{HandedBack}
use Rattle.brc_count.specs.Frames.{FrameSeen}
use Rattle.brc_count.specs.Locking.{KeepsThread, KeepsFrame}
use Rattle.brc_things.specs.Waiting.{Waits}
use Rattle.brc_things.specs.Changing.{KeepsAllPlaces}

module _ {A : Type 0} where
  -- so after some tries, each of which found the object in the place locked by another thread, and changed nothing
  abbrev pub Late : FrameSeen A → ℕ → (FrameSeen A → Type 0) → Type 0
  Late old k done = (mid : FrameSeen A) × Waits old k mid × done mid

  -- A call that looks at one object. The answer says this of what was found; or the call was refused, and why. The
  -- frame is as it was.
  pub record Looked {T : Type 0} (old new : FrameSeen A) (told : T → Type 0) (why : Fault → Type 0)
      (result : Result T Fault) : Type 0 where
    pub thread : KeepsThread old new
    pub frame : KeepsFrame old new
    pub found : IfOk result told
    pub refused : IfErr result why

  -- A call that answers a handle, or one with what it was found by. This was done; or the call was refused, and why,
  -- and every place is as it was.
  pub record HandsOut {T : Type 0} (old new : FrameSeen A) (done : T → Type 0) (why : Fault → Type 0)
      (result : Result T Fault) : Type 0 where
    pub thread : KeepsThread old new
    pub did : IfOk result done
    pub places : OnErr result (KeepsAllPlaces old new)
    pub refused : IfErr result why

  -- A call that a value is given to. This was done; or the call was refused, and why, and the frame is as it was.
  pub record TakesIn {T V : Type 0} (old new : FrameSeen A) (done : T → Type 0) (why : Fault → Type 0)
      (result : Result T (HandedBack V)) : Type 0 where
    pub thread : KeepsThread old new
    pub did : IfOk result done
    pub frame : OnErr result (KeepsFrame old new)
    pub refused : IfErr result (λ handed. why handed.fault)

  -- As `TakesIn`, of a call that may want a place of the frame: a refusal leaves every place as it was.
  pub record TakesInPlaced {T V : Type 0} (old new : FrameSeen A) (done : T → Type 0) (why : Fault → Type 0)
      (result : Result T (HandedBack V)) : Type 0 where
    pub thread : KeepsThread old new
    pub did : IfOk result done
    pub places : OnErr result (KeepsAllPlaces old new)
    pub refused : IfErr result (λ handed. why handed.fault)
