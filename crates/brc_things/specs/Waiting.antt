-- Locking an object once no other thread has it locked.
use Rattle.std.specs.Prelude.{ℕ}
use Rattle.brc_count.specs.block.declared.payload.Payload.{Payload}
use Rattle.brc_count.specs.Frames.{FrameSeen}
use Rattle.brc_count.specs.Locking.{Began, Busy, KeepsThread, KeepsFrame}

module _ {A : Type 0} where
  -- the object in the place was found locked, and nothing changed but a note
  pub record IsBusy (old new : FrameSeen A) (k : ℕ) : Type 0 where
    pub busy : Busy old new k
    pub keeps : KeepsThread old new
    pub frame : KeepsFrame old new

  -- some tries, each of which found the object in the place locked by another thread, and changed nothing
  pub data Waits (old : FrameSeen A) (k : ℕ) : FrameSeen A → Type 0 where
    NoTry : Waits old k old
    OneMore : (mid new : FrameSeen A) → Waits old k mid → IsBusy mid new k → Waits old k new

  -- after some such tries the object was locked
  pub record BeginsLate (old new : FrameSeen A) (k : ℕ) (block : ℕ × Payload A) : Type 0 where
    pub mid : FrameSeen A
    pub waits : Waits old k mid
    pub began : Began mid new k block
    pub keeps : KeepsThread mid new
    pub frame : KeepsFrame mid new
    pub keeps_all : KeepsThread old new
    pub frame_all : KeepsFrame old new
