-- A frame since an object was locked.
use Rattle.std.specs.Prelude.{ℕ}
use Rattle.brc_count.specs.block.declared.payload.Payload.{Payload}
use Rattle.brc_count.specs.Frames.{FrameSeen}
use Rattle.brc_count.specs.Locking.{Began, KeepsThread, KeepsFrame}

module _ {A : Type 0} where
  -- the object in the place was locked, and nothing else was done; its block is the thread's
  pub record JustLocked (before now : FrameSeen A) (k : ℕ) (block : ℕ × Payload A) : Type 0 where
    pub began : Began before now k block
    pub keeps : KeepsThread before now
    pub frame : KeepsFrame before now

  -- so of each frame from which the locking may have begun
  abbrev pub Since : FrameSeen A → ℕ × Payload A → (FrameSeen A → ℕ → Type 0) → Type 0
  Since now block holds = (before : FrameSeen A) (k : ℕ) → JustLocked before now k block → holds before k
