-- The registers of a section beside its frame, and what stands between two instructions: no handle is owned besides.
use Rattle.std.specs.Prelude.{List, Option}
use Rattle.brc_count.specs.Frames.{FrameSeen, HandleSeen}
use Rattle.brc_handles.specs.Standing as handles

module _ {A : Type 0} where
  -- Between two instructions: the frame owns the handle of each register that isn't empty, and no other handle; nothing
  -- is locked.
  abbrev pub OwnsRegisters : FrameSeen A → List (Option HandleSeen) → Type 0
  OwnsRegisters frame registers = handles.Stands 0 frame registers

  -- Within an instruction: beside those of the registers the frame owns this one handle more, which is in none of them.
  abbrev pub OwnsRegistersBeside : FrameSeen A → List (Option HandleSeen) → HandleSeen → Type 0
  OwnsRegistersBeside frame registers = handles.Besides 0 frame registers
