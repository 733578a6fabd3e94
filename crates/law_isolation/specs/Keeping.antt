-- What a call leaves in the places of registers.
use Rattle.std.specs.Prelude.{◌≡◌, ℕ, List, Option, IfSome}
use Rattle.brc_count.specs.Frames.{FrameSeen, HandleSeen, place_seen}
use Rattle.brc_handles.specs.Handles.{slot}

module _ {A : Type 0} where
  -- the handle's place has what it had
  abbrev pub KeepsPlace : FrameSeen A → FrameSeen A → HandleSeen → Type 0
  KeepsPlace old new handle = place_seen new.heap.cells new.seat.log handle.place ≡ place_seen old.heap.cells
      old.seat.log handle.place

  -- so of each register that holds something
  abbrev pub KeepsRegisters : FrameSeen A → FrameSeen A → List (Option HandleSeen) → Type 0
  KeepsRegisters old new registers = (r : ℕ) → IfSome (slot registers r) (KeepsPlace old new)
