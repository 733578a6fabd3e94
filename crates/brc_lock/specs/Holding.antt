-- What contracts see of a lock that is held, and what making it, and letting it go, do to its frame.
use Rattle.std.specs.Prelude.{◌≡◌, ℕ, ◌<◌, ◌≤◌, ◌∷◌, Some, length}
use Rattle.brc_words.specs.declared.limits.TheConstants.{MOST_ENTRIES}
use Rattle.brc_words.specs.declared.fault.Fault.{Fault}
use Rattle.brc_words.specs.declared.fault.Fault.TheVariants as faults
use Rattle.brc_count.specs.block.declared.payload.Payload.{Payload}
use Rattle.brc_count.specs.block.Payload.{spare_of}
use Rattle.brc_count.specs.law.declared.world.event.Change.{Change}
use Rattle.brc_count.specs.law.declared.world.event.Step.TheVariants.{Unlock}
use Rattle.brc_count.specs.law.declared.rule.contents.Contents.{Contents}
use Rattle.brc_count.specs.law.declared.rule.told.Moved.TheVariants as moves
use Rattle.brc_count.specs.law.declared.rule.told.LogItem.TheVariants.{Stepped}
use Rattle.brc_count.specs.law.rule.Logs.{entries_in}
use Rattle.brc_count.specs.table.Shown.{contents_of}
use Rattle.brc_count.specs.Frames.{FrameSeen, HandleSeen, IsUnlocked}
use Rattle.brc_count.specs.Locking.{IsLocked, place_locked, cell_locked, contents_found, KeepsThread}

module _ {A : Type 0} where
  -- The frame has the handle's object locked, and the block is that object's, with the contents that the locking found.
  pub record HasLockedBlock (frame : FrameSeen A) (handle : HandleSeen) (block : ℕ × Payload A) : Type 0 where
    pub locked : IsLocked frame
    pub place : place_locked frame ≡ Some handle.place
    pub cell : cell_locked frame ≡ Some block.0
    pub found : contents_of block.1 ≡ contents_found frame

  -- The object of that cell was put home with these contents and unlocked, by one event.
  pub record Unlocked (old new : FrameSeen A) (change : Change) (cell : ℕ) (put : Contents) : Type 0 where
    pub event : new.seat.log ≡ Stepped (Unlock change) 0 (moves.Put cell put) ∷ old.seat.log
    pub unlocked : IsUnlocked new
    pub keeps : KeepsThread old new

  -- the locked object may have an entry more, and wants no memory for it
  pub record HasRoom (block : ℕ × Payload A) : Type 0 where
    pub few : length (entries_in (contents_of block.1)) < MOST_ENTRIES
    pub spare : 0 < spare_of block.1

  -- room is refused where the object has 1,048,576 entries, which is looked at first; or memory was missing
  abbrev pub RefusedRoom : ℕ × Payload A → Fault → Type 0
  RefusedRoom block faults.Full = MOST_ENTRIES ≤ length (entries_in (contents_of block.1))
  RefusedRoom block faults.OutOfMemory = (length (entries_in (contents_of block.1)) < MOST_ENTRIES)
      × (spare_of block.1 ≡ 0)
  RefusedRoom block _ = ⊥
