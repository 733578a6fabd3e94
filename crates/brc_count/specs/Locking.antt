-- What contracts see of a frame's locked object, and what locking it, naming its entries and unlocking it do.
use Rattle.std.specs.Prelude.{◌≡◌, ◌≢◌, ◌<◌, ◌≤◌, ℕ, true, List, ◌∷◌, length, Option, Some, None, is_some}
use Rattle.brc_words.specs.declared.limits.TheConstants.{MOST_ENTRIES}
use Rattle.brc_table.specs.block.declared.payload.Payload.{Payload}
use Rattle.brc_table.specs.law.declared.world.event.Change.{Change}
use Rattle.brc_table.specs.law.declared.world.event.Change.TheVariants.{Put, Take, Swap}
use Rattle.brc_table.specs.law.declared.world.event.Dropped.TheVariants as drops
use Rattle.brc_table.specs.law.declared.world.event.Source.TheVariants as sources
use Rattle.brc_table.specs.law.declared.world.event.Step.TheVariants.{Lock, Unlock, LocalDown}
use Rattle.brc_table.specs.law.declared.known.word.Field.TheVariants.{Mutex}
use Rattle.brc_table.specs.law.declared.known.word.Word.TheVariants.{Of}
use Rattle.brc_table.specs.law.known.Taken.{listed_at}
use Rattle.brc_table.specs.law.declared.rule.contents.PlainKey.{PlainKey}
use Rattle.brc_table.specs.law.declared.rule.contents.Contents.{Contents}
use Rattle.brc_table.specs.law.declared.rule.told.Moved.TheVariants as moves
use Rattle.brc_table.specs.law.declared.rule.told.LogItem.{LogItem}
use Rattle.brc_table.specs.law.declared.rule.told.LogItem.TheVariants.{Stepped, Lost}
use Rattle.brc_table.specs.law.rule.Keys.{keys_in}
use Rattle.brc_table.specs.law.rule.Logs.{entries_in}
use Rattle.brc_table.specs.law.rule.Seen.{part_seen, taken_seen, contents_locked}
use Rattle.brc_table.specs.law.payloads.Payloads.{FindsOwn}
use Rattle.brc_table.specs.law.steps.Taking.{AreCells}
use Rattle.brc_table.specs.Moving.{found_locked}
use Rattle.brc_table.specs.Shown.{contents_of}
use Rattle.brc_biased.specs.Up.{RaisedImmortal}
use Rattle.brc_count.specs.Frames.{FrameSeen, HandleSeen, GivenHandle, place_seen, locked_place, lock_seen, popped_seen, IsUnlocked}

-- What a thread knows of the object that it has locked: it stands in a place of the frame; what the locking found, with
-- the entries that the thread's own part has, not too many, and all of them cells of the heap; and that its block is
-- none of the dead ones.
pub record KnowsLock (n : ℕ) (log : List LogItem) : Type 0 where
  pub somewhere : is_some (lock_seen n log) ≡ true
  pub found : contents_locked log ≡ Some (found_locked log)
  pub has : (c : ℕ) → lock_seen n log ≡ Some c → (part_seen n log).has c ≡ entries_in (found_locked log)
  pub cells : AreCells n (entries_in (found_locked log))
  pub few : length (entries_in (found_locked log)) ≤ MOST_ENTRIES
  pub unlisted : (c : ℕ) → lock_seen n log ≡ Some c → listed_at (taken_seen n log) c ≡ None

module _ {A : Type 0} where
  -- the thread has an object locked
  abbrev pub IsLocked : FrameSeen A → Type 0
  IsLocked frame = KnowsLock frame.heap.cells frame.seat.log

  -- the cell to which a place of the frame has a reference
  abbrev pub cell_in : FrameSeen A → ℕ → Option ℕ
  cell_in frame k = place_seen frame.heap.cells frame.seat.log k

  -- the place that is locked
  abbrev pub place_locked : FrameSeen A → Option ℕ
  place_locked frame = locked_place frame.heap.cells frame.seat.log

  -- the locked object's cell; what its locking found; which entries; and which keys
  abbrev pub cell_locked : FrameSeen A → Option ℕ
  cell_locked frame = lock_seen frame.heap.cells frame.seat.log

  abbrev pub contents_found : FrameSeen A → Contents
  contents_found frame = found_locked frame.seat.log

  abbrev pub entries_found : FrameSeen A → List ℕ
  entries_found frame = entries_in (contents_found frame)

  abbrev pub keys_found : FrameSeen A → List PlainKey
  keys_found frame = keys_in (contents_found frame)

-- ---- what calls do

-- Locking and unlocking leave this as it is: the heap, the thread and its stage, its popped entries, the dead blocks,
-- and where claims begin.
pub record KeepsThread {A : Type 0} (old new : FrameSeen A) : Type 0 where
  pub heap : new.heap ≡ old.heap
  pub thread : new.seat.thread ≡ old.seat.thread
  pub stage : (part_seen new.heap.cells new.seat.log).row.stage ≡ (part_seen old.heap.cells old.seat.log).row.stage
  pub popped : popped_seen new ≡ popped_seen old
  pub works : new.works ≡ old.works
  pub from : new.from ≡ old.from
  pub near : new.near ≡ old.near

-- every place has what it had, and the next one is the same
pub record KeepsFrame {A : Type 0} (old new : FrameSeen A) : Type 0 where
  pub places : (k : ℕ) → cell_in new k ≡ cell_in old k
  pub len : new.len ≡ old.len
  pub spare : new.spare ≡ old.spare
  pub next : new.next ≡ old.next

-- one place has this now, and every other place has what it had
pub record ChangesPlace {A : Type 0} (old new : FrameSeen A) (k : ℕ) (cell : Option ℕ) : Type 0 where
  pub has : cell_in new k ≡ cell
  pub others : (j : ℕ) → j ≢ k → cell_in new j ≡ cell_in old j

-- what is locked and what was found stay so
pub record KeepsLock {A : Type 0} (old new : FrameSeen A) : Type 0 where
  pub locked : IsLocked new
  pub place : place_locked new ≡ place_locked old
  pub cell : cell_locked new ≡ cell_locked old
  pub contents : contents_locked new.seat.log ≡ contents_locked old.seat.log

-- The object in the place is locked, by one event, and its block is the thread's until the unlocking, with the contents
-- that were found: those that the thread put home there last, where the object is private to it.
pub record Began {A : Type 0} (old new : FrameSeen A) (k : ℕ) (block : ℕ × Payload A) : Type 0 where
  pub cell : cell_in old k ≡ Some block.0
  pub event : new.seat.log ≡ Stepped (Lock k) 0 (moves.Found block.0 (contents_of block.1)) ∷ old.seat.log
  pub locked : IsLocked new
  pub locks_place : place_locked new ≡ Some k
  pub locks_cell : cell_locked new ≡ Some block.0
  pub found : contents_found new ≡ contents_of block.1
  pub own : FindsOwn old.heap.cells old.seat.log block.0 (contents_of block.1)

-- The object in the place was found locked, by the number of its mutex word, and nothing was done.
pub record Busy {A : Type 0} (old new : FrameSeen A) (k : ℕ) : Type 0 where
  pub cell : ℕ
  pub of_place : cell_in old k ≡ Some cell
  pub found : ℕ
  pub by_someone : 0 < found
  pub note : new.seat.log ≡ Lost (Of Mutex cell) found ∷ old.seat.log
  pub unlocked : IsUnlocked new

-- The locked object is changed and unlocked, by one event, and its block is at home.
pub record UnlockedBy {A : Type 0} (old new : FrameSeen A) (change : Change) (block : ℕ × Payload A) : Type 0 where
  pub event : new.seat.log ≡ Stepped (Unlock change) 0 (moves.Put block.0 (contents_of block.1)) ∷ old.seat.log
  pub unlocked : IsUnlocked new
  pub keeps : KeepsThread old new

-- The locked object got the reference to None that stood in a place, and was unlocked; the place has another to None.
-- That is two events. None is immortal, so no count changed.
pub record PutsNone {A : Type 0} (old new : FrameSeen A) (k : ℕ) (block : ℕ × Payload A) : Type 0 where
  pub mid : List LogItem
  pub ended : mid ≡ Stepped (Unlock (Put k)) 0 (moves.Put block.0 (contents_of block.1)) ∷ old.seat.log
  pub again : RaisedImmortal (sources.Immortal 0) k mid new.seat.log
  pub unlocked : IsUnlocked new
  pub keeps : KeepsThread old new

-- A reference to None came out of an entry of the locked object, which was unlocked, into the next place, and was let go
-- of. That is two events, and no count changed.
pub record TakesNone {A : Type 0} (old new : FrameSeen A) (index : ℕ) (block : ℕ × Payload A) : Type 0 where
  pub mid : List LogItem
  pub ended : mid ≡ Stepped (Unlock (Take index old.next)) 0 (moves.Put block.0 (contents_of block.1)) ∷ old.seat.log
  pub found : ℕ
  pub gone : new.seat.log ≡ Stepped (LocalDown (drops.Frame old.next)) found moves.Nothing ∷ mid
  pub unlocked : IsUnlocked new
  pub keeps : KeepsThread old new

-- The reference to None that stood in a place and that of an entry of the locked object, to this cell, were exchanged, and
-- the object was unlocked; then a new handle got a reference to None, which counts nothing.
pub record SwapsFresh {A : Type 0} (old new : FrameSeen A) (index k cell : ℕ) (block : ℕ × Payload A)
    (none : HandleSeen) : Type 0 where
  pub mid : FrameSeen A
  pub ended : UnlockedBy old mid (Swap index k) block
  pub places : ChangesPlace old mid k (Some cell)
  pub len : mid.len ≡ old.len
  pub next : mid.next ≡ old.next
  pub given : GivenHandle mid new (sources.Immortal 0) 0 none
  pub keeps : KeepsThread old new
  pub unlocked : IsUnlocked new

-- The reference to None that stood in a place was let go of, in one event by which no count changed.
pub record LetsNoneGo {A : Type 0} (old new : FrameSeen A) (k : ℕ) : Type 0 where
  pub found : ℕ
  pub gone : new.seat.log ≡ Stepped (LocalDown (drops.Frame k)) found moves.Nothing ∷ old.seat.log
  pub places : ChangesPlace old new k None
  pub unlocked : IsUnlocked new
  pub keeps : KeepsThread old new

-- The object in the place was locked, found with these contents, and put home with those; its unlocking moved a
-- reference as the change says. Nothing else was done.
pub record Changes {A : Type 0} (old new : FrameSeen A) (k : ℕ) (found : Contents) (change : Change)
    (put : Contents) : Type 0 where
  pub cell : ℕ
  pub of_place : cell_in old k ≡ Some cell
  pub events : new.seat.log ≡ Stepped (Unlock change) 0 (moves.Put cell put) ∷ Stepped (Lock k) 0
      (moves.Found cell found)
      ∷ old.seat.log
  pub unlocked : IsUnlocked new
  pub keeps : KeepsThread old new
