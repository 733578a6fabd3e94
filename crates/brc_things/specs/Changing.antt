-- What a call that changes an object, or takes a reference out of it, does to a frame. Each is a locking, at most one
-- step on an entry, and an unlocking. What it found, and what it put home, are told, and the answer is that of a call
-- on plain data.
use Rattle.std.specs.Prelude.{◌≡◌, ℕ, ◌+◌, ◌∷◌, Some, None, Result, Ok, Err, is_ok, true, slice_get}
use Rattle.brc_words.specs.declared.entry.Entry.{Entry}
use Rattle.brc_words.specs.declared.fault.Fault.{Fault}
use Rattle.brc_words.specs.declared.fault.Fault.TheVariants as faults
use Rattle.brc_count.specs.law.declared.world.event.Change.TheVariants.{Keep, Put, Take, Swap}
use Rattle.brc_count.specs.law.declared.world.event.Source.TheVariants as sources
use Rattle.brc_count.specs.law.declared.world.event.Step.TheVariants.{Lock, Unlock}
use Rattle.brc_count.specs.law.declared.rule.contents.Contents.{Contents}
use Rattle.brc_count.specs.law.declared.rule.told.Moved.TheVariants as moves
use Rattle.brc_count.specs.law.declared.rule.told.LogItem.TheVariants.{Stepped}
use Rattle.brc_count.specs.law.rule.Logs.{noted_in}
use Rattle.brc_count.specs.Frames.{FrameSeen, HandleSeen, IsUnlocked, GivenHandle, Refused}
use Rattle.brc_count.specs.Locking.{Busy, Changes, KeepsThread, KeepsFrame, ChangesPlace, cell_in}

-- A call on plain data: what is found goes in; the answer and what is left come out, or why there is none.
abbrev pub PlainCall : Type 0 → Type 0
PlainCall R = Contents → Result (R × Contents) Fault

module _ {A : Type 0} where
  -- every place has what it had, and the next one is the same; but more of them may need no memory
  pub record KeepsAllPlaces (old new : FrameSeen A) : Type 0 where
    pub places : (k : ℕ) → cell_in new k ≡ cell_in old k
    pub len : new.len ≡ old.len
    pub next : new.next ≡ old.next

-- ---- what succeeded

module _ {A R : Type 0} where
  -- The reference of the handle in place v went into the object, by the plain call.
  pub record CallPuts (old new : FrameSeen A) (k v : ℕ) (call : ℕ → PlainCall R) (answer : R) : Type 0 where
    pub value : ℕ
    pub of_value : cell_in old v ≡ Some value
    pub found : Contents
    pub put : Contents
    pub plain : call value found ≡ Ok (answer, put)
    pub changes : Changes old new k found (Put v) put
    pub places : ChangesPlace old new v None
    pub len : new.len + 1 ≡ old.len

  -- The reference of the handle in place v and that of an entry were exchanged, by the plain call, which answers the
  -- entry.
  pub record Swaps (old new : FrameSeen A) (k v : ℕ) (call : ℕ → PlainCall R) (answer : Entry → R) : Type 0 where
    pub value : ℕ
    pub of_value : cell_in old v ≡ Some value
    pub found : Contents
    pub put : Contents
    pub index : ℕ
    pub entry : Entry
    pub at_index : slice_get (noted_in found) index ≡ Some entry
    pub plain : call value found ≡ Ok (answer entry, put)
    pub changes : Changes old new k found (Swap index v) put
    pub places : ChangesPlace old new v (Some entry.cell)
    pub len : new.len ≡ old.len

module _ {A : Type 0} where
  -- The reference of an entry is the new handle's now, by the plain call, which answers the entry.
  pub record CallTakes (old new : FrameSeen A) (k : ℕ) (call : PlainCall Entry) (given : HandleSeen) : Type 0 where
    pub found : Contents
    pub put : Contents
    pub index : ℕ
    pub entry : Entry
    pub at_index : slice_get (noted_in found) index ≡ Some entry
    pub plain : call found ≡ Ok (entry, put)
    pub changes : Changes old new k found (Take index given.place) put
    pub heap : given.heap ≡ old.heap
    pub thread : given.thread ≡ old.seat.thread
    pub next : given.place ≡ old.next
    pub vacant : cell_in old given.place ≡ None
    pub places : ChangesPlace old new given.place (Some entry.cell)
    pub len : new.len ≡ old.len + 1

  -- The new handle has a reference to an entry, counted up in one event while the object was locked; it was unlocked as
  -- it was found. The plain call answers the entry.
  pub record Shares (old new : FrameSeen A) (k : ℕ) (call : PlainCall Entry) (given : HandleSeen) : Type 0 where
    pub found : Contents
    pub index : ℕ
    pub entry : Entry
    pub at_index : slice_get (noted_in found) index ≡ Some entry
    pub plain : call found ≡ Ok (entry, found)
    pub cell : ℕ
    pub of_place : cell_in old k ≡ Some cell
    pub locked : FrameSeen A
    pub shared : FrameSeen A
    pub same_heap : locked.heap ≡ old.heap
    pub shared_heap : shared.heap ≡ old.heap
    pub locks : locked.seat.log ≡ Stepped (Lock k) 0 (moves.Found cell found) ∷ old.seat.log
    pub gives : GivenHandle locked shared (sources.Entry index) entry.cell given
    pub unlocks : new.seat.log ≡ Stepped (Unlock Keep) 0 (moves.Put cell found) ∷ shared.seat.log
    pub before : KeepsAllPlaces old locked
    pub after : KeepsFrame shared new
    pub unlocked : IsUnlocked new
    pub keeps : KeepsThread old new

-- ---- what was refused

module _ {A R : Type 0} where
  -- The object was looked at, and unlocked as it was found. The plain call is refused so.
  pub record RefusedPlainly (old new : FrameSeen A) (k : ℕ) (call : PlainCall R) (fault : Fault) : Type 0 where
    pub found : Contents
    pub looks : Changes old new k found Keep found
    pub plain : call found ≡ Err fault

  -- The object was looked at, and unlocked as it was found. The plain call would have succeeded, but memory was
  -- missing, or a place.
  pub record RefusedForWant (old new : FrameSeen A) (k : ℕ) (call : PlainCall R) : Type 0 where
    pub found : Contents
    pub looks : Changes old new k found Keep found
    pub plain : is_ok (call found) ≡ true

  -- Why a call is refused that wants neither memory nor a place: Busy comes first.
  abbrev pub RefusedCall : FrameSeen A → FrameSeen A → ℕ → PlainCall R → Fault → Type 0
  RefusedCall old new k call faults.Busy = Busy old new k
  RefusedCall old new k call fault = RefusedPlainly old new k call fault

  -- Why a call is refused that may want memory for an entry: Busy comes first, what the plain call says next, and want
  -- of memory last.
  abbrev pub RefusedEntry : FrameSeen A → FrameSeen A → ℕ → PlainCall R → Fault → Type 0
  RefusedEntry old new k call faults.Busy = Busy old new k
  RefusedEntry old new k call faults.OutOfMemory = RefusedForWant old new k call
  RefusedEntry old new k call fault = RefusedPlainly old new k call fault

  -- Why a call is refused that wants a place for a handle: the place comes last, FrameFull before want of memory.
  abbrev pub RefusedPlace : FrameSeen A → FrameSeen A → ℕ → PlainCall R → Fault → Type 0
  RefusedPlace old new k call faults.Busy = Busy old new k
  RefusedPlace old new k call faults.FrameFull = RefusedForWant old new k call × Refused old faults.FrameFull
  RefusedPlace old new k call faults.OutOfMemory = RefusedForWant old new k call × Refused old faults.OutOfMemory
  RefusedPlace old new k call fault = RefusedPlainly old new k call fault
