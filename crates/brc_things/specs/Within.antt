-- The part of a call that comes after its locking: what it does to a frame that has the object locked.
use Rattle.std.specs.Prelude.{◌≡◌, ◌+◌, ℕ, Some, None, Result, Ok, Err, is_ok, true, slice_get}
use Rattle.brc_words.specs.declared.entry.Entry.{Entry}
use Rattle.brc_words.specs.declared.fault.Fault.{Fault}
use Rattle.brc_words.specs.declared.fault.Fault.TheVariants as faults
use Rattle.brc_count.specs.block.declared.payload.Payload.{Payload}
use Rattle.brc_count.specs.law.declared.world.event.Change.{Change}
use Rattle.brc_count.specs.law.declared.world.event.Change.TheVariants.{Keep, Put, Take, Swap}
use Rattle.brc_count.specs.law.declared.world.event.Source.TheVariants as sources
use Rattle.brc_count.specs.law.declared.rule.contents.Contents.{Contents}
use Rattle.brc_count.specs.table.Shown.{contents_of}
use Rattle.brc_count.specs.Frames.{FrameSeen, HandleSeen, GivenHandle, Refused}
use Rattle.brc_count.specs.Locking.{IsLocked, KeepsFrame, ChangesPlace, UnlockedBy, cell_in, cell_locked}
use Rattle.brc_count.specs.Locking.{contents_found}
use Rattle.brc_count.specs.law.rule.Logs.{noted_in}
use Rattle.brc_things.specs.Changing.{PlainCall, KeepsAllPlaces}

module _ {A : Type 0} where
  -- an object is locked, and its block has what was found
  pub record HasLockedList (frame : FrameSeen A) (block : ℕ × Payload A) : Type 0 where
    pub locked : IsLocked frame
    pub locks_cell : cell_locked frame ≡ Some block.0
    pub found : contents_found frame ≡ contents_of block.1

  -- the locked object was put home with these contents, and its unlocking moved a reference as the change says
  pub record EndsWith (old new : FrameSeen A) (change : Change) (put : Contents) : Type 0 where
    pub block : ℕ × Payload A
    pub locks_cell : cell_locked old ≡ Some block.0
    pub holds : contents_of block.1 ≡ put
    pub ended : UnlockedBy old new change block

-- ---- what succeeded

module _ {A R : Type 0} where
  -- the reference of the handle in place v went into the object, by the plain call
  pub record PutsIn (old new : FrameSeen A) (v : ℕ) (call : ℕ → PlainCall R) (answer : R) : Type 0 where
    pub value : ℕ
    pub of_value : cell_in old v ≡ Some value
    pub put : Contents
    pub plain : call value (contents_found old) ≡ Ok (answer, put)
    pub ends : EndsWith old new (Put v) put
    pub places : ChangesPlace old new v None
    pub len : new.len + 1 ≡ old.len

  -- the reference of the handle in place v and that of an entry were exchanged, by the plain call, which answers the
  -- entry
  pub record SwapsIn (old new : FrameSeen A) (v : ℕ) (call : ℕ → PlainCall R) (answer : Entry → R) : Type 0 where
    pub value : ℕ
    pub of_value : cell_in old v ≡ Some value
    pub put : Contents
    pub index : ℕ
    pub entry : Entry
    pub at_index : slice_get (noted_in (contents_found old)) index ≡ Some entry
    pub plain : call value (contents_found old) ≡ Ok (answer entry, put)
    pub ends : EndsWith old new (Swap index v) put
    pub places : ChangesPlace old new v (Some entry.cell)
    pub len : new.len ≡ old.len

module _ {A : Type 0} where
  -- the reference of an entry is the new handle's now, by the plain call, which answers the entry
  pub record TakesOut (old new : FrameSeen A) (call : PlainCall Entry) (given : HandleSeen) : Type 0 where
    pub put : Contents
    pub index : ℕ
    pub entry : Entry
    pub at_index : slice_get (noted_in (contents_found old)) index ≡ Some entry
    pub plain : call (contents_found old) ≡ Ok (entry, put)
    pub ends : EndsWith old new (Take index given.place) put
    pub heap : given.heap ≡ old.heap
    pub thread : given.thread ≡ old.seat.thread
    pub next : given.place ≡ old.next
    pub vacant : cell_in old given.place ≡ None
    pub places : ChangesPlace old new given.place (Some entry.cell)
    pub len : new.len ≡ old.len + 1

  -- The new handle has a reference to an entry, counted up in one event before the unlocking. The plain call answers
  -- the entry.
  pub record SharesOut (old new : FrameSeen A) (call : PlainCall Entry) (given : HandleSeen) : Type 0 where
    pub index : ℕ
    pub entry : Entry
    pub at_index : slice_get (noted_in (contents_found old)) index ≡ Some entry
    pub plain : call (contents_found old) ≡ Ok (entry, contents_found old)
    pub ready : FrameSeen A
    pub same_seat : ready.seat ≡ old.seat
    pub same_heap : ready.heap ≡ old.heap
    pub before : KeepsAllPlaces old ready
    pub shared : FrameSeen A
    pub shared_heap : shared.heap ≡ old.heap
    pub gives : GivenHandle ready shared (sources.Entry index) entry.cell given
    pub same_cell : cell_locked shared ≡ cell_locked old
    pub ends : EndsWith shared new Keep (contents_found old)
    pub after : KeepsFrame shared new

-- ---- what was refused

module _ {R : Type 0} where
  -- what came out of the plain call is this fault
  abbrev pub RefusesPlainly : Result (R × Contents) Fault → Fault → Type 0
  RefusesPlainly outcome faults.Busy = ⊥
  RefusesPlainly outcome fault = outcome ≡ Err fault

  -- so, or it succeeded, and memory for an entry was missing
  abbrev pub RefusesEntry : Result (R × Contents) Fault → Fault → Type 0
  RefusesEntry outcome faults.OutOfMemory = is_ok outcome ≡ true
  RefusesEntry outcome fault = RefusesPlainly outcome fault

  -- so, or it succeeded, and the frame's next place wasn't to be had
  abbrev pub RefusesPlace : {A : Type 0} → FrameSeen A → Result (R × Contents) Fault → Fault → Type 0
  RefusesPlace frame outcome faults.FrameFull = (is_ok outcome ≡ true) × Refused frame faults.FrameFull
  RefusesPlace frame outcome faults.OutOfMemory = (is_ok outcome ≡ true) × Refused frame faults.OutOfMemory
  RefusesPlace frame outcome fault = RefusesPlainly outcome fault
