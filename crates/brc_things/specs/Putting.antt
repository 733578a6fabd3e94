-- What a put does to a frame and to its handles.
use Rattle.std.specs.Prelude.{◌≡◌, ◌≤◌, ◌<◌, ℕ, Option, Some, None, Ok}
use Rattle.brc_words.specs.declared.entry.Entry.{Entry}
use Rattle.brc_words.specs.Notes.{bare}
use Rattle.brc_words.specs.declared.fault.Fault.{Fault}
use Rattle.brc_words.specs.declared.fault.Fault.TheVariants as faults
use Rattle.brc_words.specs.declared.key.Key.{Key}
use Rattle.brc_words.specs.declared.limits.TheConstants.{MOST_ENTRIES}
use Rattle.brc_count.specs.law.declared.world.event.Change.TheVariants.{Keep}
use Rattle.brc_count.specs.law.declared.rule.contents.Contents.{Contents}
use Rattle.brc_count.specs.Frames.{FrameSeen, HandleSeen}
use Rattle.brc_count.specs.Locking.{Changes}
use Rattle.brc_count.specs.Locking.{Busy, cell_in}
use Rattle.brc_things.specs.Changing.{PlainCall, CallPuts, Swaps, RefusedPlainly}
use Rattle.brc_count.specs.Owned.{Keeps, Loses}
use Rattle.brc_things.specs.Plain_Dicts.{plain_put}

-- room for one more is refused to a container of so many entries
abbrev pub RefusedRoomFor : ℕ → Fault → Type 0
RefusedRoomFor entries faults.Full = MOST_ENTRIES ≤ entries
RefusedRoomFor entries faults.OutOfMemory = entries < MOST_ENTRIES
RefusedRoomFor entries _ = ⊥

module _ {A : Type 0} where
  -- With a new key the reference of the value's handle went in. Beside a key that was there it was exchanged: the same
  -- handle has the old value's reference now.
  abbrev pub HasPut : FrameSeen A → FrameSeen A → ℕ → Key A → HandleSeen → Option HandleSeen → Type 0
  HasPut old new k key value None = CallPuts old new k value.place (λ c. plain_put key (bare c)) None
  HasPut old new k key value (Some given) =
      (given ≡ value) × Swaps old new k value.place (λ c. plain_put key (bare c)) Some

  -- with a new key the frame has the value's handle no more; else it owns what it owned
  abbrev pub OwnsPut : FrameSeen A → FrameSeen A → HandleSeen → Option HandleSeen → Type 0
  OwnsPut old new value None = Loses old new value
  OwnsPut old new value (Some given) = Keeps old new

  -- The dictionary was looked at, and unlocked as it was found. The plain call puts a new key into it, but memory was
  -- missing.
  pub record RefusedNew (old new : FrameSeen A) (k : ℕ) (call : PlainCall (Option Entry)) : Type 0 where
    pub found : Contents
    pub put : Contents
    pub looks : Changes old new k found Keep found
    pub plain : call found ≡ Ok (None, put)

  -- Busy comes first, what the plain call says next, and want of memory last, which only a new key has
  abbrev pub RefusedPair : FrameSeen A → FrameSeen A → ℕ → PlainCall (Option Entry) → Fault → Type 0
  RefusedPair old new k call faults.Busy = Busy old new k
  RefusedPair old new k call faults.OutOfMemory = RefusedNew old new k call
  RefusedPair old new k call fault = RefusedPlainly old new k call fault

  -- why it was refused, by the cell of the value
  abbrev pub RefusedPut : FrameSeen A → FrameSeen A → ℕ → Key A → HandleSeen → Fault → Type 0
  RefusedPut old new k key value fault =
      (c : ℕ) → cell_in old value.place ≡ Some c → RefusedPair old new k (plain_put key (bare c)) fault
