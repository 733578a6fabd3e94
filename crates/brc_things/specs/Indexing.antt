-- The pair at a place of a dictionary: what a look for it finds, and what the calls on it answer.
use Rattle.std.specs.Prelude.{◌≡◌, ◌≢◌, ℕ, true, is_ok, Some, None, Ok, Err, slice_get}
use Rattle.brc_words.specs.declared.entry.Entry.{Entry}
use Rattle.brc_words.specs.declared.fault.Fault.{Fault}
use Rattle.brc_words.specs.declared.fault.Fault.TheVariants as faults
use Rattle.brc_words.specs.declared.key.Key.{Key}
use Rattle.brc_words.specs.declared.kind.Kind.TheVariants as kinds
use Rattle.brc_count.specs.law.declared.world.event.Change.TheVariants.{Keep}
use Rattle.brc_count.specs.law.declared.rule.contents.Contents.{Contents}
use Rattle.brc_count.specs.block.Row.{RowSeen}
use Rattle.brc_count.specs.block.Payload.{kind_of}
use Rattle.brc_count.specs.block.declared.payload.Payload.{Payload}
use Rattle.brc_count.specs.block.declared.payload.Payload.TheVariants as payloads
use Rattle.brc_count.specs.Frames.{FrameSeen, HandleSeen, Refused}
use Rattle.brc_count.specs.Locking.{Changes}
use Rattle.brc_things.specs.Changing.{PlainCall, Shares}
use Rattle.brc_things.specs.Plain_Dicts.{plain_key_at, plain_value_at}

-- The object was looked at, and unlocked as it was found. The plain call answers so.
pub record ReadsUnlocked {A R : Type 0} (old new : FrameSeen A) (k : ℕ) (call : PlainCall R) (answer : R) : Type 0 where
  pub found : Contents
  pub looks : Changes old new k found Keep found
  pub plain : call found ≡ Ok (answer, found)

module _ {A : Type 0} where
  -- it is a dictionary, in which this pair stands at the place
  pub record IsAt (payload : Payload A) (index : ℕ) (key : Key A) (entry : Entry) : Type 0 where
    pub pairs : RowSeen (Key A × Entry)
    pub is : payload ≡ payloads.Dict pairs
    pub stands : slice_get pairs.items index ≡ Some (key, entry)

  -- it is a dictionary with no more pairs than that
  pub record IsPast (payload : Payload A) (index : ℕ) : Type 0 where
    pub pairs : RowSeen (Key A × Entry)
    pub is : payload ≡ payloads.Dict pairs
    pub past : slice_get pairs.items index ≡ None

  -- why it has no pair at the place
  abbrev pub NoPair : Payload A → ℕ → Fault → Type 0
  NoPair payload index faults.WrongKind = kind_of payload ≢ kinds.Dict
  NoPair payload index faults.NoSuchPlace = IsPast payload index
  NoPair payload index _ = ⊥

  -- The key is that of the pair at the place, and the handle has a reference more to its value, counted up in one event
  -- while the dictionary was locked: both as one locking found them.
  pub record SharesPair (old new : FrameSeen A) (k index : ℕ) (pair : Key A × HandleSeen) : Type 0 where
    pub value : Shares old new k (plain_value_at A index) pair.1
    pub key : plain_key_at index value.found ≡ Ok (pair.0, value.found)

  -- a pair is missing in what was found; or it is there, and the frame's next place, or memory for the key, wasn't to
  -- be had
  abbrev pub MissesPair : FrameSeen A → Contents → ℕ → Fault → Type 0
  MissesPair frame found index faults.Busy = ⊥
  MissesPair frame found index faults.FrameFull = (is_ok (plain_value_at A index found) ≡ true)
      × Refused frame faults.FrameFull
  MissesPair frame found index faults.OutOfMemory = (is_ok (plain_value_at A index found) ≡ true)
      × Refused frame faults.OutOfMemory
  MissesPair frame found index fault = plain_value_at A index found ≡ Err fault

-- a key is missing in what was found; or it is there, and memory for a copy was missing
abbrev pub MissesKey : (A : Type 0) → Contents → ℕ → Fault → Type 0
MissesKey A found index faults.Busy = ⊥
MissesKey A found index faults.OutOfMemory = is_ok (plain_key_at {A = A} index found) ≡ true
MissesKey A found index fault = plain_key_at {A = A} index found ≡ Err fault
