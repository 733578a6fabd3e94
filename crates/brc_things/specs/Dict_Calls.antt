-- The calls on dictionaries, each told once, over the frame that its locking began from: both its forms cite it.
use Rattle.std.specs.Prelude.{ℕ, Option, Result}
use Rattle.brc_words.specs.declared.fault.Fault.{Fault}
use Rattle.brc_words.specs.declared.key.Key.{Key}
use Rattle.brc_count.specs.declared.handed.HandedBack.{HandedBack}
use Rattle.brc_count.specs.Frames.{FrameSeen, HandleSeen}
use Rattle.brc_things.specs.Called.{Looked, HandsOut, TakesIn}
use Rattle.brc_things.specs.Changing.{Shares, CallTakes, RefusedEntry, RefusedPlace}
use Rattle.brc_things.specs.Indexing.{ReadsUnlocked, SharesPair}
use Rattle.brc_things.specs.Plain_Dicts.{plain_find, plain_del, plain_place, plain_key_at, plain_value_at}
use Rattle.brc_things.specs.Putting.{HasPut, RefusedPut}

module _ {A : Type 0} where
  -- The value goes beside the key, and the old one comes out. A refusal hands back what the call took: the key and the
  -- value, or the value alone where the key is lent.
  abbrev pub DictPut : {V : Type 0} → FrameSeen A → FrameSeen A → ℕ → Key A → HandleSeen
      → Result (Option HandleSeen) (HandedBack V) → Type 0
  DictPut old new k key value result = TakesIn old new (HasPut old new k key value)
      (RefusedPut old new k key value) result

  -- a handle more to the value beside the key
  abbrev pub DictFind : FrameSeen A → FrameSeen A → ℕ → Key A → Result HandleSeen Fault → Type 0
  DictFind old new k key result = HandsOut old new (Shares old new k (plain_find key))
      (RefusedPlace old new k (plain_find key)) result

  -- the value beside the key comes out, and its pair goes
  abbrev pub DictDel : FrameSeen A → FrameSeen A → ℕ → Key A → Result HandleSeen Fault → Type 0
  DictDel old new k key result = HandsOut old new (CallTakes old new k (plain_del key))
      (RefusedPlace old new k (plain_del key)) result

  -- at which place the key stands
  abbrev pub DictPlace : FrameSeen A → FrameSeen A → ℕ → Key A → Result ℕ Fault → Type 0
  DictPlace old new k key result = Looked old new (ReadsUnlocked old new k (plain_place key))
      (RefusedEntry old new k (plain_place key)) result

  -- the key at the place, of which memory for a copy may be missing
  abbrev pub DictKey : FrameSeen A → FrameSeen A → ℕ → ℕ → Result (Key A) Fault → Type 0
  DictKey old new k index result = Looked old new (ReadsUnlocked old new k (plain_key_at index))
      (RefusedEntry old new k (plain_key_at {A = A} index)) result

  -- the key at the place, with a handle more to its value
  abbrev pub DictPair : FrameSeen A → FrameSeen A → ℕ → ℕ → Result (Key A × HandleSeen) Fault → Type 0
  DictPair old new k index result =
      HandsOut old new (SharesPair old new k index) (RefusedPlace old new k (plain_value_at A index)) result
