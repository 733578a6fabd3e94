-- What each call by values does, told once for both its forms: from the frame `old` that its locking began from
-- (`specs/Called.antt`), on the object in place k.
use Rattle.std.specs.Prelude.{◌≡◌, ℕ, Option, Some, None, Result}
use Rattle.brc_words.specs.declared.entry.Entry.{Entry}
use Rattle.brc_words.specs.declared.fault.Fault.{Fault}
use Rattle.brc_words.specs.declared.key.Key.{Key}
use Rattle.brc_count.specs.declared.handed.HandedBack.{HandedBack}
use Rattle.brc_count.specs.Frames.{FrameSeen, HandleSeen}
use Rattle.brc_things.specs.declared.value.Pair.{Pair}
use Rattle.brc_things.specs.declared.value.Value.{Value}
use Rattle.brc_things.specs.Called.{HandsOut, TakesIn, TakesInPlaced}
use Rattle.brc_things.specs.Changing.{PlainCall, RefusedPlace}
use Rattle.brc_things.specs.Indexing.{ReadsUnlocked}
use Rattle.brc_things.specs.Plain_Dicts.{plain_find, plain_del, plain_put, plain_place}
use Rattle.brc_things.specs.Plain_Lists.{plain_push, plain_pop, plain_take_at, plain_get, plain_set, plain_send, plain_receive}
use Rattle.brc_things.specs.Plain_Values.{PutCall, at_new, at_old, plain_put_at}
use Rattle.brc_things.specs.Values.{LooksAtValue, TakesOutValue, PutsValueIn, SwapsValueIn, HasPutValue, RefusedPutting}
use Rattle.brc_things.specs.Values.{LooksAtPair, RefusedPairAt}

module _ {A : Type 0} where
  -- what stands in an entry is the answer, by the plain call; only a place for a handle may be wanting
  abbrev pub LooksAtEntry : FrameSeen A → FrameSeen A → ℕ → PlainCall Entry → Result (Value A) Fault → Type 0
  LooksAtEntry old new k call result = HandsOut old new (LooksAtValue old new k call) (RefusedPlace old new k call) result

  -- what stands in an entry comes out, by the plain call; only a place may be wanting
  abbrev pub TakesEntryOut : FrameSeen A → FrameSeen A → ℕ → PlainCall Entry → Result (Value A) Fault → Type 0
  TakesEntryOut old new k call result =
      HandsOut old new (TakesOutValue old new k call) (RefusedPlace old new k call) result

  -- The value goes in at the end, by the plain call; only memory for an entry may be wanting.
  abbrev pub PutsAtEnd : FrameSeen A → FrameSeen A → ℕ → HandleSeen → Value A → PutCall
      → Result (Unit {0}) (HandedBack (Value A)) → Type 0
  PutsAtEnd old new k none value call result =
      TakesIn old new (λ done. PutsValueIn old new k none value call) (RefusedPutting old new k value call) result

  -- The value goes where the plain call puts it, and what stood there comes out. `none` is the frame's handle to None
  -- before, `after` the one that it has then.
  abbrev pub PutsInPlace : FrameSeen A → FrameSeen A → ℕ → HandleSeen → HandleSeen → Value A → PutCall
      → Result (Option (Value A)) (HandedBack (Value A)) → Type 0
  PutsInPlace old new k none after value call result =
      TakesInPlaced old new (HasPutValue old new k none after value call) (RefusedPutting old new k value call) result

  -- ---- lists and mailboxes

  abbrev pub ListPushValue : FrameSeen A → FrameSeen A → ℕ → HandleSeen → Value A
      → Result (Unit {0}) (HandedBack (Value A)) → Type 0
  ListPushValue old new k none value result = PutsAtEnd old new k none value (at_new plain_push) result

  abbrev pub SendValue : FrameSeen A → FrameSeen A → ℕ → HandleSeen → Value A
      → Result (Unit {0}) (HandedBack (Value A)) → Type 0
  SendValue old new k none value result = PutsAtEnd old new k none value (at_new plain_send) result

  abbrev pub ListPopValue : FrameSeen A → FrameSeen A → ℕ → Result (Value A) Fault → Type 0
  ListPopValue old new k result = TakesEntryOut old new k plain_pop result

  abbrev pub ListTakeValue : FrameSeen A → FrameSeen A → ℕ → ℕ → Result (Value A) Fault → Type 0
  ListTakeValue old new k index result = TakesEntryOut old new k (plain_take_at index) result

  abbrev pub RecvValue : FrameSeen A → FrameSeen A → ℕ → Result (Value A) Fault → Type 0
  RecvValue old new k result = TakesEntryOut old new k plain_receive result

  abbrev pub ListGetValue : FrameSeen A → FrameSeen A → ℕ → ℕ → Result (Value A) Fault → Type 0
  ListGetValue old new k index result = LooksAtEntry old new k (plain_get index) result

  -- the value goes into the entry at the index, and what stood there comes out
  abbrev pub ListSetValue : FrameSeen A → FrameSeen A → ℕ → ℕ → HandleSeen → HandleSeen → Value A
      → Result (Value A) (HandedBack (Value A)) → Type 0
  ListSetValue old new k index none after value result =
      TakesInPlaced old new (SwapsValueIn old new k none after value (at_old (plain_set index)))
      (RefusedPutting old new k value (at_old (plain_set index))) result

  -- the same; and at the index that is the list's length it goes in at the end
  abbrev pub ListPutValue : FrameSeen A → FrameSeen A → ℕ → ℕ → HandleSeen → HandleSeen → Value A
      → Result (Option (Value A)) (HandedBack (Value A)) → Type 0
  ListPutValue old new k index none after value result = PutsInPlace old new k none after value (plain_put_at index) result

  -- ---- dictionaries

  -- what stands beside the key is looked at
  abbrev pub DictFindValue : FrameSeen A → FrameSeen A → ℕ → Key A → Result (Value A) Fault → Type 0
  DictFindValue old new k key result = LooksAtEntry old new k (plain_find key) result

  -- it comes out, and its pair goes
  abbrev pub DictDelValue : FrameSeen A → FrameSeen A → ℕ → Key A → Result (Value A) Fault → Type 0
  DictDelValue old new k key result = TakesEntryOut old new k (plain_del key) result

  -- the value goes beside the key, and what stood there comes out
  abbrev pub DictSetValue : FrameSeen A → FrameSeen A → ℕ → Key A → HandleSeen → HandleSeen → Value A
      → Result (Option (Value A)) (HandedBack (Value A)) → Type 0
  DictSetValue old new k key none after value result = PutsInPlace old new k none after value (plain_put key) result

  -- The value went in beside the key, which wasn't there, or it came back, and the key was found.
  abbrev pub PutsNew : FrameSeen A → FrameSeen A → ℕ → Key A → HandleSeen → Value A → Option (Value A) → Type 0
  PutsNew old new k key none value None = PutsValueIn old new k none value (plain_put key)
  PutsNew old new k key none value (Some back) =
      (back ≡ value) × ((place : ℕ) × ReadsUnlocked old new k (plain_place key) place)

  -- the value goes beside the key, if that isn't there: of two threads that put one, the first whose lock it is puts it
  abbrev pub DictPutNewValue : FrameSeen A → FrameSeen A → ℕ → Key A → HandleSeen → Value A
      → Result (Option (Value A)) (HandedBack (Value A)) → Type 0
  DictPutNewValue old new k key none value result =
      TakesInPlaced old new (PutsNew old new k key none value) (RefusedPutting old new k value (plain_put key)) result

  -- the key at the place, with what stands beside it, and how many pairs there are
  abbrev pub DictPairValue : FrameSeen A → FrameSeen A → ℕ → ℕ → Result (Pair A) Fault → Type 0
  DictPairValue old new k index result =
      HandsOut old new (LooksAtPair old new k index) (RefusedPairAt old new k index) result
