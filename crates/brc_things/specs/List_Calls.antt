-- What each call on a list or a mailbox does, told once for both its forms: from the frame `old` that its locking began
-- from (`specs/Called.antt`), on the object in place k. The faults come in the order that `specs/Changing.antt` says.
use Rattle.std.specs.Prelude.{◌≡◌, ℕ, Some, Result}
use Rattle.brc_words.specs.declared.entry.Entry.{Entry}
use Rattle.brc_words.specs.Notes.{bare}
use Rattle.brc_words.specs.declared.fault.Fault.{Fault}
use Rattle.brc_count.specs.declared.handed.HandedBack.{HandedBack}
use Rattle.brc_count.specs.Frames.{FrameSeen, HandleSeen}
use Rattle.brc_count.specs.Locking.{cell_in}
use Rattle.brc_things.specs.Called.{HandsOut, TakesIn}
use Rattle.brc_things.specs.Changing.{PlainCall, CallPuts, Swaps, CallTakes, Shares, RefusedCall, RefusedEntry}
use Rattle.brc_things.specs.Changing.{RefusedPlace}
use Rattle.brc_things.specs.Plain_Lists.{plain_push, plain_pop, plain_take_at, plain_get, plain_set, plain_send, plain_receive}

module _ {A : Type 0} where
  -- the reference of the handle in place v goes in, by the plain call; only memory for an entry may be wanting
  abbrev pub PutsValue : FrameSeen A → FrameSeen A → ℕ → ℕ → (ℕ → PlainCall (Unit {0}))
      → Result (Unit {0}) (HandedBack HandleSeen) → Type 0
  PutsValue old new k v call result =
      TakesIn old new (λ answer. CallPuts old new k v call tt)
      (λ fault. (c : ℕ) → cell_in old v ≡ Some c → RefusedEntry old new k (call c) fault) result

  -- the references of the handle in place v and of an entry are exchanged, by the plain call; nothing is wanting
  abbrev pub SwapsValue : FrameSeen A → FrameSeen A → ℕ → ℕ → (ℕ → PlainCall Entry)
      → Result HandleSeen (HandedBack HandleSeen) → Type 0
  SwapsValue old new k v call result =
      TakesIn old new (λ answer. Swaps old new k v call (λ entry. entry))
      (λ fault. (c : ℕ) → cell_in old v ≡ Some c → RefusedCall old new k (call c) fault) result

  -- an entry's reference is the answer's now, by the plain call; only a place for it may be wanting
  abbrev pub TakesEntry : FrameSeen A → FrameSeen A → ℕ → PlainCall Entry → Result HandleSeen Fault → Type 0
  TakesEntry old new k call result = HandsOut old new (CallTakes old new k call) (RefusedPlace old new k call) result

  -- the answer has a reference more to an entry, by the plain call; only a place for it may be wanting
  abbrev pub SharesEntry : FrameSeen A → FrameSeen A → ℕ → PlainCall Entry → Result HandleSeen Fault → Type 0
  SharesEntry old new k call result = HandsOut old new (Shares old new k call) (RefusedPlace old new k call) result

  -- ---- lists

  -- the reference of the handle in place v becomes the last entry
  abbrev pub ListPush : FrameSeen A → FrameSeen A → ℕ → ℕ → Result (Unit {0}) (HandedBack HandleSeen) → Type 0
  ListPush old new k v result = PutsValue old new k v (λ c. plain_push (bare c)) result

  -- the last entry's reference is the answer's now
  abbrev pub ListPop : FrameSeen A → FrameSeen A → ℕ → Result HandleSeen Fault → Type 0
  ListPop old new k result = TakesEntry old new k plain_pop result

  -- the reference of the entry at the index is the answer's now
  abbrev pub ListTake : FrameSeen A → FrameSeen A → ℕ → ℕ → Result HandleSeen Fault → Type 0
  ListTake old new k index result = TakesEntry old new k (plain_take_at index) result

  -- the answer has a reference more to the entry at the index
  abbrev pub ListGet : FrameSeen A → FrameSeen A → ℕ → ℕ → Result HandleSeen Fault → Type 0
  ListGet old new k index result = SharesEntry old new k (plain_get index) result

  -- the references of the entry at the index and of the handle in place v are exchanged
  abbrev pub ListSet : FrameSeen A → FrameSeen A → ℕ → ℕ → ℕ → Result HandleSeen (HandedBack HandleSeen) → Type 0
  ListSet old new k index v result = SwapsValue old new k v (λ c. plain_set index (bare c)) result

  -- ---- mailboxes

  -- the reference of the handle in place v becomes the last entry
  abbrev pub MailboxSend : FrameSeen A → FrameSeen A → ℕ → ℕ → Result (Unit {0}) (HandedBack HandleSeen) → Type 0
  MailboxSend old new k v result = PutsValue old new k v (λ c. plain_send (bare c)) result

  -- the first entry's reference is the answer's now
  abbrev pub MailboxReceive : FrameSeen A → FrameSeen A → ℕ → Result HandleSeen Fault → Type 0
  MailboxReceive old new k result = TakesEntry old new k plain_receive result
