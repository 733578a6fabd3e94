-- The lists of events by which a reference goes. Loads stand between events, as notes, and change nothing.
use Rattle.std.specs.Prelude.{◌≡◌, ◌≢◌, ◌+◌, ◌-◌, ◌/◌, ◌%◌, ◌<◌, ◌≤◌, ℕ, Bool, true, false, List, ◌∷◌, Option}
use Rattle.std.specs.Prelude.{None, IfSome}
use Rattle.brc_words.specs.declared.limits.TheConstants.{FIRST_MORTAL}
use Rattle.brc_words.specs.declared.look.TheConstants.{MERGED_BITS, NO_COUNT, ONE_COUNT}
use Rattle.brc_table.specs.block.declared.payload.Payload.{Payload}
use Rattle.brc_table.specs.law.declared.world.event.Dropped.{Dropped}
use Rattle.brc_table.specs.law.declared.world.event.LastDropped.TheVariants as lasts
use Rattle.brc_table.specs.law.declared.world.event.Step.{Step}
use Rattle.brc_table.specs.law.declared.world.event.Step.TheVariants.{LocalDown, SeeZero, Untie, MergeZero, SharedDown, Ask}
use Rattle.brc_table.specs.law.declared.world.event.Step.TheVariants.{LastDown, Enqueue, MergeAdd, Nudge, Offer}
use Rattle.brc_table.specs.law.world.Steps.{takes_block}
use Rattle.brc_table.specs.law.declared.known.word.Field.TheVariants.{Owner, Shared}
use Rattle.brc_table.specs.law.declared.known.word.Word.TheVariants.{Of}
use Rattle.brc_table.specs.law.known.Items.{cell_told, is_shut_word}
use Rattle.brc_table.specs.law.known.Taken.{listed_at}
use Rattle.brc_table.specs.law.declared.rule.told.Moved.TheVariants.{Nothing}
use Rattle.brc_table.specs.law.declared.rule.told.LogItem.{LogItem}
use Rattle.brc_table.specs.law.declared.rule.told.LogItem.TheVariants.{Stepped, Loaded, Lost}
use Rattle.brc_table.specs.law.rule.Seen.{counts_seen, taken_seen}
use Rattle.brc_table.specs.law.steps.Taking.{AreCells}
use Rattle.brc_table.specs.Knowing.{entries_of}
use Rattle.brc_table.specs.Moving.{is_there, found_in, out_with}
use Rattle.brc_table.specs.Seated.{SeatSeen}

module _ {A : Type 0} where
  -- the step is the newest, and took the object's block exactly where the number that it found says that the object is
  -- dead
  pub record EndsByStep (s : Step) (c : ℕ) (block : Option (ℕ × Payload A)) (before log : List LogItem) : Type 0 where
    pub number : ℕ
    pub told : log ≡ Stepped s number (found_in c block) ∷ before
    pub dead : is_there block ≡ takes_block s (cell_told s number)

  -- What a block that is answered is: of the cell, none of the dead blocks that the thread had, with cells of the heap
  -- as entries; its slot is out with the seat.
  pub record IsTakenBlock (n c : ℕ) (block : Option (ℕ × Payload A)) (old new : SeatSeen A) : Type 0 where
    pub of_cell : IfSome block (λ there. there.0 ≡ c)
    pub fresh : IfSome block (λ there. listed_at (taken_seen n old.log) c ≡ None)
    pub entries : AreCells n (entries_of block)
    pub out : new.slots ≡ out_with c block old.slots

  -- an own object whose count came to 0: no count of others is left and nobody asked, or the counts are merged
  pub data EndedOwn (c : ℕ) (block : Option (ℕ × Payload A)) (before log : List LogItem) : Type 0 where
    SeenZero : is_there block ≡ true → EndsByStep (SeeZero c) c block before log → EndedOwn c block before log
    MergedAtZero : (seen : ℕ)
        → EndsByStep (MergeZero c) c block (Stepped (Untie c) 0 Nothing ∷ Stepped (SeeZero c) seen Nothing ∷ before) log
        → EndedOwn c block before log

  -- a reference that was asked for, and is in the hand
  pub data Asked (c : ℕ) (block : Option (ℕ × Payload A)) (before log : List LogItem) : Type 0 where
    AskedNobodys : EndsByStep (LastDown lasts.Hand) c block (Loaded (Of Owner c) 0 ∷ before) log
        → Asked c block before log
    AskedQueued : (owner queue notify : ℕ) → 0 < owner → is_shut_word queue ≡ false → block ≡ None
        → log ≡ Stepped (Nudge owner (c / 32)) notify Nothing ∷ Stepped (Enqueue c) queue Nothing ∷ Loaded
        (Of Owner c) owner ∷ before
        → Asked c block before log
    AskedShut : (owner queue : ℕ) → 0 < owner → is_shut_word queue ≡ true
        → EndsByStep (LastDown lasts.Hand) c block
        (Stepped (Enqueue c) queue Nothing ∷ Loaded (Of Owner c) owner ∷ before) log
        → Asked c block before log

  -- a reference that is asked for, or turns out to be late
  pub data Asks (drop : Dropped) (c : ℕ) (block : Option (ℕ × Payload A)) (before log : List LogItem) : Type 0 where
    AskedLate : (found : ℕ) → found % ONE_COUNT ≢ 0 → EndsByStep (LastDown (lasts.Dropped drop)) c block
        (Stepped (Ask drop) found Nothing ∷ before) log
        → Asks drop c block before log
    AskTurned : (found : ℕ) → found % ONE_COUNT ≡ 0 → Asked c block (Stepped (Ask drop) found Nothing ∷ before) log
        → Asks drop c block before log

  -- A reference to an object of which the thread has no local count. Its shared word was found queued or merged;
  -- or it is in default and has a count, which goes down; or the thread asks, for one of two reasons: the count was 0
  -- or below, or the word moved between the look and the exchange.
  pub data GoesShared (drop : Dropped) (c : ℕ) (block : Option (ℕ × Payload A))
      (before log : List LogItem) : Type 0 where
    SharedRisen : (word : ℕ) → word % ONE_COUNT ≢ 0 → EndsByStep (LastDown (lasts.Dropped drop)) c block
        (Loaded (Of Shared c) word ∷ before) log
        → GoesShared drop c block before log
    SharedCounted : (word : ℕ) → word % ONE_COUNT ≡ 0 → block ≡ None
        → log ≡ Stepped (SharedDown drop) word Nothing ∷ Loaded (Of Shared c) word ∷ before
        → GoesShared drop c block before log
    SharedNoCount : (word : ℕ) → word % ONE_COUNT ≡ 0 → word < NO_COUNT + ONE_COUNT
        → Asks drop c block (Loaded (Of Shared c) word ∷ before) log
        → GoesShared drop c block before log
    SharedMoved : (word found : ℕ) → word % ONE_COUNT ≡ 0 → NO_COUNT + ONE_COUNT ≤ word → found ≢ word
        → Asks drop c block (Lost (Of Shared c) found ∷ Loaded (Of Shared c) word ∷ before) log
        → GoesShared drop c block before log

  -- a reference to an own object: its count goes down, and at 0 the object may end
  pub data GoesOwn (n : ℕ) (drop : Dropped) (c : ℕ) (block : Option (ℕ × Payload A))
      (before log : List LogItem) : Type 0 where
    OwnCounted : 1 < counts_seen n before c → block ≡ None
        → log ≡ Stepped (LocalDown drop) (counts_seen n before c - 1) Nothing ∷ before
        → GoesOwn n drop c block before log
    OwnEnded : counts_seen n before c ≡ 1 → EndedOwn c block (Stepped (LocalDown drop) 0 Nothing ∷ before) log
        → GoesOwn n drop c block before log

  -- All lists of a release: of an immortal; of an own object; and, where the thread has no local count of the object,
  -- of one that was seen queued or merged, or by a look at its shared word.
  pub data Released (n : ℕ) (drop : Dropped) (c : ℕ) (seen : Bool) (block : Option (ℕ × Payload A))
      (before log : List LogItem) : Type 0 where
    ReleaseImmortal : (found : ℕ) → c < FIRST_MORTAL → block ≡ None
        → log ≡ Stepped (LocalDown drop) found Nothing ∷ before
        → Released n drop c seen block before log
    ReleaseOwn : FIRST_MORTAL ≤ c → 0 < counts_seen n before c → GoesOwn n drop c block before log
        → Released n drop c seen block before log
    ReleaseSeen : FIRST_MORTAL ≤ c → counts_seen n before c ≡ 0 → seen ≡ true
        → EndsByStep (LastDown (lasts.Dropped drop)) c block before log
        → Released n drop c seen block before log
    ReleaseShared : FIRST_MORTAL ≤ c → counts_seen n before c ≡ 0 → seen ≡ false → GoesShared drop c block before log
        → Released n drop c seen block before log

  -- a popped entry of an object that isn't merged: the thread merges, and counts the entry's reference down
  pub record MergesPopped (c : ℕ) (block : Option (ℕ × Payload A)) (before log : List LogItem) : Type 0 where
    pub shared : ℕ
    pub ends : EndsByStep (LastDown (lasts.Popped c)) c block
        (Stepped (MergeAdd c) shared Nothing ∷ Stepped (Untie c) 0 Nothing ∷ before) log

  -- An own object is handed over: it is offered, made nobody's, and its local count joins the shared one, by which it
  -- may end.
  pub record HandsOver (c : ℕ) (block : Option (ℕ × Payload A)) (before log : List LogItem) : Type 0 where
    pub offered : ℕ
    pub ends : EndsByStep (MergeAdd c) c block
        (Stepped (Untie c) 0 Nothing ∷ Stepped (Offer c) offered Nothing ∷ before) log

  -- a popped entry is counted down, after its object was found merged or is merged by the thread
  pub data Settled (c : ℕ) (block : Option (ℕ × Payload A)) (before log : List LogItem) : Type 0 where
    SettledMerged : (word : ℕ) → word % ONE_COUNT ≡ MERGED_BITS
        → EndsByStep (LastDown (lasts.Popped c)) c block (Loaded (Of Shared c) word ∷ before) log
        → Settled c block before log
    SettledMerging : (word : ℕ) → word % ONE_COUNT ≢ MERGED_BITS
        → MergesPopped c block (Loaded (Of Shared c) word ∷ before) log
        → Settled c block before log
