-- What a poll does: the thread takes its notify word, drains the queue words that it names, and deals with each entry.
use Rattle.std.specs.Prelude.{◌≡◌, ℕ, min, ◌+◌, ◌*◌, ◌/◌, ◌∷◌, Option}
use Rattle.std.specs.Int.{bit_at}
use Rattle.brc_table.specs.block.declared.payload.Payload.{Payload}
use Rattle.brc_table.specs.law.declared.world.event.Step.TheVariants.{Drain, Wake}
use Rattle.brc_table.specs.law.world.Heap.{words_for}
use Rattle.brc_table.specs.law.declared.rule.told.Moved.TheVariants.{Nothing}
use Rattle.brc_table.specs.law.declared.rule.told.LogItem.TheVariants.{Stepped}
use Rattle.brc_biased.specs.Released.{Settled}
use Rattle.brc_count.specs.Frames.{FrameSeen, pushed}

module _ {A : Type 0} where
  -- A popped entry is dealt with: it is counted down, after its object was found merged or is merged by the thread;
  -- where the object ends, its block is on the front of the worklist.
  pub record Deals (old new : FrameSeen A) (c : ℕ) : Type 0 where
    pub heap : new.heap ≡ old.heap
    pub block : Option (ℕ × Payload A)
    pub events : Settled c block old.seat.log new.seat.log
    pub works : new.works ≡ pushed block old.works

  -- of the bits of word k those below i were looked at, by rising number, and the entry of each that was set dealt with
  pub data DealsBits (k bits : ℕ) (old : FrameSeen A) : ℕ → FrameSeen A → Type 0 where
    NoBit : DealsBits k bits old 0 old
    NotSet : (i : ℕ) (new : FrameSeen A) → DealsBits k bits old i new → bit_at bits i ≡ 0
        → DealsBits k bits old (i + 1) new
    Dealt : (i : ℕ) (mid new : FrameSeen A) → DealsBits k bits old i mid → bit_at bits i ≡ 1
        → Deals mid new (k * 32 + i)
        → DealsBits k bits old (i + 1) new

  -- one queue word is drained, and the entry of each of its bits dealt with
  pub record Drains (old new : FrameSeen A) (k : ℕ) : Type 0 where
    pub bits : ℕ
    pub mid : FrameSeen A
    pub heap : mid.heap ≡ old.heap
    pub drained : mid.seat.log ≡ Stepped (Drain k) bits Nothing ∷ old.seat.log
    pub works : mid.works ≡ old.works
    pub dealt : DealsBits k bits mid 32 new

  -- the queue words from one number on are drained, one after the other, up to another number
  pub data DrainsEach (from : ℕ) (old : FrameSeen A) : ℕ → FrameSeen A → Type 0 where
    NoWord : DrainsEach from old from old
    OneMore : (k : ℕ) (mid new : FrameSeen A) → DrainsEach from old k mid → Drains mid new k
        → DrainsEach from old (k + 1) new

  -- Of the bits of the notify word those below i were looked at, by rising number. One that is set names 32 queue
  -- words, from word 32 i on, or as many as there are: each of them is drained.
  pub data DrainsNamed (told words : ℕ) (old : FrameSeen A) : ℕ → FrameSeen A → Type 0 where
    NoName : DrainsNamed told words old 0 old
    NotNamed : (i : ℕ) (new : FrameSeen A) → DrainsNamed told words old i new → bit_at told i ≡ 0
        → DrainsNamed told words old (i + 1) new
    Named : (i : ℕ) (mid new : FrameSeen A) → DrainsNamed told words old i mid → bit_at told i ≡ 1
        → DrainsEach (i * 32) mid (min words (i * 32 + 32)) new → DrainsNamed told words old (i + 1) new

  -- a poll that found this number in the thread's notify word
  pub record Polled (old new : FrameSeen A) (told : ℕ) : Type 0 where
    pub mid : FrameSeen A
    pub heap : mid.heap ≡ old.heap
    pub woken : mid.seat.log ≡ Stepped Wake told Nothing ∷ old.seat.log
    pub works : mid.works ≡ old.works
    pub drains : DrainsNamed told (words_for old.heap.cells) mid ((words_for old.heap.cells + 31) / 32) new
