-- How a thread leaves: it hands over what it counts, closes all its queue words, counts the entries down that were in
-- them, and takes its dead blocks apart. And how the log of a registration begins.
use Rattle.std.specs.Prelude.{◌≡◌, ℕ, ◌+◌, ◌-◌, ◌==◌, ◌<◌, if◌then◌else◌, true, false, List, [], ◌∷◌, Option}
use Rattle.brc_table.specs.law.declared.world.event.LastDropped.TheVariants as lasts
use Rattle.brc_table.specs.law.declared.world.event.Step.TheVariants.{Close, Reopen, Register, LastDown}
use Rattle.brc_table.specs.law.declared.world.row.Stage.{Stage}
use Rattle.brc_table.specs.law.declared.world.row.Stage.TheVariants as stages
use Rattle.brc_table.specs.law.world.Lists.{bit_of, is_blank}
use Rattle.brc_table.specs.law.world.Heap.{words_for}
use Rattle.brc_table.specs.law.world.Steps.{closed_more, opened_more}
use Rattle.brc_table.specs.law.declared.rule.told.Moved.TheVariants.{Nothing}
use Rattle.brc_table.specs.law.declared.rule.told.LogItem.{LogItem}
use Rattle.brc_table.specs.law.declared.rule.told.LogItem.TheVariants.{Stepped}
use Rattle.brc_table.specs.law.declared.rule.view.View.{View}
use Rattle.brc_table.specs.law.steps.Joining.{is_again, starting}
use Rattle.brc_words.specs.declared.limits.TheConstants.{FIRST_MORTAL}
use Rattle.brc_table.specs.block.declared.payload.Payload.{Payload}
use Rattle.brc_table.specs.law.rule.Seen.{counts_seen}
use Rattle.brc_count.specs.Frames.{FrameSeen, Turned, popped_seen, pushed}
use Rattle.brc_biased.specs.Released.{EndsByStep, HandsOver}

-- where a thread stands that has closed so many of its queue words
abbrev pub stage_with : ℕ → ℕ → Stage
stage_with words closed = if closed == 0 then stages.Active else closed_more words (closed - 1)

-- where a thread stands whose number is used again, once so many of its queue words are open
abbrev pub stage_opened : ℕ → ℕ → Stage
stage_opened words opened = if opened == 0 then stages.Opening 0 else opened_more words (opened - 1)

-- so many queue words were opened again, by rising number
pub data ReopensWords (before : List LogItem) : ℕ → List LogItem → Type 0 where
  NoneOpened : ReopensWords before 0 before
  Opened : (k : ℕ) (log : List LogItem) → ReopensWords before k log
      → ReopensWords before (k + 1) (Stepped (Reopen k) 0 Nothing ∷ log)

-- How the log of a thread begins that the root registers: a new number's with nothing, and one that was used before
-- with the root's item and all its queue words.
pub data BeginsBy (n : ℕ) (root : View) (log : List LogItem) : Type 0 where
  BeginsNew : is_again root ≡ false → log ≡ [] → BeginsBy n root log
  BeginsAgain : is_again root ≡ true → ReopensWords (starting root).log (words_for n) log → BeginsBy n root log

-- a log that says at most that its number is used again
pub data IsFirst (log : List LogItem) : Type 0 where
  FirstNew : log ≡ [] → IsFirst log
  FirstAgain : (t : ℕ) → log ≡ Stepped (Register t) 0 Nothing ∷ [] → IsFirst log

-- so many queue words were closed, by rising number
pub data ClosesWords (before : List LogItem) : ℕ → List LogItem → Type 0 where
  NoWord : ClosesWords before 0 before
  Closed : (k bits : ℕ) (log : List LogItem) → ClosesWords before k log
      → ClosesWords before (k + 1) (Stepped (Close k) bits Nothing ∷ log)

module _ {A : Type 0} where
  -- A popped entry of a thread that has left is counted down: its object is merged, since the thread handed over all
  -- that it counted. If the object ends, its block is at the front of the worklist.
  pub record CountsDown (old new : FrameSeen A) (c : ℕ) : Type 0 where
    pub heap : new.heap ≡ old.heap
    pub block : Option (ℕ × Payload A)
    pub events : EndsByStep (LastDown (lasts.Popped c)) c block old.seat.log new.seat.log
    pub works : new.works ≡ pushed block old.works

  -- A turn of a thread that has left: a popped entry is counted down; or, if none is left, a turn of the work on dead
  -- blocks.
  pub data TurnedLeaving (old new : FrameSeen A) : Type 0 where
    EntryDealt : (c : ℕ) → bit_of (popped_seen old) c ≡ 1 → CountsDown old new c → TurnedLeaving old new
    BlockTurned : is_blank (popped_seen old) ≡ true → Turned old new → TurnedLeaving old new

  -- so many turns, one after the other
  pub data TurnsLeaving (old : FrameSeen A) : ℕ → FrameSeen A → Type 0 where
    NoTurn : TurnsLeaving old 0 old
    OneMore : (n : ℕ) (mid new : FrameSeen A) → TurnsLeaving old n mid → TurnedLeaving mid new
        → TurnsLeaving old (n + 1) new

  -- an own object is handed over, by which it may end: then its block is at the front of the worklist
  pub record HandsOne (old new : FrameSeen A) (c : ℕ) : Type 0 where
    pub heap : new.heap ≡ old.heap
    pub block : Option (ℕ × Payload A)
    pub told : HandsOver c block old.seat.log new.seat.log
    pub works : new.works ≡ pushed block old.works

  -- of the mortal cells below one, each that the thread counts is handed over, by rising cell, and no other
  pub data HandsEach (old : FrameSeen A) : ℕ → FrameSeen A → Type 0 where
    NoneYet : HandsEach old FIRST_MORTAL old
    NotOwned : (c : ℕ) (new : FrameSeen A) → HandsEach old c new → counts_seen new.heap.cells new.seat.log c ≡ 0
        → HandsEach old (c + 1) new
    Handed : (c : ℕ) (mid new : FrameSeen A) → HandsEach old c mid → 0 < counts_seen mid.heap.cells mid.seat.log c
        → HandsOne mid new c
        → HandsEach old (c + 1) new

  -- a thread leaves: it hands over all that it counts, and then closes all its queue words
  pub record GoesOut (old new : FrameSeen A) : Type 0 where
    pub mid : FrameSeen A
    pub hands : HandsEach old old.heap.cells mid
    pub closes : ClosesWords mid.seat.log (words_for old.heap.cells) new.seat.log
