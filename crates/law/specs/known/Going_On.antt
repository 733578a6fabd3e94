-- What a thread knows from its own items, and what one more item makes of it: one line a kind of step. Whoever stands
-- above cites these, and needs neither the definitions that go over items nor the world.
use Rattle.std.specs.Prelude.{◌≡◌, ℕ, ◌+◌, ◌==◌, ◌&&◌, not, Bool, true, false, if◌then◌else◌, List, [], ◌∷◌, Option}
use Rattle.std.specs.Prelude.{Some, None, slice_set}
use Rattle.law.specs.declared.world.event.Change.{Change}
use Rattle.law.specs.declared.world.event.Change.TheVariants as changes
use Rattle.law.specs.declared.world.event.Dropped.{Dropped}
use Rattle.law.specs.declared.world.event.Dropped.TheVariants as dropped
use Rattle.law.specs.declared.world.event.LastDropped.TheVariants as lasts
use Rattle.law.specs.declared.world.event.Step.{Step}
use Rattle.law.specs.declared.world.event.Step.TheVariants.{Claim, InitLocal, InitShared, Birth, LocalUp, LocalDown}
use Rattle.law.specs.declared.world.event.Step.TheVariants.{SeeZero, Free, Untie, MergeZero, SharedUp, SharedDown, Ask}
use Rattle.law.specs.declared.world.event.Step.TheVariants.{LastDown, Enqueue, Drain, MergeAdd, Close, Reopen, Offer}
use Rattle.law.specs.declared.world.event.Step.TheVariants.{Lock, Unlock}
use Rattle.law.specs.declared.world.row.Hand.{Hand}
use Rattle.law.specs.declared.world.row.Hand.TheVariants as hands
use Rattle.law.specs.declared.world.row.Phase.TheVariants as phases
use Rattle.law.specs.declared.world.row.Stage.TheVariants as stages
use Rattle.law.specs.world.Lists.{filled, without_bit}
use Rattle.law.specs.world.Heap.{is_immortal, words_for}
use Rattle.law.specs.world.Steps.{takes_block, is_default, untied_hand, added_hand, frame_without, frame_changed}
use Rattle.law.specs.world.Steps.{entries_changed, closed_more, opened_more}
use Rattle.law.specs.known.Items.{Item, Part, part_of, cell_told, state_told, is_shut_word, put, has_found, has_without}
use Rattle.law.specs.known.Items.{popped_told}
use Rattle.law.specs.known.Counts.{counts_of}
use Rattle.law.specs.known.Taken.{Blocks, taken_of, cut_by, taken_on, off}
use Rattle.law.specs.known.Locked.{locked_of}

-- a thread's part of the world, the counts of its own objects, the dead blocks that it has, and what it has locked
pub record Known : Type 0 where
  pub part : Part
  pub counts : ℕ → ℕ
  pub blocks : Blocks
  pub lock : Option (ℕ × List ℕ)

abbrev pub known_of : ℕ → List Item → Known
known_of cells items = record {
  part = part_of cells items;
  counts = counts_of cells items;
  blocks = taken_of cells items;
  lock = locked_of items;
}

-- with one more item, that is what the thread knows
pub record KnowsNext (cells : ℕ) (items : List Item) (item : Item) (now : Known) : Type 0 where
  pub part_is : part_of cells (item ∷ items) ≡ now.part
  pub counts_are : (c : ℕ) → counts_of cells (item ∷ items) c ≡ now.counts c
  pub blocks_are : taken_of cells (item ∷ items) ≡ now.blocks
  pub lock_is : locked_of (item ∷ items) ≡ now.lock

-- ---- what steps have in common

-- this is in the hand
abbrev pub handing : Hand → Known → Known
handing hand old = record old { part = record old.part { row = record old.part.row { hand = hand } } }

-- the place of the frame has the cell
abbrev pub filling : ℕ → ℕ → Known → Known
filling k c old = record old { part = record old.part { frame = filled old.part.frame k c } }

-- the cell's own count is this number
abbrev pub counting : ℕ → ℕ → Known → Known
counting c number old = record old { counts = λ d. if d == c then number else old.counts d }

-- a place, or a block's last entry, lets its reference go
abbrev pub part_without : Option Dropped → Part → Part
part_without drop part = record part { frame = frame_without drop part.frame; has = has_without drop part.has }

abbrev pub giving_up : Option Dropped → Known → Known
giving_up drop old = record old { part = part_without drop old.part; blocks = cut_by drop old.blocks }

-- where the object is dead, its block is the thread's, with the entries found
abbrev pub part_taking : Bool → ℕ → List ℕ → Part → Part
part_taking takes c entries part = record part {
  worklist = if takes then slice_set part.worklist c true else part.worklist;
  has = has_found takes c entries part.has;
}

abbrev pub taking : Bool → ℕ → List ℕ → Known → Known
taking takes c entries old = record old {
  part = part_taking takes c entries old.part;
  blocks = taken_on false takes c entries old.blocks;
}

-- the bits of a queue word are popped
abbrev pub popping : ℕ → ℕ → Known → Known
popping k number old = record old { part = record old.part { popped = popped_told (Some k) number old.part.popped } }

-- ---- the kinds that have more to say

-- one object more was made, without entries
abbrev pub bearing : ℕ → Known → Known
bearing c old = record old {
  part = record old.part {
    row = record old.part.row { hand = hands.Free; allocs = old.part.row.allocs + 1 };
    has = put c [] old.part.has;
  };
}

-- at count 0 the object is in the hand
abbrev pub counting_down : Bool → Dropped → ℕ → ℕ → Known → Known
counting_down ends drop c number old = handing (if ends then hands.Busy phases.Zero c else old.part.row.hand)
    (giving_up (Some drop) (counting c number old))

-- the shared word is all 0: the object is dead; else the counts are merged
abbrev pub seeing_zero : Bool → ℕ → List ℕ → Known → Known
seeing_zero untouched c entries old = handing (if untouched then hands.Free else hands.Busy phases.Over c)
    (taking untouched c entries old)

-- one block more was given back
abbrev pub giving_back : ℕ → Known → Known
giving_back c old = record old {
  part = record old.part {
    row = record old.part.row { frees = old.part.row.frees + 1 };
    worklist = slice_set old.part.worklist c false;
  };
  blocks = off c old.blocks;
}

-- who turns the state has the reference in its hand; who comes late still has it where it was
abbrev pub asking : Bool → Dropped → ℕ → Known → Known
asking turns drop c old = handing (if turns then hands.Busy phases.Asked c else old.part.row.hand)
    (giving_up (if turns then Some drop else None) old)

abbrev pub dropping_last : Bool → Dropped → ℕ → List ℕ → Known → Known
dropping_last takes drop c entries old = record old {
  part = part_without (Some drop) (part_taking takes c entries old.part);
  blocks = taken_on false takes c entries (cut_by (Some drop) old.blocks);
}

-- a popped entry is dealt with
abbrev pub settling : ℕ → Known → Known
settling c old = record old { part = record old.part { popped = without_bit old.part.popped c } }

abbrev pub locking : ℕ → ℕ → List ℕ → Known → Known
locking k c entries old = record old {
  part = record old.part { row = record old.part.row { locked = Some k }; has = put c entries old.part.has };
  lock = Some (k, entries);
}

abbrev pub unlocking : Change → ℕ → Known → Known
unlocking change c old = record old {
  part = record old.part {
    row = record old.part.row { locked = None };
    frame = frame_changed change (old.part.has c) old.part.frame;
    has = put c (entries_changed change old.part.frame (old.part.has c)) old.part.has;
  };
  lock = None;
}

-- one queue word more is closed, and the thread counts nothing of its own from then on
abbrev pub closing : ℕ → ℕ → Known → Known
closing cells k old = record old {
  part =
      record old.part { row = record old.part.row { stage = closed_more (words_for cells) k } };
  counts = λ d. 0;
}

-- one queue word more of a number that is used again is open
abbrev pub reopening : ℕ → ℕ → Known → Known
reopening cells k old = record old {
  part =
      record old.part { row = record old.part.row { stage = opened_more (words_for cells) k } };
}

-- a number is used again: all its words are closed
abbrev pub starting_again : Known → Known
starting_again old = record old {
  part = record old.part { row = record old.part.row { stage = stages.Opening 0 } };
}

-- ---- the table

-- after a step that means the cell c, with the number that it was told and the entries that it found
abbrev pub knows_after : Step → ℕ → ℕ → List ℕ → Known → Known
knows_after (Claim d) c number entries old = handing (hands.Busy phases.Claimed c) old
knows_after (InitLocal d) c number entries old = handing (hands.Busy phases.Counted c) old
knows_after (InitShared d) c number entries old = handing (hands.Busy phases.Ready c) old
knows_after (Birth d kind k) c number entries old = filling k c (counting c 1 (bearing d old))
knows_after (LocalUp source k) c number entries old = filling k c (counting c number old)
knows_after (LocalDown drop) c number entries old = counting_down (not (is_immortal c) && (number + 1 == 1)) drop c
    number old
knows_after (SeeZero d) c number entries old = seeing_zero (takes_block (SeeZero d) (cell_told (SeeZero d) number)) c
    entries old
knows_after (Free d) c number entries old = giving_back c old
knows_after (Untie d) c number entries old = handing (untied_hand c old.part.row.hand) (counting c 0 old)
knows_after (MergeZero d) c number entries old =
    handing hands.Free (taking (takes_block (MergeZero d) (cell_told (MergeZero d) number)) c entries old)
knows_after (SharedUp source k) c number entries old = filling k c old
knows_after (SharedDown drop) c number entries old = giving_up (Some drop) old
knows_after (Ask drop) c number entries old = asking (is_default (state_told number)) drop c old
knows_after (LastDown (lasts.Dropped drop)) c number entries old =
    dropping_last (takes_block (LastDown (lasts.Dropped drop)) (cell_told (LastDown (lasts.Dropped drop)) number)) drop
    c entries old
knows_after (LastDown (lasts.Popped d)) c number entries old =
    settling d (taking (takes_block (LastDown (lasts.Popped d)) (cell_told (LastDown (lasts.Popped d)) number)) c
    entries old)
knows_after (LastDown lasts.Hand) c number entries old =
    handing hands.Free (taking (takes_block (LastDown lasts.Hand) (cell_told (LastDown lasts.Hand) number)) c
    entries old)
knows_after (Enqueue d) c number entries old =
    handing (if is_shut_word number then hands.Busy phases.Shut c else hands.Free) old
knows_after (MergeAdd d) c number entries old = handing (added_hand c old.part.row.hand)
    (taking (takes_block (MergeAdd d) (cell_told (MergeAdd d) number)) c entries old)
knows_after (Offer d) c number entries old = handing (hands.Busy phases.Offered c) old
knows_after (Lock k) c number entries old = locking k c entries old
knows_after (Unlock change) c number entries old = unlocking change c old
knows_after _ c number entries old = old

-- after a step on a word that is no cell's; telling another thread, and taking what others told, leave all as it is
abbrev pub knows_apart : ℕ → Step → ℕ → Known → Known
knows_apart cells (Drain k) number old = popping k number old
knows_apart cells (Close k) number old = closing cells k (popping k number old)
knows_apart cells (Reopen k) number old = reopening cells k old
knows_apart cells _ number old = old

-- ---- what a step leaves as it was

-- the place or the entry that a release gives up
abbrev pub given_up : Step → Option Dropped
given_up (LocalDown drop) = Some drop
given_up (SharedDown drop) = Some drop
given_up (Ask drop) = Some drop
given_up (LastDown (lasts.Dropped drop)) = Some drop
given_up _ = None

abbrev pub place_dropped : Option Dropped → Option ℕ
place_dropped (Some (dropped.Frame k)) = Some k
place_dropped _ = None

-- the place that an unlocking changes
abbrev pub place_changed : Change → Option ℕ
place_changed changes.Keep = None
place_changed (changes.Put j) = Some j
place_changed (changes.Take i j) = Some j
place_changed (changes.Swap i j) = Some j

-- the one place of the frame that a step may change
abbrev pub touched_place : Step → Option ℕ
touched_place (Birth c kind k) = Some k
touched_place (LocalUp source k) = Some k
touched_place (SharedUp source k) = Some k
touched_place (Unlock change) = place_changed change
touched_place s = place_dropped (given_up s)
