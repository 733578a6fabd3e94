-- Items: what a thread's table answers to each of its steps and looks, and what the thread knows from its own items.
--
-- A run of items is a list of (thread, item), newest first. Its events are a run; its notes change nothing.
use Rattle.std.specs.Prelude.{◌≡◌, ℕ, ◌+◌, ◌-◌, ◌*◌, ◌/◌, ◌%◌, ◌==◌, nat_le, ◌||◌, Bool, true, false, if◌then◌else◌, ℤ, pos}
use Rattle.std.specs.Prelude.{negsuc, ◌-ℤ◌, List, [], ◌∷◌, length, replicate, bit_or, Option, Some, None, slice_set}
use Rattle.std.specs.Prelude.{◌^◌, ◌≤◌, ◌<◌}
use Rattle.brc_words.specs.declared.limits.TheConstants.{MOST_THREADS}
use Rattle.brc_words.specs.declared.look.TheConstants.{CLOSED_BIT, ONE_COUNT, QUEUED_BITS}
use Rattle.brc_words.specs.Owners.{word_of}
use Rattle.brc_words.specs.Shared.{bits_of}
use Rattle.brc_words.specs.declared.state.State.{State}
use Rattle.brc_words.specs.declared.state.State.TheVariants as states
use Rattle.law.specs.declared.world.cell.Cell.{Cell}
use Rattle.law.specs.declared.world.event.Event.{Event}
use Rattle.law.specs.declared.world.event.Step.{Step}
use Rattle.law.specs.declared.world.event.Step.TheVariants.{Claim, InitLocal, InitShared, Birth, LocalUp, LocalDown}
use Rattle.law.specs.declared.world.event.Step.TheVariants.{Free, Untie, Enqueue, Drain, MergeAdd, Close, Nudge, Wake}
use Rattle.law.specs.declared.world.event.Step.TheVariants.{Lock, Unlock, Register, Reopen}
use Rattle.law.specs.declared.world.event.Dropped.{Dropped}
use Rattle.law.specs.declared.world.event.Dropped.TheVariants as dropped
use Rattle.law.specs.declared.world.row.Row.{Row}
use Rattle.law.specs.declared.world.row.Stage.{Stage}
use Rattle.law.specs.declared.world.row.Stage.TheVariants as stages
use Rattle.law.specs.world.Lists.{front_of, word_at, is_marked, number_in}
use Rattle.law.specs.world.Heap.{Heap, no_cell, new_row, cell_at, entries_at, row_at, frame_at, popped_at, worklist_at}
use Rattle.law.specs.world.Heap.{queue_at, words_for, is_registered}
use Rattle.law.specs.world.Steps.{enabled, target, target_at, cell_after, takes_block, is_closed, row_after}
use Rattle.law.specs.world.Steps.{frame_after, popped_after, worklist_after, gone, entries_changed, stage_after}
use Rattle.law.specs.world.Steps.{drained_word, is_shut, locked_at}
use Rattle.law.specs.world.Runs.{world_after}
use Rattle.law.specs.known.Free_Words.{free_words_for, free_bits, ShowsOwner}
pub use Rattle.law.specs.declared.known.word.Field.{Field}
pub use Rattle.law.specs.declared.known.word.Field.TheVariants.{Owner, Local, Shared, Mutex}
pub use Rattle.law.specs.declared.known.word.Word.{Word}
pub use Rattle.law.specs.declared.known.word.Word.TheVariants.{Of, Queue, NotifyWord, FreeWord}

-- ---- the numbers that words spell

-- A shared word has its count raised by 2^40 above its state bits, so that a count below 0 has a spelling.
abbrev pub RAISED_BY : ℕ
RAISED_BY = 2 ^ 40

-- a count, counted from -2^40
abbrev pub raised : ℤ → ℕ
raised (pos n) = RAISED_BY + n
raised (negsuc n) = RAISED_BY - 1 - n

abbrev pub shared_word : ℤ → State → ℕ
shared_word count state = raised count * ONE_COUNT + bits_of state

-- the number in a word of a cell
abbrev pub word_in : Field → Cell → ℕ
word_in Owner x = word_of x.owner
word_in Local x = x.local
word_in Shared x = shared_word x.count x.state
word_in Mutex x = x.mutex

-- bit 63 says that a queue word is closed
abbrev pub closing_bit : Bool → ℕ
closing_bit true = CLOSED_BIT
closing_bit false = 0

abbrev pub spelled : Heap → Word → ℕ
spelled h (Of field c) = word_in field (cell_at h c)
spelled h (Queue t k) = word_at (queue_at h t) k + closing_bit (is_closed (row_at h t).stage k)
spelled h (NotifyWord t) = word_at h.notify_words t
spelled h (FreeWord k) = free_bits h k

-- ---- what a step is told

-- the word of its cell that a step works on; those of Claim, Free and Enqueue are no cell's
abbrev pub field_of : Step → Field
field_of (InitLocal c) = Local
field_of (Birth c kind k) = Owner
field_of (LocalUp source k) = Local
field_of (LocalDown drop) = Local
field_of (Untie c) = Owner
field_of (Lock k) = Mutex
field_of (Unlock change) = Mutex
field_of _ = Shared

-- the same word of a cell
abbrev pub same_field : Field → Field → Bool
same_field Owner Owner = true
same_field Local Local = true
same_field Shared Shared = true
same_field Mutex Mutex = true
same_field _ _ = false

-- a store is told what it stores, every other step what it finds
abbrev pub is_store : Step → Bool
is_store (InitLocal c) = true
is_store (InitShared c) = true
is_store (Birth c kind k) = true
is_store (LocalUp source k) = true
is_store (LocalDown drop) = true
is_store (Untie c) = true
is_store (Unlock change) = true
is_store (MergeAdd c) = true
is_store _ = false

abbrev pub told_of : Heap → ℕ → Step → ℕ → ℕ
told_of h t (Claim d) c = spelled h (FreeWord (c / 64))
told_of h t (Free d) c = spelled h (FreeWord (c / 64))
told_of h t (Enqueue d) c = spelled h (Queue (cell_at h c).bearer (c / 32))
told_of h t s c = word_in (field_of s) (if is_store s then cell_after t s c (cell_at h c) else cell_at h c)

-- of steps that mean no cell
abbrev pub told_apart : Heap → ℕ → Step → ℕ
told_apart h t (Drain k) = spelled h (Queue t k)
told_apart h t (Close k) = spelled h (Queue t k)
told_apart h t (Nudge u k) = spelled h (NotifyWord u)
told_apart h t Wake = spelled h (NotifyWord t)
told_apart h t _ = 0

abbrev pub told_at : Heap → ℕ → Step → Option ℕ → ℕ
told_at h t s None = told_apart h t s
told_at h t s (Some c) = told_of h t s c

-- the number that a thread's step is told; of a closed queue word this is one of those that may be there
abbrev pub told : Heap → ℕ → Step → ℕ
told h t s = told_at h t s (target_at h t s)

-- the step meets a closed queue word
abbrev pub meets_closed : Heap → Step → Bool
meets_closed h (Enqueue d) = is_shut h d
meets_closed h _ = false

-- In a closed queue word the other bits mean nothing: who was late leaves a bit in it, so nothing is told but bit 63.
abbrev pub ToldBy : Bool → ℕ → ℕ → Type 0
ToldBy true word number = CLOSED_BIT ≤ number
ToldBy false word number = number ≡ word

-- the number is one that a thread's step may be told
abbrev pub IsNumberFound : Heap → ℕ → Step → ℕ → Type 0
IsNumberFound h t s number = ToldBy (meets_closed h s) (told h t s) number

-- the number is one that may stand in the word; the words of a thread that isn't registered are 0, and open
abbrev pub ShowsQueue : Bool → Bool → ℕ → ℕ → Type 0
ShowsQueue false closed bits number = number ≡ 0
ShowsQueue true closed bits number = ToldBy closed bits number

abbrev pub WordShows : Heap → Word → ℕ → Type 0
WordShows h (Queue t k) number = ShowsQueue (is_registered h t) (is_closed (row_at h t).stage k)
    (word_at (queue_at h t) k) number
WordShows h (Of Owner c) number = ShowsOwner (length h.rows) (cell_at h c).owner number
WordShows h word number = number ≡ spelled h word

-- the one word that a thread's step works on
abbrev pub works_on : Heap → ℕ → Step → Option ℕ → Word
works_on h t (Claim d) (Some c) = FreeWord (c / 64)
works_on h t (Free d) (Some c) = FreeWord (c / 64)
works_on h t (Enqueue d) (Some c) = Queue (cell_at h c).bearer (c / 32)
works_on h t s (Some c) = Of (field_of s) c
works_on h t (Nudge u k) None = NotifyWord u
works_on h t Wake None = NotifyWord t
works_on h t (Reopen k) None = Queue t k
works_on h t s None = Queue t (number_in (drained_word s))

-- The words of a heap of so many cells. The owner's count stands in none: the owner's own items tell it.
abbrev pub IsWord : ℕ → Word → Type 0
IsWord cells (Of Local c) = ⊥
IsWord cells (Of field c) = c < cells
IsWord cells (Queue t k) = (t < MOST_THREADS + 1) × (k < words_for cells)
IsWord cells (NotifyWord t) = t < MOST_THREADS + 1
IsWord cells (FreeWord k) = k < free_words_for cells

-- a step that locks the cell finds its entries, and so does one that takes its block
abbrev pub finds : Step → Cell → Bool
finds (Lock k) x = true
finds s x = takes_block s x

abbrev pub found_at : Heap → Step → Option ℕ → List ℕ
found_at h s None = []
found_at h s (Some c) = if finds s (cell_at h c) then entries_at h c else []

-- the entries that a thread's step finds
abbrev pub found : Heap → ℕ → Step → List ℕ
found h t s = found_at h s (target_at h t s)

-- ---- runs of items

-- a step with the number that it was told and the entries that it found; or a note: a load, or a compare-exchange that
-- was lost, with the number found
pub data Item : Type 0 where
  Stepped : Step → ℕ → List ℕ → Item
  Loaded : Word → ℕ → Item
  Lost : Word → ℕ → Item

abbrev pub ItemRun : Type 0
ItemRun = List (ℕ × Item)

abbrev pub with_event : ℕ → Item → List Event → List Event
with_event t (Stepped s number entries) run = record { thread = t; step = s } ∷ run
with_event t (Loaded word number) run = run
with_event t (Lost word number) run = run

abbrev pub events_of : ItemRun → List Event
events_of [] = []
events_of (x ∷ items) = with_event x.0 x.1 (events_of items)

-- the world after the events of the items
abbrev pub world_of_items : Heap → ItemRun → Heap
world_of_items start items = world_after start (events_of items)

-- the item may come next: a step that is enabled, with what it is told and finds; a note with a number that may be
-- there
abbrev pub MayCome : Heap → ℕ → Item → Type 0
MayCome h t (Stepped s number entries) = (enabled h (record { thread = t; step = s }) ≡ true)
    × IsNumberFound h t s number × (entries ≡ found h t s)
MayCome h t (Loaded word number) = WordShows h word number
MayCome h t (Lost word number) = WordShows h word number

-- each item may come where it stands
abbrev pub AreItems : Heap → ItemRun → Type 0
AreItems start [] = Unit {0}
AreItems start (x ∷ items) = AreItems start items × MayCome (world_of_items start items) x.0 x.1

-- the root registers the thread
abbrev pub is_start : ℕ → Item → Bool
is_start t (Stepped (Register u) number entries) = u == t
is_start t _ = false

-- some item before registers the thread
abbrev pub is_used : ℕ → ItemRun → Bool
is_used t [] = false
is_used t (x ∷ items) = is_start t x.1 || is_used t items

-- What a thread begins with: nothing, where its number is new; where the number was borne before, the item that
-- registers it again. So the own items say that its queue words are still closed.
abbrev pub begins_with : Bool → Item → List Item
begins_with true x = x ∷ []
begins_with false x = []

-- a thread's own items, newest first, since it was last registered
abbrev pub own : ℕ → ItemRun → List Item
own t [] = []
own t (x ∷ items) =
    if is_start t x.1 then begins_with (is_used t items) x.1 else (if x.0 == t then x.1 ∷ own t items else own t items)

-- ---- what own items say

-- A thread's own part of the world, and the entries of the cell that it has locked and of the cells on its worklist; of
-- other cells nothing is said.
pub record Part : Type 0 where
  pub row : Row
  pub frame : List (Option ℕ)
  pub popped : List ℕ
  pub worklist : List Bool
  pub has : ℕ → List ℕ

-- a thread as it is registered, in a heap of so many cells
abbrev pub new_part : ℕ → Part
new_part cells = record {
  row = new_row;
  frame = [];
  popped = replicate (words_for cells) 0;
  worklist = replicate cells false;
  has = λ _. [];
}

-- count and state, read off the number of a shared word
abbrev pub count_told : ℕ → ℤ
count_told number = pos (number / ONE_COUNT) -ℤ pos RAISED_BY

abbrev pub state_told : ℕ → State
state_told number = if number % ONE_COUNT ==
    0 then states.Default else (if number % ONE_COUNT == QUEUED_BITS then states.Queued else states.Merged)

-- the cell as a step's number tells it: the local count before one was taken, or count and state
abbrev pub cell_told : Step → ℕ → Cell
cell_told (LocalDown drop) number = record no_cell { local = number + 1 }
cell_told s number = record no_cell { count = count_told number; state = state_told number }

abbrev pub is_shut_word : ℕ → Bool
is_shut_word number = nat_le CLOSED_BIT number

-- the bits of a queue word that were taken
abbrev pub popped_told : Option ℕ → ℕ → List ℕ → List ℕ
popped_told None number popped = popped
popped_told (Some k) number popped = slice_set popped k (bit_or (word_at popped k) number)

-- these are the cell's entries now
abbrev pub put : ℕ → List ℕ → (ℕ → List ℕ) → ℕ → List ℕ
put c entries has d = if d == c then entries else has d

-- entries that were found join
abbrev pub has_found : Bool → ℕ → List ℕ → (ℕ → List ℕ) → ℕ → List ℕ
has_found true c entries has = put c entries has
has_found false c entries has = has

-- a release gives up the last entry of a dead block
abbrev pub has_without : Option Dropped → (ℕ → List ℕ) → ℕ → List ℕ
has_without None has = has
has_without (Some (dropped.Frame k)) has = has
has_without (Some (dropped.Work c)) has = put c (front_of (has c)) has

abbrev pub has_after : Step → ℕ → Cell → List (Option ℕ) → (ℕ → List ℕ) → ℕ → List ℕ
has_after (Birth d kind k) c x frame has = put d [] has
has_after (Unlock change) c x frame has = put c (entries_changed change frame (has c)) has
has_after s c x frame has = has_without (gone s x) has

-- the stage after a step that means no cell; a number that is used again begins with all words closed
abbrev pub own_stage_after : ℕ → Step → Stage → Stage
own_stage_after words (Register u) stage = stages.Opening 0
own_stage_after words s stage = stage_after words s stage

-- the part after a step, by the cell that it means: what the step does to the world's, with the cell as it was told
abbrev pub part_by : ℕ → Part → Step → ℕ → List ℕ → Option ℕ → Part
part_by cells part s number entries None = record part {
  row = record part.row { stage = own_stage_after (words_for cells) s part.row.stage };
  popped = popped_told (drained_word s) number part.popped;
}
part_by cells part s number entries (Some c) = record {
  row = row_after s c (cell_told s number) (is_shut_word number) part.row;
  frame = frame_after s c (cell_told s number) (part.has c) part.frame;
  popped = popped_after s part.popped;
  worklist = worklist_after s c (cell_told s number) part.worklist;
  has = has_after s c (cell_told s number) part.frame (has_found (finds s (cell_told s number)) c entries part.has);
}

-- the cell that a step means, read off the part
abbrev pub meant : Part → Step → Option ℕ
meant part s = target part.row part.frame part.worklist part.has s

abbrev pub part_after : ℕ → Part → Item → Part
part_after cells part (Stepped s number entries) = part_by cells part s number entries (meant part s)
part_after cells part (Loaded word number) = part
part_after cells part (Lost word number) = part

-- a thread's part, from its own items alone
abbrev pub part_of : ℕ → List Item → Part
part_of cells [] = new_part cells
part_of cells (x ∷ items) = part_after cells (part_of cells items) x

-- the world's thread is this part
pub record IsPart (h : Heap) (t : ℕ) (part : Part) : Type 0 where
  pub row_is : row_at h t ≡ part.row
  pub frame_is : frame_at h t ≡ part.frame
  pub popped_is : popped_at h t ≡ part.popped
  pub work_is : worklist_at h t ≡ part.worklist
  pub locked_has : (c : ℕ) → locked_at h t ≡ Some c → entries_at h c ≡ part.has c
  pub work_has : (c : ℕ) → is_marked (worklist_at h t) c ≡ true → entries_at h c ≡ part.has c
