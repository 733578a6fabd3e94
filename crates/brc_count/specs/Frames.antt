-- What contracts see of a frame and of its handles, and what a frame keeps.
use Rattle.std.specs.Prelude.{◌≡◌, ◌≢◌, ◌<◌, ◌≤◌, ◌+◌, ◌-◌, ℕ, Bool, true, List, [], ◌∷◌, map, Option, Some, None}
use Rattle.std.specs.Prelude.{is_some, is_none, ◌&&◌, ◌*◌, ◌/◌, nat_le, nat_lt, if◌then◌else◌, length, false}
use Rattle.brc_count.specs.Places.{PlacesSeen, held_at, held_in, spare_in, cell_held}
use Rattle.brc_words.specs.declared.limits.TheConstants.{FIRST_MORTAL, MOST_PLACES}
use Rattle.brc_words.specs.declared.fault.Fault.{Fault}
use Rattle.brc_words.specs.declared.fault.Fault.TheVariants.{OutOfMemory, FrameFull}
use Rattle.brc_table.specs.block.declared.payload.Payload.{Payload}
use Rattle.brc_table.specs.block.Payload.{entries_of}
use Rattle.brc_table.specs.block.Blocks.{PopsEntry}
use Rattle.brc_table.specs.law.declared.world.event.Dropped.TheVariants as drops
use Rattle.brc_table.specs.law.declared.world.event.Source.{Source}
use Rattle.brc_table.specs.law.declared.world.event.Step.TheVariants.{LocalUp, LocalDown, Free}
use Rattle.brc_table.specs.law.declared.world.row.Hand.TheVariants as hands
use Rattle.std.specs.Int.{bit_at}
use Rattle.brc_table.specs.law.world.Heap.{words_for}
use Rattle.brc_table.specs.law.world.Lists.{place_at, is_marked, word_at, is_blank}
use Rattle.brc_table.specs.law.world.Steps.{is_active, is_left, locked_cell, lock_ok}
use Rattle.brc_table.specs.law.known.Items.{meant}
use Rattle.brc_table.specs.law.known.Taken.{Blocks, listed_at}
use Rattle.brc_table.specs.law.declared.rule.told.Moved.TheVariants.{Nothing}
use Rattle.brc_table.specs.law.declared.rule.told.LogItem.{LogItem}
use Rattle.brc_table.specs.law.declared.rule.told.LogItem.TheVariants.{Stepped}
use Rattle.brc_table.specs.law.rule.Logs.{entries_in}
use Rattle.brc_table.specs.law.rule.Seen.{part_seen, counts_seen, risen_seen, taken_seen}
use Rattle.brc_table.specs.law.steps.Taking.{AreCells}
use Rattle.brc_table.specs.Seated.{TableSeen, SeatSeen, IsSameSeat}
use Rattle.brc_table.specs.Moving.{found_locked}
use Rattle.brc_table.specs.Shown.{contents_of}
use Rattle.brc_biased.specs.Counter.{CounterSeen}
use Rattle.brc_biased.specs.Standing.{may_give_up}
use Rattle.brc_biased.specs.Released.{Released}
use Rattle.brc_biased.specs.Up.{CountsHere, RaisedImmortal, RaisedShared}
use Rattle.brc_count.specs.declared.held.PlaceEntry.{PlaceEntry}
use Rattle.brc_count.specs.declared.ledger.Ledger.{Ledger}

-- of which heap the handle is, of which thread, and which place of that thread's frame has its reference
pub record HandleSeen : Type 0 where
  pub heap : TableSeen
  pub thread : ℕ
  pub place : ℕ

-- the cell to which a place of the frame has a reference, by the thread's log
abbrev pub place_seen : ℕ → List LogItem → ℕ → Option ℕ
place_seen n log k = place_at (part_seen n log).frame k

-- the place that the thread has locked, if one, and its cell
abbrev pub locked_place : ℕ → List LogItem → Option ℕ
locked_place n log = (part_seen n log).row.locked

abbrev pub lock_seen : ℕ → List LogItem → Option ℕ
lock_seen n log = locked_cell (part_seen n log).frame (locked_place n log)

module _ {A : Type 0} where
  -- a dead block as its thread's log lists it, and its slot, which is out
  abbrev pub block_listed : ℕ × Payload A → ℕ × List ℕ
  block_listed block = (block.0, entries_in (contents_of block.1))

  abbrev pub slot_out : ℕ × Payload A → ℕ × Option (ℕ × Payload A)
  slot_out block = (block.0, None)

  -- the slots that are out: that of the locked object, and those of the worklist
  abbrev pub slots_out : Option ℕ → List (ℕ × Payload A) → List (ℕ × Option (ℕ × Payload A))
  slots_out None works = map slot_out works
  slots_out (Some c) works = (c, None) ∷ map slot_out works

  -- the worklist with a block more on its front, where there is one
  abbrev pub pushed : Option (ℕ × Payload A) → List (ℕ × Payload A) → List (ℕ × Payload A)
  pushed None works = works
  pushed (Some block) works = block ∷ works

-- no cell is listed twice
abbrev pub are_apart : Blocks → Bool
are_apart [] = true
are_apart (b ∷ blocks) = is_none (listed_at blocks b.0) && are_apart blocks

-- The dead blocks that are listed: each is marked, and no other cell is; its cell has the entries that are listed, and
-- all of them are cells of the heap; none is listed twice.
pub record Buried (n : ℕ) (marks : List Bool) (has : ℕ → List ℕ) (blocks : Blocks) : Type 0 where
  pub marked : (c : ℕ) (entries : List ℕ) → listed_at blocks c ≡ Some entries → is_marked marks c ≡ true
  pub has_them : (c : ℕ) (entries : List ℕ) → listed_at blocks c ≡ Some entries → has c ≡ entries
  pub inside : (c : ℕ) (entries : List ℕ) → listed_at blocks c ≡ Some entries → c < n
  pub are_cells : (c : ℕ) (entries : List ℕ) → listed_at blocks c ≡ Some entries → AreCells n entries
  pub apart : are_apart blocks ≡ true
  pub only : (c : ℕ) → listed_at blocks c ≡ None → is_marked marks c ≡ false

-- The free word at which a thread's claims begin, of which each has 64 cells; and whether they begin near the cells
-- that the thread claimed and freed last.
pub record StartSeen : Type 0 where
  pub from : ℕ
  pub near : Bool

-- the word of the first mortal cell, at which claims begin of which nobody asked anything
abbrev pub first_word : ℕ
first_word = FIRST_MORTAL / 64

-- the cell's word, where it is a mortal one of the heap's
abbrev pub word_asked : ℕ → ℕ → ℕ
word_asked cells cell = if nat_le FIRST_MORTAL cell && nat_lt cell cells then cell / 64 else first_word

-- The heap; the thread's seat at it, with the log of all that it did; how many handles there are, how many more need no
-- memory, and which place the next one gets; the dead blocks on the worklist, front first; and where claims begin.
pub record FrameSeen (A : Type 0) : Type 0 where
  pub heap : TableSeen
  pub seat : SeatSeen A
  pub len : ℕ
  pub spare : ℕ
  pub next : ℕ
  pub works : List (ℕ × Payload A)
  pub from : ℕ
  pub near : Bool

-- the thread has nothing locked
abbrev pub IsUnlocked : {A : Type 0} → FrameSeen A → Type 0
IsUnlocked frame = locked_place frame.heap.cells frame.seat.log ≡ None

-- The bits of popped words are cells of the heap: each word has those of 32.
abbrev pub AreBits : ℕ → List ℕ → Type 0
AreBits n words = (k i : ℕ) → bit_at (word_at words k) i ≡ 1 → (i < 32) × (k * 32 + i < n)

-- What a thread's holdings keep: nothing is in its hand; each place holds what the log says, and what is marked as
-- risen was seen so; the popped words are the log's; the worklist has the dead blocks that the log lists, and no slot
-- is out but theirs and that of the object that is locked, if one is; that one stands in its place, with the entries
-- that were found. Births and frees are counted.
pub record Holding (A : Type 0) (heap : TableSeen) (seat : SeatSeen A) (places : PlacesSeen)
    (works : List (ℕ × Payload A)) (popped : List ℕ) (ledger : Ledger) : Type 0 where
  pub hand_is : (part_seen heap.cells seat.log).row.hand ≡ hands.Free
  pub placed : (k : ℕ) → place_seen heap.cells seat.log k ≡ cell_held (held_at places k)
  pub risen : (k : ℕ) (held : PlaceEntry) → held_at places k ≡ Some held → held.risen ≡ true
      → risen_seen heap.cells seat.log (drops.Frame k) held.cell ≡ true
  pub inside : (k : ℕ) (held : PlaceEntry) → held_at places k ≡ Some held → held.cell < heap.cells
  pub out : seat.slots ≡ slots_out (lock_seen heap.cells seat.log) works
  pub lock_filled : (k : ℕ) → locked_place heap.cells seat.log ≡ Some k
      → is_some (place_seen heap.cells seat.log k) ≡ true
  pub lock_has : (c : ℕ) → lock_seen heap.cells seat.log ≡ Some c → (part_seen heap.cells seat.log).has c ≡ entries_in
      (found_locked seat.log)
  pub listed : taken_seen heap.cells seat.log ≡ map block_listed works
  pub buried : Buried heap.cells (part_seen heap.cells seat.log).worklist (part_seen heap.cells seat.log).has
      (taken_seen heap.cells seat.log)
  pub popped_is : popped ≡ (part_seen heap.cells seat.log).popped
  pub words : length popped ≡ words_for heap.cells
  pub bits : AreBits heap.cells popped
  pub allocs : ledger.allocs ≡ (part_seen heap.cells seat.log).row.allocs
  pub frees : ledger.frees ≡ (part_seen heap.cells seat.log).row.frees

-- the handle of the frame's thread for one of its places
abbrev pub handle_at : {A : Type 0} → FrameSeen A → ℕ → HandleSeen
handle_at frame k = record { heap = frame.heap; thread = frame.seat.thread; place = k }

-- the handle is of the frame's heap and of its thread, and its place has a reference
pub record Owns {A : Type 0} (frame : FrameSeen A) (handle : HandleSeen) : Type 0 where
  pub heap : handle.heap ≡ frame.heap
  pub thread : handle.thread ≡ frame.seat.thread
  pub filled : is_some (place_seen frame.heap.cells frame.seat.log handle.place) ≡ true

-- the words of popped entries
abbrev pub popped_seen : {A : Type 0} → FrameSeen A → List ℕ
popped_seen frame = (part_seen frame.heap.cells frame.seat.log).popped

-- the thread is active; the thread is active, or has left
abbrev pub IsActive : {A : Type 0} → FrameSeen A → Type 0
IsActive frame = is_active (part_seen frame.heap.cells frame.seat.log).row.stage ≡ true

abbrev pub MayGiveUp : {A : Type 0} → FrameSeen A → Type 0
MayGiveUp frame = may_give_up (part_seen frame.heap.cells frame.seat.log).row.stage ≡ true

-- the source is one that may be had with what is locked, and it is a reference to the cell
abbrev pub SourceFits : {A : Type 0} → Source → FrameSeen A → Type 0
SourceFits source frame = lock_ok (locked_place frame.heap.cells frame.seat.log) (LocalUp source frame.next) ≡ true

abbrev pub SourceNames : {A : Type 0} → Source → ℕ → FrameSeen A → Type 0
SourceNames source c frame = meant (part_seen frame.heap.cells frame.seat.log) (LocalUp source frame.next) ≡ Some c

-- What a frame keeps besides: between calls its thread is active, and nothing is popped.
pub record Framing {A : Type 0} (holdings : FrameSeen A) (thread : ℕ) : Type 0 where
  pub same_thread : holdings.seat.thread ≡ thread
  pub some_thread : 0 < thread
  pub active : IsActive holdings
  pub blank : is_blank (popped_seen holdings) ≡ true

-- What a closed frame keeps: its thread has left, nothing is locked, and the popped words below one are 0.
pub record Leaving {A : Type 0} (holdings : FrameSeen A) (thread next : ℕ) : Type 0 where
  pub same_thread : holdings.seat.thread ≡ thread
  pub some_thread : 0 < thread
  pub left : is_left (part_seen holdings.heap.cells holdings.seat.log).row.stage ≡ true
  pub unlocked : IsUnlocked holdings
  pub done : (k : ℕ) → k < next → word_at (popped_seen holdings) k ≡ 0

-- what contracts see of a frame at rest, without dead blocks
abbrev pub resting_seen : {A : Type 0} → CounterSeen A → PlacesSeen → StartSeen → FrameSeen A
resting_seen counter places start = record {
  heap = counter.heap;
  seat = counter.seat;
  len = held_in places;
  spare = spare_in places;
  next = places.next;
  works = [];
  from = start.from;
  near = start.near;
}

-- what a frame at rest keeps: it is a frame's, without handles and dead blocks, and nothing is locked
pub record Rests (A : Type 0) (counter : CounterSeen A) (places : PlacesSeen) (popped : List ℕ) (ledger : Ledger)
    (start : StartSeen) (thread : ℕ) : Type 0 where
  pub holding : Holding A counter.heap counter.seat places [] popped ledger
  pub framing : Framing (resting_seen counter places start) thread
  pub bare : held_in places ≡ 0
  pub unlocked : IsUnlocked (resting_seen counter places start)

-- ---- what calls do

-- Counting leaves this as it is: whether the thread is active, what it has locked, and where its claims begin.
pub record KeepsRest {A : Type 0} (old new : FrameSeen A) : Type 0 where
  pub stage : (part_seen new.heap.cells new.seat.log).row.stage ≡ (part_seen old.heap.cells old.seat.log).row.stage
  pub lock : locked_place new.heap.cells new.seat.log ≡ locked_place old.heap.cells old.seat.log
  pub from : new.from ≡ old.from
  pub near : new.near ≡ old.near

-- how many objects the thread has made, and how many cells it has given back
abbrev pub ledger_seen : {A : Type 0} → FrameSeen A → Ledger
ledger_seen frame = record {
  allocs = (part_seen frame.heap.cells frame.seat.log).row.allocs;
  frees = (part_seen frame.heap.cells frame.seat.log).row.frees;
}

-- nothing changed, but that more places may need no memory
abbrev pub IsAsBefore : {A : Type 0} → FrameSeen A → FrameSeen A → Type 0
IsAsBefore old new = new ≡ record old { spare = new.spare }

-- nothing changed, but where claims begin
abbrev pub KeepsButStart : {A : Type 0} → FrameSeen A → FrameSeen A → Type 0
KeepsButStart old new = new ≡ record old { from = new.from; near = new.near }

-- The one event by which a reference is counted up: an immortal's count stays; the local count rises, where the thread
-- has one of the cell and is below the limit; else the shared word.
pub record CountsUp {A : Type 0} (old new : FrameSeen A) (source : Source) (k c : ℕ) : Type 0 where
  pub immortal : c < FIRST_MORTAL → RaisedImmortal source k old.seat.log new.seat.log
  pub own : FIRST_MORTAL ≤ c → CountsHere old.heap.cells old.heap.local_limit old.seat.log c
      → new.seat.log ≡ Stepped (LocalUp source k) (counts_seen old.heap.cells old.seat.log c + 1) Nothing ∷ old.seat.log
  pub risen : Bool
  pub shared : FIRST_MORTAL ≤ c → ¬ CountsHere old.heap.cells old.heap.local_limit old.seat.log c
      → RaisedShared source k old.seat.log new.seat.log risen

-- A new handle is of the frame's heap and thread, in the place that was next, and has a reference to the cell; every
-- other place has what it had, and no block came or went.
pub record GivenHandle {A : Type 0} (old new : FrameSeen A) (source : Source) (c : ℕ)
    (given : HandleSeen) : Type 0 where
  pub heap : given.heap ≡ old.heap
  pub thread : given.thread ≡ old.seat.thread
  pub place : given.place ≡ old.next
  pub room : given.place < MOST_PLACES
  pub vacant : place_seen old.heap.cells old.seat.log given.place ≡ None
  pub has : place_seen new.heap.cells new.seat.log given.place ≡ Some c
  pub others : (k : ℕ) → k ≢ given.place → place_seen new.heap.cells new.seat.log k ≡ place_seen old.heap.cells
      old.seat.log k
  pub counted : CountsUp old new source given.place c
  pub seat : IsSameSeat old.seat new.seat
  pub len : new.len ≡ old.len + 1
  pub works : new.works ≡ old.works
  pub rest : KeepsRest old new

-- the next place is one below 65,536, and its memory is there
abbrev pub HasSpare : {A : Type 0} → FrameSeen A → Type 0
HasSpare frame = (0 < frame.spare) × (frame.next < MOST_PLACES)

-- there are 65,536 handles
abbrev pub IsFull : {A : Type 0} → FrameSeen A → Type 0
IsFull frame = MOST_PLACES ≤ frame.len

-- a handle is refused where there are 65,536; where there are fewer, a place, or memory for it, wasn't to be had
abbrev pub Refused : {A : Type 0} → FrameSeen A → Fault → Type 0
Refused old FrameFull = IsFull old
Refused old OutOfMemory = ¬ IsFull old
Refused old _ = ⊥

-- The events of a release are one of the lists of `brc_biased`, by which the object may end: then its block is on the
-- front of the worklist. The place is vacant, and every other place has what it had.
pub record ReleasedOf {A : Type 0} (old new : FrameSeen A) (k c : ℕ) : Type 0 where
  pub seen : Bool
  pub block : Option (ℕ × Payload A)
  pub events : Released old.heap.cells (drops.Frame k) c seen block old.seat.log new.seat.log
  pub works : new.works ≡ pushed block old.works
  pub vacant : place_seen new.heap.cells new.seat.log k ≡ None
  pub others : (j : ℕ) → j ≢ k → place_seen new.heap.cells new.seat.log j ≡ place_seen old.heap.cells old.seat.log j
  pub rest : KeepsRest old new

-- the reference of a place went by one step, which stored what is left of the thread's own count
abbrev pub CountedDown : {A : Type 0} → FrameSeen A → FrameSeen A → ℕ → ℕ → Type 0
CountedDown old new k c =
    new.seat.log ≡ Stepped (LocalDown (drops.Frame k)) (counts_seen old.heap.cells old.seat.log c - 1) Nothing
    ∷ old.seat.log

-- A turn of the work on dead blocks. The front block's last entry is released, by one of the lists, and where that
-- object ended its block is the new front; or the front block has no entries and its cell is given back; or no block is
-- there, and nothing is done. Every place has what it had.
pub data Turned {A : Type 0} (old new : FrameSeen A) : Type 0 where
  EntryReleased : (entry : ℕ) (mid : List (ℕ × Payload A)) (pops : PopsEntry old.works mid entry) (seen : Bool)
      (block : Option (ℕ × Payload A))
      → new.heap ≡ old.heap → Released old.heap.cells (drops.Work pops.cell) entry seen block old.seat.log new.seat.log
      → new.works ≡ pushed block mid → Turned old new
  BlockFreed : (front : ℕ × Payload A) (found : ℕ) → new.heap ≡ old.heap → old.works ≡ front ∷ new.works
      → entries_of front.1 ≡ []
      → new.seat.log ≡ Stepped (Free front.0) found Nothing ∷ old.seat.log → Turned old new

-- so many turns, one after the other
pub data Turns {A : Type 0} (old : FrameSeen A) : ℕ → FrameSeen A → Type 0 where
  NoTurn : Turns old 0 old
  OneMore : (n : ℕ) (mid new : FrameSeen A) → Turns old n mid → Turned mid new → Turns old (n + 1) new

-- what no turn touches
pub record KeepsHandles {A : Type 0} (old new : FrameSeen A) : Type 0 where
  pub heap : new.heap ≡ old.heap
  pub thread : new.seat.thread ≡ old.seat.thread
  pub len : new.len ≡ old.len
  pub next : new.next ≡ old.next
  pub places : (k : ℕ) → place_seen new.heap.cells new.seat.log k ≡ place_seen old.heap.cells old.seat.log k
  pub rest : KeepsRest old new
