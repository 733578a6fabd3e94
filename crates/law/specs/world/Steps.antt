-- The atomic steps: when each is enabled, and what it does.
--
-- Both are factored: what the thread's own part must be, which one cell is meant (read off the own part alone), and
-- what that cell must be; then what becomes of the cell, of the own part, of entries and of queue words. Counting,
-- merging, asking and the merge queue are those of PEP 703, "Biased Reference Counting", and of Choi, Shull and
-- Torrellas; claiming, the hand, closed queue words and the worklist are this heap's own.
use Rattle.std.specs.Prelude.{ℕ, zero, suc, ◌+◌, ◌-◌, ◌/◌, ◌^◌, ◌==◌, nat_lt, nat_le, ◌&&◌, ◌||◌, not, Bool, true}
use Rattle.std.specs.Prelude.{false, if◌then◌else◌, ℤ, pos, negsuc, ◌+ℤ◌, ◌-ℤ◌, List, [], ◌∷◌, ◌++◌, length, replicate}
use Rattle.std.specs.Prelude.{remove, bit_or, Option, Some, None, is_none, is_some, slice_index_or, slice_get}
use Rattle.std.specs.Prelude.{slice_set}
use Rattle.brc_words.specs.declared.limits.TheConstants.{FIRST_MORTAL, MOST_ENTRIES, MOST_BIRTHS, MOST_PLACES}
use Rattle.brc_words.specs.declared.limits.TheConstants.{MOST_THREADS, MOST_REGISTRATIONS}
use Rattle.brc_words.specs.Kinds.{is_mortal, is_container}
use Rattle.brc_words.specs.declared.owner.Owner.{Owner}
use Rattle.brc_words.specs.declared.owner.Owner.TheVariants as owners
use Rattle.brc_words.specs.declared.state.State.{State}
use Rattle.brc_words.specs.declared.state.State.TheVariants as states
use Rattle.law.specs.world.Phases.{is_ending}
use Rattle.law.specs.declared.world.cell.Cell.{Cell}
use Rattle.law.specs.declared.world.edition.Edition.{Edition}
use Rattle.law.specs.declared.world.edition.Edition.TheVariants as editions
use Rattle.law.specs.declared.world.event.Event.{Event}
use Rattle.law.specs.declared.world.event.Step.{Step}
use Rattle.law.specs.declared.world.event.Step.TheVariants.{Claim, InitLocal, InitShared, Birth, LocalUp, LocalDown}
use Rattle.law.specs.declared.world.event.Step.TheVariants.{SeeZero, Free, Untie, MergeZero, SharedUp, SharedDown, Ask}
use Rattle.law.specs.declared.world.event.Step.TheVariants.{LastDown, Enqueue, Drain, MergeAdd, Close, Nudge, Wake}
use Rattle.law.specs.declared.world.event.Step.TheVariants.{Lock, Unlock, Register, Gather, Offer, Reopen}
use Rattle.law.specs.declared.world.event.Source.{Source}
use Rattle.law.specs.declared.world.event.Source.TheVariants as sources
use Rattle.law.specs.declared.world.event.Dropped.{Dropped}
use Rattle.law.specs.declared.world.event.Dropped.TheVariants as dropped
use Rattle.law.specs.declared.world.event.LastDropped.{LastDropped}
use Rattle.law.specs.declared.world.event.LastDropped.TheVariants as lasts
use Rattle.law.specs.declared.world.event.Change.{Change}
use Rattle.law.specs.declared.world.event.Change.TheVariants as changes
use Rattle.law.specs.declared.world.row.Row.{Row}
use Rattle.law.specs.declared.world.row.Hand.{Hand}
use Rattle.law.specs.declared.world.row.Hand.TheVariants as hands
use Rattle.law.specs.declared.world.row.Phase.{Phase}
use Rattle.law.specs.declared.world.row.Phase.TheVariants as phases
use Rattle.law.specs.declared.world.row.Stage.{Stage}
use Rattle.law.specs.declared.world.row.Stage.TheVariants as stages
use Rattle.law.specs.world.Lists.{place_at, filled, vacated, is_marked, last_of, front_of, number_in, bit_of, word_at}
use Rattle.law.specs.world.Lists.{with_bit, without_bit, is_bare, is_unmarked, is_blank}
use Rattle.law.specs.world.Heap.{Heap, cell_at, entries_at, row_at, frame_at, popped_at, worklist_at, queue_at, no_cell}
use Rattle.law.specs.world.Heap.{new_row, again_row, is_registered, is_gathered, is_immortal, words_for}

-- ---- which cell a step means

-- the cell that the thread has locked
abbrev pub locked_cell : List (Option ℕ) → Option ℕ → Option ℕ
locked_cell frame None = None
locked_cell frame (Some k) = place_at frame k

abbrev pub entry_of : (ℕ → List ℕ) → Option ℕ → ℕ → Option ℕ
entry_of has None i = None
entry_of has (Some c) i = slice_get (has c) i

-- the cell that a source names
abbrev pub source_cell : Row → List (Option ℕ) → (ℕ → List ℕ) → Source → Option ℕ
source_cell row frame has (sources.Frame k) = place_at frame k
source_cell row frame has (sources.Entry i) = entry_of has (locked_cell frame row.locked) i
source_cell row frame has (sources.Immortal c) = if is_immortal c then Some c else None

-- the cell whose reference goes
abbrev pub dropped_cell : List (Option ℕ) → List Bool → (ℕ → List ℕ) → Dropped → Option ℕ
dropped_cell frame worklist has (dropped.Frame k) = place_at frame k
dropped_cell frame worklist has (dropped.Work c) = if is_marked worklist c then last_of (has c) else None

-- the cell in the hand
abbrev pub cell_in_hand : Hand → Option ℕ
cell_in_hand hands.Free = None
cell_in_hand (hands.Busy phase c) = Some c

abbrev pub last_cell : Hand → List (Option ℕ) → List Bool → (ℕ → List ℕ) → LastDropped → Option ℕ
last_cell hand frame worklist has (lasts.Dropped drop) = dropped_cell frame worklist has drop
last_cell hand frame worklist has (lasts.Popped c) = Some c
last_cell hand frame worklist has lasts.Hand = cell_in_hand hand

-- the one cell that the step means, read off the thread's own part: its row, its frame, its worklist, and the entries
-- of the cell that it has locked and of the cells on its worklist
abbrev pub target : Row → List (Option ℕ) → List Bool → (ℕ → List ℕ) → Step → Option ℕ
target row frame worklist has (Claim c) = Some c
target row frame worklist has (InitLocal c) = Some c
target row frame worklist has (InitShared c) = Some c
target row frame worklist has (Birth c kind k) = Some c
target row frame worklist has (LocalUp source k) = source_cell row frame has source
target row frame worklist has (LocalDown drop) = dropped_cell frame worklist has drop
target row frame worklist has (SeeZero c) = Some c
target row frame worklist has (Free c) = Some c
target row frame worklist has (Untie c) = Some c
target row frame worklist has (MergeZero c) = Some c
target row frame worklist has (SharedUp source k) = source_cell row frame has source
target row frame worklist has (SharedDown drop) = dropped_cell frame worklist has drop
target row frame worklist has (Ask drop) = dropped_cell frame worklist has drop
target row frame worklist has (LastDown last) = last_cell row.hand frame worklist has last
target row frame worklist has (Enqueue c) = Some c
target row frame worklist has (Drain k) = None
target row frame worklist has (MergeAdd c) = Some c
target row frame worklist has (Close k) = None
target row frame worklist has (Nudge u k) = None
target row frame worklist has Wake = None
target row frame worklist has (Lock k) = place_at frame k
target row frame worklist has (Unlock change) = locked_cell frame row.locked
target row frame worklist has (Register u) = None
target row frame worklist has (Gather u) = None
target row frame worklist has (Offer c) = Some c
target row frame worklist has (Reopen k) = None

abbrev pub locked_at : Heap → ℕ → Option ℕ
locked_at h t = locked_cell (frame_at h t) (row_at h t).locked

-- a thread's steps on words that are no cell's: of its own merge queue, or a notify word
abbrev pub needs_no_cell : Step → Bool
needs_no_cell (Drain k) = true
needs_no_cell (Close k) = true
needs_no_cell (Nudge u k) = true
needs_no_cell Wake = true
needs_no_cell (Reopen k) = true
needs_no_cell _ = false

-- ---- the general conditions, one line a kind of step

-- while an object is locked only steps from its entries are made, and its unlocking; without a lock none of these
abbrev pub needs_lock : Step → Bool
needs_lock (LocalUp (sources.Entry i) k) = true
needs_lock (SharedUp (sources.Entry i) k) = true
needs_lock (Unlock change) = true
needs_lock _ = false

abbrev pub lock_ok : Option ℕ → Step → Bool
lock_ok None s = not (needs_lock s)
lock_ok (Some k) s = needs_lock s

-- a thread that is closing only closes
abbrev pub is_close : Step → Bool
is_close (Close k) = true
is_close _ = false

-- a thread whose number is used again only opens, until all is open
abbrev pub is_open : Step → Bool
is_open (Reopen k) = true
is_open _ = false

-- a thread that has left only gives up and deals with what it still has
abbrev pub may_after_leaving : Step → Bool
may_after_leaving (LocalDown drop) = true
may_after_leaving (SharedDown drop) = true
may_after_leaving (Ask drop) = true
may_after_leaving (LastDown last) = true
may_after_leaving (Enqueue c) = true
may_after_leaving (Untie c) = true
may_after_leaving (MergeAdd c) = true
may_after_leaving (Free c) = true
may_after_leaving (Nudge u k) = true
may_after_leaving _ = false

abbrev pub stage_ok : Stage → Step → Bool
stage_ok stages.Active s = true
stage_ok (stages.Closing n) s = is_close s
stage_ok stages.Left s = may_after_leaving s
stage_ok (stages.Opening n) s = is_open s

abbrev pub phase_number : Phase → ℕ
phase_number phases.Claimed = 0
phase_number phases.Counted = 1
phase_number phases.Ready = 2
phase_number phases.Zero = 3
phase_number phases.Over = 4
phase_number phases.Untied = 5
phase_number phases.Asked = 6
phase_number phases.Shut = 7
phase_number phases.Taking = 8
phase_number phases.Held = 9
phase_number phases.Popping = 10
phase_number phases.Offered = 11
phase_number phases.Yielding = 12

abbrev pub is_free_hand : Hand → Bool
is_free_hand hands.Free = true
is_free_hand (hands.Busy phase c) = false

-- the hand has this cell in this phase
abbrev pub is_at : Phase → ℕ → Hand → Bool
is_at wanted d hands.Free = false
is_at wanted d (hands.Busy phase c) = (phase_number phase == phase_number wanted) && (c == d)

abbrev pub is_ending_hand : Hand → Bool
is_ending_hand hands.Free = false
is_ending_hand (hands.Busy phase c) = is_ending phase

-- a step needs the hand free, but for those that go on with the cell in it
abbrev pub hand_ok : Hand → Step → Bool
hand_ok hand (Claim c) = is_free_hand hand
hand_ok hand (InitLocal c) = is_at phases.Claimed c hand
hand_ok hand (InitShared c) = is_at phases.Counted c hand
hand_ok hand (Birth c kind k) = is_at phases.Ready c hand
hand_ok hand (LocalUp source k) = is_free_hand hand
hand_ok hand (LocalDown drop) = is_free_hand hand
hand_ok hand (SeeZero c) = is_at phases.Zero c hand
hand_ok hand (Free c) = is_free_hand hand
hand_ok hand (Untie c) = is_at phases.Over c hand || is_at phases.Shut c hand || is_at phases.Offered c hand ||
    is_free_hand hand
hand_ok hand (MergeZero c) = is_at phases.Untied c hand
hand_ok hand (SharedUp source k) = is_free_hand hand
hand_ok hand (SharedDown drop) = is_free_hand hand
hand_ok hand (Ask drop) = is_free_hand hand
hand_ok hand (LastDown (lasts.Dropped drop)) = is_free_hand hand
hand_ok hand (LastDown (lasts.Popped c)) = is_free_hand hand
hand_ok hand (LastDown lasts.Hand) = is_ending_hand hand
hand_ok hand (Enqueue c) = is_at phases.Asked c hand
hand_ok hand (Drain k) = is_free_hand hand
hand_ok hand (MergeAdd c) = is_at phases.Taking c hand || is_at phases.Popping c hand || is_at phases.Yielding c hand
hand_ok hand (Close k) = is_free_hand hand
hand_ok hand (Nudge u k) = is_free_hand hand
hand_ok hand Wake = is_free_hand hand
hand_ok hand (Lock k) = is_free_hand hand
hand_ok hand (Unlock change) = is_free_hand hand
hand_ok hand (Register u) = false
hand_ok hand (Gather u) = false
hand_ok hand (Offer c) = is_free_hand hand
hand_ok hand (Reopen k) = is_free_hand hand

-- ---- further conditions

-- a place that is filled must be vacant
abbrev pub is_vacant : List (Option ℕ) → ℕ → Bool
is_vacant frame k = nat_lt k MOST_PLACES && is_none (place_at frame k)

abbrev pub is_empty : List ℕ → Bool
is_empty xs = length xs == 0

abbrev pub is_active : Stage → Bool
is_active stages.Active = true
is_active (stages.Closing n) = false
is_active stages.Left = false
is_active (stages.Opening n) = false

abbrev pub is_left : Stage → Bool
is_left stages.Active = false
is_left (stages.Closing n) = false
is_left stages.Left = true
is_left (stages.Opening n) = false

-- the word is one of those that the thread has closed
abbrev pub is_closed : Stage → ℕ → Bool
is_closed stages.Active k = false
is_closed (stages.Closing n) k = nat_lt k n
is_closed stages.Left k = true
is_closed (stages.Opening n) k = nat_le n k

-- words are closed in rising order: this one is the next
abbrev pub closes_next : Stage → ℕ → Bool
closes_next stages.Active k = k == 0
closes_next (stages.Closing n) k = k == n
closes_next stages.Left k = false
closes_next (stages.Opening n) k = false

-- words are opened again in rising order: this one is the next
abbrev pub opens_next : Stage → ℕ → Bool
opens_next stages.Active k = false
opens_next (stages.Closing n) k = false
opens_next stages.Left k = false
opens_next (stages.Opening n) k = k == n

-- before the first is closed nothing popped is left
abbrev pub may_begin_closing : List ℕ → ℕ → Bool
may_begin_closing popped k = nat_lt 0 k || is_blank popped

-- a queue word of the object's bearer was closed to the hand's reference
abbrev pub is_shut_hand : Hand → Bool
is_shut_hand hands.Free = false
is_shut_hand (hands.Busy phase c) = phase_number phase == 7

-- a place that isn't the locked one
abbrev pub is_unlocked : Option ℕ → ℕ → Bool
is_unlocked None j = true
is_unlocked (Some k) j = not (k == j)

-- what the change needs of the frame and of the entries of the locked object
abbrev pub change_ok : Option ℕ → List (Option ℕ) → List ℕ → Change → Bool
change_ok locked frame entries changes.Keep = true
change_ok locked frame entries (changes.Put j) = nat_lt (length entries) MOST_ENTRIES && is_some
    (place_at frame j) && is_unlocked locked j
change_ok locked frame entries (changes.Take i j) = nat_lt i (length entries) && is_vacant frame j &&
    is_unlocked locked j
change_ok locked frame entries (changes.Swap i j) = nat_lt i (length entries) && is_some
    (place_at frame j) && is_unlocked locked j

-- the entries of the locked object
abbrev pub locked_entries : (ℕ → List ℕ) → Option ℕ → List ℕ
locked_entries has None = []
locked_entries has (Some c) = has c

-- a popped entry, where nothing is in the hand
abbrev pub untie_ok : Hand → List ℕ → ℕ → Bool
untie_ok hands.Free popped c = bit_of popped c == 1
untie_ok (hands.Busy phase d) popped c = true

-- what the own part must be besides; a thread has so many queue words
abbrev pub own_ok : ℕ → Row → List (Option ℕ) → List ℕ → List Bool → (ℕ → List ℕ) → Step → Bool
own_ok words row frame popped worklist has (Claim c) = nat_lt row.allocs MOST_BIRTHS
own_ok words row frame popped worklist has (Birth c kind k) = is_mortal kind && is_vacant frame k
own_ok words row frame popped worklist has (LocalUp source k) = is_vacant frame k
own_ok words row frame popped worklist has (Free c) = is_marked worklist c && is_empty (has c)
own_ok words row frame popped worklist has (Untie c) = untie_ok row.hand popped c
own_ok words row frame popped worklist has (SharedUp source k) = is_vacant frame k
own_ok words row frame popped worklist has (LastDown (lasts.Popped c)) = bit_of popped c == 1
own_ok words row frame popped worklist has (Drain k) = nat_lt k words
own_ok words row frame popped worklist has (Close k) = nat_lt k words && closes_next row.stage k && is_bare frame &&
    may_begin_closing popped k
own_ok words row frame popped worklist has (Unlock change) = change_ok row.locked frame
    (locked_entries has (locked_cell frame row.locked)) change
own_ok words row frame popped worklist has (Offer c) = not (is_marked worklist c)
own_ok words row frame popped worklist has (Reopen k) = nat_lt k words && opens_next row.stage k
own_ok words row frame popped worklist has _ = true

abbrev pub is_owned_by : ℕ → Owner → Bool
is_owned_by t owners.Nobody = false
is_owned_by t (owners.Thread s) = s == t
is_owned_by t (owners.Claimed s) = false
is_owned_by t owners.Free = false

abbrev pub is_nobody : Owner → Bool
is_nobody owners.Nobody = true
is_nobody (owners.Thread s) = false
is_nobody (owners.Claimed s) = false
is_nobody owners.Free = false

abbrev pub is_free : Owner → Bool
is_free owners.Nobody = false
is_free (owners.Thread s) = false
is_free (owners.Claimed s) = false
is_free owners.Free = true

abbrev pub is_default : State → Bool
is_default states.Default = true
is_default states.Queued = false
is_default states.Merged = false

abbrev pub is_queued : State → Bool
is_queued states.Default = false
is_queued states.Queued = true
is_queued states.Merged = false

abbrev pub is_merged : State → Bool
is_merged states.Default = false
is_merged states.Queued = false
is_merged states.Merged = true

abbrev pub is_zero : ℤ → Bool
is_zero (pos n) = n == 0
is_zero (negsuc n) = false

abbrev pub is_positive : ℤ → Bool
is_positive (pos n) = nat_lt 0 n
is_positive (negsuc n) = false

-- the thread counts on the cell's local word: it owns the cell, and is active
abbrev pub is_mine : ℕ → Stage → Cell → Bool
is_mine t stage x = is_owned_by t x.owner && is_active stage

-- the owner's count may rise
abbrev pub counts_up_locally : ℕ → ℕ → Stage → Cell → Bool
counts_up_locally limit t stage x = is_mine t stage x && nat_lt x.local limit

-- a mortal cell that the thread counts on the shared word
abbrev pub is_others : ℕ → Stage → ℕ → Cell → Bool
is_others t stage c x = not (is_immortal c) && not (is_mine t stage x)

-- the owner lets its object go: at count 0, for a popped entry, or another in its place after it left
abbrev pub untied_ok : ℕ → Hand → Cell → Bool
untied_ok t hands.Free x = is_owned_by t x.owner && is_queued x.state
untied_ok t (hands.Busy phases.Shut c) x = not (is_nobody x.owner)
untied_ok t (hands.Busy phase c) x = true

-- a reference that was asked for goes once the owner word is nobody's; one of a merged object always
abbrev pub ends_ok : Hand → Cell → Bool
ends_ok hands.Free x = false
ends_ok (hands.Busy phases.Held c) x = true
ends_ok (hands.Busy phase c) x = is_nobody x.owner

abbrev pub last_ok : ℕ → Row → LastDropped → ℕ → Cell → Bool
last_ok t row (lasts.Dropped drop) c x = is_others t row.stage c x
last_ok t row (lasts.Popped d) c x = is_merged x.state
last_ok t row lasts.Hand c x = ends_ok row.hand x

abbrev pub is_keep : Change → Bool
is_keep changes.Keep = true
is_keep (changes.Put j) = false
is_keep (changes.Take i j) = false
is_keep (changes.Swap i j) = false

-- what the one cell must be
abbrev pub cell_ok : ℕ → ℕ → Row → Step → ℕ → Cell → Bool
cell_ok limit t row (Claim d) c x = nat_le FIRST_MORTAL c && is_free x.owner
cell_ok limit t row (LocalUp source k) c x = is_immortal c || counts_up_locally limit t row.stage x
cell_ok limit t row (LocalDown drop) c x = is_immortal c || is_mine t row.stage x
cell_ok limit t row (Untie d) c x = untied_ok t row.hand x
cell_ok limit t row (SharedUp source k) c x = not (is_immortal c) && not (counts_up_locally limit t row.stage x)
cell_ok limit t row (SharedDown drop) c x = is_others t row.stage c x && is_default x.state && is_positive x.count
cell_ok limit t row (Ask drop) c x = is_others t row.stage c x
cell_ok limit t row (LastDown last) c x = not (is_default x.state) && last_ok t row last c x
cell_ok limit t row (Lock k) c x = x.mutex == 0
cell_ok limit t row (Unlock change) c x = is_keep change || is_container x.kind
cell_ok limit t row (Offer d) c x = is_owned_by t x.owner
cell_ok limit t row _ c x = true

-- the cell that is meant is one of the heap, and is as it must be
abbrev pub target_ok : Heap → ℕ → Row → Step → Option ℕ → Bool
target_ok h t row s None = needs_no_cell s
target_ok h t row s (Some c) = nat_lt c (length h.cells) && cell_ok h.limit t row s c (cell_at h c)

-- what the editions differ in: in the first nothing is handed over and nothing opened again; in the second nobody
-- unties in place of an owner that left, and no thread unties or adds once it has left
abbrev pub edition_ok : Edition → Row → Step → Bool
edition_ok editions.One row (Offer c) = false
edition_ok editions.One row (Reopen k) = false
edition_ok editions.One row _ = true
edition_ok editions.Two row (Untie c) = is_active row.stage && not (is_shut_hand row.hand)
edition_ok editions.Two row (MergeAdd c) = is_active row.stage
edition_ok editions.Two row _ = true

-- of the first so many cells each that the thread owns is on its worklist
abbrev pub owned_are_marked : ℕ → List Cell → List Bool → ℕ → Bool
owned_are_marked t cells worklist zero = true
owned_are_marked t cells worklist (suc n) = owned_are_marked t cells worklist n &&
    (not (is_owned_by t (slice_index_or cells n no_cell).owner) || is_marked worklist n)

-- what a thread must have done with its objects before it closes: in the first edition its worklist is empty, in the
-- second each object that it owns is on its worklist
abbrev pub may_leave : Edition → ℕ → List Cell → List Bool → Bool
may_leave editions.One t cells worklist = is_unmarked worklist
may_leave editions.Two t cells worklist = owned_are_marked t cells worklist (length cells)

-- a thread that is told something is registered, and has the word; a thread that closes has seen to its objects
abbrev pub others_ok : Heap → ℕ → Step → Bool
others_ok h t (Nudge u k) = is_registered h u && nat_lt k (words_for (length h.cells))
others_ok h t (Close k) = may_leave h.edition t h.cells (worklist_at h t)
others_ok h t _ = true

abbrev pub target_at : Heap → ℕ → Step → Option ℕ
target_at h t s = target (row_at h t) (frame_at h t) (worklist_at h t) (entries_at h) s

abbrev pub own_ok_at : Heap → ℕ → Step → Bool
own_ok_at h t s = own_ok (words_for (length h.cells)) (row_at h t) (frame_at h t) (popped_at h t) (worklist_at h t)
    (entries_at h) s

-- a thread's step
abbrev pub thread_may : Heap → ℕ → Step → Bool
thread_may h t s =
    is_registered h t && not (is_gathered h t)
    && stage_ok (row_at h t).stage s && lock_ok (row_at h t).locked s && hand_ok (row_at h t).hand s
    && own_ok_at h t s && others_ok h t s && edition_ok h.edition (row_at h t) s
    && target_ok h t (row_at h t) s (target_at h t s)

-- the lowest number that isn't in use: the first that is gathered, or the next after all
abbrev pub first_gathered : List Bool → ℕ
first_gathered [] = 0
first_gathered (true ∷ gathered) = 0
first_gathered (false ∷ gathered) = suc (first_gathered gathered)

-- which number is registered next, of at most 64: in the first edition one more than there are, in the second the
-- lowest that isn't in use, 65,536 times at most
abbrev pub number_ok : Edition → Heap → ℕ → Bool
number_ok editions.One h u = u == length h.rows
number_ok editions.Two h u = nat_lt 0 u && (u == first_gathered h.gathered) && nat_lt h.registrations MOST_REGISTRATIONS

-- the root's steps: a number is registered; a thread that left and holds nothing is gathered
abbrev pub root_may : Heap → Step → Bool
root_may h (Register u) = number_ok h.edition h u && nat_le u MOST_THREADS
root_may h (Gather u) =
    is_registered h u && not (is_gathered h u)
    && is_left (row_at h u).stage && is_free_hand (row_at h u).hand && is_blank (popped_at h u) && is_unmarked
    (worklist_at h u)
root_may h _ = false

abbrev pub enabled : Heap → Event → Bool
enabled h e = if e.thread == 0 then root_may h e.step else thread_may h e.thread e.step

-- ---- effects

abbrev pub cell_after : ℕ → Step → ℕ → Cell → Cell
cell_after t (Claim d) c x = record x { owner = owners.Claimed t }
cell_after t (InitLocal d) c x = record x { local = 1 }
cell_after t (InitShared d) c x = record x { count = pos 0; state = states.Default }
cell_after t (Birth d kind k) c x = record x { owner = owners.Thread t; bearer = t; kind = kind }
cell_after t (LocalUp source k) c x = if is_immortal c then x else record x { local = x.local + 1 }
cell_after t (LocalDown drop) c x = if is_immortal c then x else record x { local = x.local - 1 }
cell_after t (SeeZero d) c x = x
cell_after t (Free d) c x = record x { owner = owners.Free }
cell_after t (Untie d) c x = record x { owner = owners.Nobody }
cell_after t (MergeZero d) c x = record x { state = states.Merged }
cell_after t (SharedUp source k) c x = record x { count = x.count +ℤ pos 1 }
cell_after t (SharedDown drop) c x = record x { count = x.count -ℤ pos 1 }
cell_after t (Ask drop) c x = if is_default x.state then record x { state = states.Queued } else x
cell_after t (LastDown last) c x = record x { count = x.count -ℤ pos 1 }
cell_after t (Enqueue d) c x = x
cell_after t (Drain k) c x = x
cell_after t (MergeAdd d) c x = record x { count = x.count +ℤ pos x.local; state = states.Merged }
cell_after t (Close k) c x = x
cell_after t (Nudge u k) c x = x
cell_after t Wake c x = x
cell_after t (Lock k) c x = record x { mutex = t }
cell_after t (Unlock change) c x = record x { mutex = 0 }
cell_after t (Register u) c x = x
cell_after t (Gather u) c x = x
cell_after t (Offer d) c x = record x { state = states.Queued }
cell_after t (Reopen k) c x = x

-- the shared word is in default at count 0: no count of others is left, and nobody asked
abbrev pub is_untouched : Cell → Bool
is_untouched x = is_zero x.count && is_default x.state

-- after the owner let its object go
abbrev pub untied_hand : ℕ → Hand → Hand
untied_hand c hands.Free = hands.Busy phases.Popping c
untied_hand c (hands.Busy phases.Shut d) = hands.Busy phases.Taking c
untied_hand c (hands.Busy phases.Offered d) = hands.Busy phases.Yielding c
untied_hand c (hands.Busy phase d) = hands.Busy phases.Untied c

-- after the counts were added: a reference of the thread's own stays in its hand
abbrev pub added_hand : ℕ → Hand → Hand
added_hand c hands.Free = hands.Free
added_hand c (hands.Busy phases.Taking d) = hands.Busy phases.Held c
added_hand c (hands.Busy phase d) = hands.Free

-- what the thread carries afterwards; shut says that the queue word which the step meant was closed
abbrev pub hand_after : Step → ℕ → Cell → Bool → Hand → Hand
hand_after (Claim d) c x shut hand = hands.Busy phases.Claimed c
hand_after (InitLocal d) c x shut hand = hands.Busy phases.Counted c
hand_after (InitShared d) c x shut hand = hands.Busy phases.Ready c
hand_after (Birth d kind k) c x shut hand = hands.Free
hand_after (LocalDown drop) c x shut hand = if not (is_immortal c) && (x.local == 1) then hands.Busy phases.Zero
    c else hand
hand_after (SeeZero d) c x shut hand = if is_untouched x then hands.Free else hands.Busy phases.Over c
hand_after (Untie d) c x shut hand = untied_hand c hand
hand_after (MergeZero d) c x shut hand = hands.Free
hand_after (Ask drop) c x shut hand = if is_default x.state then hands.Busy phases.Asked c else hand
hand_after (LastDown lasts.Hand) c x shut hand = hands.Free
hand_after (Enqueue d) c x shut hand = if shut then hands.Busy phases.Shut c else hands.Free
hand_after (MergeAdd d) c x shut hand = added_hand c hand
hand_after (Offer d) c x shut hand = hands.Busy phases.Offered c
hand_after _ c x shut hand = hand

abbrev pub locked_after : Step → Option ℕ → Option ℕ
locked_after (Lock k) locked = Some k
locked_after (Unlock change) locked = None
locked_after _ locked = locked

abbrev pub allocs_after : Step → ℕ → ℕ
allocs_after (Birth d kind k) n = n + 1
allocs_after _ n = n

abbrev pub frees_after : Step → ℕ → ℕ
frees_after (Free d) n = n + 1
frees_after _ n = n

abbrev pub row_after : Step → ℕ → Cell → Bool → Row → Row
row_after s c x shut row = record row {
  hand = hand_after s c x shut row.hand;
  locked = locked_after s row.locked;
  allocs = allocs_after s row.allocs;
  frees = frees_after s row.frees;
}

-- ---- the parts of an effect: what a step fills, lets go, changes, settles and marks

-- the place that the step fills with its cell
abbrev pub filled_place : Step → Option ℕ
filled_place (Birth c kind k) = Some k
filled_place (LocalUp source k) = Some k
filled_place (SharedUp source k) = Some k
filled_place _ = None

-- the reference that goes from a place or from entries
abbrev pub gone : Step → Cell → Option Dropped
gone (LocalDown drop) x = Some drop
gone (SharedDown drop) x = Some drop
gone (Ask drop) x = if is_default x.state then Some drop else None
gone (LastDown (lasts.Dropped drop)) x = Some drop
gone _ x = None

-- the cell whose object is born
abbrev pub born_cell : Step → Option ℕ
born_cell (Birth c kind k) = Some c
born_cell _ = None

-- the popped entry that is counted down, and so dealt with
abbrev pub settled_cell : Step → Option ℕ
settled_cell (LastDown (lasts.Popped c)) = Some c
settled_cell _ = None

-- the cell goes into a merge queue
abbrev pub is_enqueue : Step → Bool
is_enqueue (Enqueue c) = true
is_enqueue _ = false

-- a block is given back
abbrev pub is_free_step : Step → Bool
is_free_step (Free c) = true
is_free_step _ = false

-- the object is dead with this step, so its block is taken
abbrev pub takes_block : Step → Cell → Bool
takes_block (SeeZero d) x = is_untouched x
takes_block (MergeZero d) x = is_zero x.count
takes_block (LastDown last) x = is_merged x.state && is_zero (x.count -ℤ pos 1)
takes_block (MergeAdd d) x = is_zero (x.count +ℤ pos x.local)
takes_block _ x = false

-- the locked object is changed
abbrev pub is_unlock : Step → Bool
is_unlock (Unlock change) = true
is_unlock _ = false

-- ---- what each part does

-- a frame: a place is filled, or a reference goes
abbrev pub frame_without : Option Dropped → List (Option ℕ) → List (Option ℕ)
frame_without None frame = frame
frame_without (Some (dropped.Frame k)) frame = vacated frame k
frame_without (Some (dropped.Work c)) frame = frame

abbrev pub frame_with : Option ℕ → Option Dropped → ℕ → List (Option ℕ) → List (Option ℕ)
frame_with (Some k) out c frame = filled frame k c
frame_with None out c frame = frame_without out frame

-- the entries of all cells: an object is born without any, or a reference goes
abbrev pub entries_without : Option Dropped → List (List ℕ) → List (List ℕ)
entries_without None lists = lists
entries_without (Some (dropped.Frame k)) lists = lists
entries_without (Some (dropped.Work c)) lists = slice_set lists c (front_of (slice_index_or lists c []))

abbrev pub entries_with : Option ℕ → Option Dropped → List (List ℕ) → List (List ℕ)
entries_with (Some c) out lists = slice_set lists c []
entries_with None out lists = entries_without out lists

abbrev pub without_settled : Option ℕ → List ℕ → List ℕ
without_settled None popped = popped
without_settled (Some c) popped = without_bit popped c

-- a worklist: a block goes, or is taken
abbrev pub worklist_with : Bool → Bool → ℕ → List Bool → List Bool
worklist_with frees takes c worklist =
    if frees then slice_set worklist c false else (if takes then slice_set worklist c true else worklist)

-- the merge queues: the cell's bit is set in a thread's, unless that word is closed
abbrev pub queues_with : Bool → Bool → ℕ → ℕ → List (List ℕ) → List (List ℕ)
queues_with enqueues shut t c queues =
    if enqueues then (if shut then queues else slice_set queues t (with_bit (slice_index_or queues t []) c)) else queues

-- the frame after an unlock, and the locked object's entries: one moves in, one moves out, or two are exchanged
abbrev pub frame_changed : Change → List ℕ → List (Option ℕ) → List (Option ℕ)
frame_changed changes.Keep entries frame = frame
frame_changed (changes.Put j) entries frame = vacated frame j
frame_changed (changes.Take i j) entries frame = filled frame j (slice_index_or entries i 0)
frame_changed (changes.Swap i j) entries frame = filled frame j (slice_index_or entries i 0)

abbrev pub entries_changed : Change → List (Option ℕ) → List ℕ → List ℕ
entries_changed changes.Keep frame entries = entries
entries_changed (changes.Put j) frame entries = entries ++ number_in (place_at frame j) ∷ []
entries_changed (changes.Take i j) frame entries = remove entries i
entries_changed (changes.Swap i j) frame entries = slice_set entries i (number_in (place_at frame j))

-- ---- what a step does to each list of the world, by these parts

abbrev pub frame_after : Step → ℕ → Cell → List ℕ → List (Option ℕ) → List (Option ℕ)
frame_after (Unlock change) c x entries frame = frame_changed change entries frame
frame_after s c x entries frame = frame_with (filled_place s) (gone s x) c frame

abbrev pub entries_after : Step → ℕ → Cell → List (Option ℕ) → List (List ℕ) → List (List ℕ)
entries_after (Unlock change) c x frame lists =
    slice_set lists c (entries_changed change frame (slice_index_or lists c []))
entries_after s c x frame lists = entries_with (born_cell s) (gone s x) lists

abbrev pub popped_after : Step → List ℕ → List ℕ
popped_after s popped = without_settled (settled_cell s) popped

abbrev pub worklist_after : Step → ℕ → Cell → List Bool → List Bool
worklist_after s c x worklist = worklist_with (is_free_step s) (takes_block s x) c worklist

-- the queue word of the cell's bearer is closed
abbrev pub is_shut : Heap → ℕ → Bool
is_shut h c = is_closed (row_at h (cell_at h c).bearer).stage (c / 32)

abbrev pub queues_after : Heap → Step → ℕ → List (List ℕ)
queues_after h s c = queues_with (is_enqueue s) (is_shut h c) (cell_at h c).bearer c h.queues

-- what a thread's step does, where its cell is c
abbrev pub stepped : Heap → ℕ → Step → ℕ → Heap
stepped h t s c = record h {
  cells = slice_set h.cells c (cell_after t s c (cell_at h c));
  entries = entries_after s c (cell_at h c) (frame_at h t) h.entries;
  rows = slice_set h.rows t (row_after s c (cell_at h c) (is_shut h c) (row_at h t));
  frames = slice_set h.frames t (frame_after s c (cell_at h c) (entries_at h c) (frame_at h t));
  popped = slice_set h.popped t (popped_after s (popped_at h t));
  worklists = slice_set h.worklists t (worklist_after s c (cell_at h c) (worklist_at h t));
  queues = queues_after h s c;
}

-- ---- steps on words that are no cell's

-- the stage after one more word is closed
abbrev pub closed_more : ℕ → ℕ → Stage
closed_more words k = if k + 1 == words then stages.Left else stages.Closing (k + 1)

-- the stage after one more word is opened again
abbrev pub opened_more : ℕ → ℕ → Stage
opened_more words k = if k + 1 == words then stages.Active else stages.Opening (k + 1)

abbrev pub stage_after : ℕ → Step → Stage → Stage
stage_after words (Close k) stage = closed_more words k
stage_after words (Reopen k) stage = opened_more words k
stage_after words _ stage = stage

-- the queue word whose bits are taken
abbrev pub drained_word : Step → Option ℕ
drained_word (Drain k) = Some k
drained_word (Close k) = Some k
drained_word _ = None

abbrev pub with_drained : Option ℕ → List ℕ → List ℕ → List ℕ
with_drained None queue popped = popped
with_drained (Some k) queue popped = slice_set popped k (bit_or (word_at popped k) (word_at queue k))

abbrev pub without_drained : Option ℕ → List ℕ → List ℕ
without_drained None queue = queue
without_drained (Some k) queue = slice_set queue k 0

-- the notify words: one more bit for 32 queue words, or all taken
abbrev pub notify_words_after : ℕ → Step → List ℕ → List ℕ
notify_words_after t (Nudge u k) notify_words = slice_set notify_words u
    (bit_or (word_at notify_words u) (2 ^ (k / 32)))
notify_words_after t Wake notify_words = slice_set notify_words t 0
notify_words_after t _ notify_words = notify_words

-- what a thread's step does that means no cell
abbrev pub kept_cells : Heap → ℕ → Step → Heap
kept_cells h t s = record h {
  rows = slice_set h.rows t
      (record (row_at h t) { stage = stage_after (words_for (length h.cells)) s (row_at h t).stage });
  popped = slice_set h.popped t (with_drained (drained_word s) (queue_at h t) (popped_at h t));
  queues = slice_set h.queues t (without_drained (drained_word s) (queue_at h t));
  notify_words = notify_words_after t s h.notify_words;
}

-- ---- the root's steps

-- one more thread
abbrev pub registered : Heap → Heap
registered h = record h {
  rows = h.rows ++ new_row ∷ [];
  frames = h.frames ++ [] ∷ [];
  popped = h.popped ++ replicate (words_for (length h.cells)) 0 ∷ [];
  worklists = h.worklists ++ replicate (length h.cells) false ∷ [];
  queues = h.queues ++ replicate (words_for (length h.cells)) 0 ∷ [];
  notify_words = h.notify_words ++ 0 ∷ [];
  gathered = h.gathered ++ false ∷ [];
  registrations = h.registrations + 1;
}

-- a number that was gathered is used again, and its ledger joins the past
abbrev pub registered_again : Heap → ℕ → Heap
registered_again h u = record h {
  rows = slice_set h.rows u again_row;
  frames = slice_set h.frames u [];
  popped = slice_set h.popped u (replicate (words_for (length h.cells)) 0);
  worklists = slice_set h.worklists u (replicate (length h.cells) false);
  queues = slice_set h.queues u (replicate (words_for (length h.cells)) 0);
  gathered = slice_set h.gathered u false;
  registrations = h.registrations + 1;
  past_allocs = h.past_allocs + (row_at h u).allocs;
  past_frees = h.past_frees + (row_at h u).frees;
}

-- one thread is gathered
abbrev pub gathered_in : Heap → ℕ → Heap
gathered_in h u = record h { gathered = slice_set h.gathered u true }

abbrev pub root_after : Heap → Step → Heap
root_after h (Register u) = if nat_lt u (length h.rows) then registered_again h u else registered h
root_after h (Gather u) = gathered_in h u
root_after h _ = h

-- ---- the world after an event that is enabled

abbrev pub after_target : Heap → ℕ → Step → Option ℕ → Heap
after_target h t s None = kept_cells h t s
after_target h t s (Some c) = stepped h t s c

abbrev pub after : Heap → Event → Heap
after h e = if e.thread == 0 then root_after h e.step else after_target h e.thread e.step (target_at h e.thread e.step)
