-- What every world that a run reaches keeps: sums over the places that name a cell, each read off that cell's words,
-- and what each hand, cell, worklist and thread says besides.
--
-- The picture: a cell has at most one reference on its way through a merge queue; the owner word goes from a thread to
-- nobody once, by one hand; and an object without holders shows in exactly one hand or on one worklist.
use Rattle.std.specs.Prelude.{◌≡◌, ◌≢◌, ℕ, ◌+◌, ◌*◌, ◌/◌, ◌==◌, ◌<◌, ◌≤◌, ◌&&◌, not, Bool, true, false, if◌then◌else◌}
use Rattle.std.specs.Prelude.{ℤ, pos, ◌≤ℤ◌, List, [], length, Option, Some, None, slice_index_or, sum_by, ◌⊎◌}
use Rattle.brc_words.specs.declared.limits.TheConstants.{FIRST_MORTAL, GLOBALS, MOST_ENTRIES, MOST_BIRTHS}
use Rattle.brc_words.specs.declared.limits.TheConstants.{IMMORTAL_LOCAL, MOST_PLACES, MOST_THREADS, MOST_REGISTRATIONS}
use Rattle.brc_words.specs.declared.owner.Owner.{Owner}
use Rattle.brc_words.specs.declared.owner.Owner.TheVariants as owners
use Rattle.brc_words.specs.declared.state.State.{State}
use Rattle.brc_words.specs.declared.state.State.TheVariants as states
use Rattle.brc_words.specs.Kinds.{is_container}
use Rattle.law.specs.world.Phases.{is_gripping, is_active_phase, is_offering}
use Rattle.law.specs.declared.world.cell.Cell.{Cell}
use Rattle.law.specs.declared.world.edition.Edition.{Edition}
use Rattle.law.specs.declared.world.edition.Edition.TheVariants as editions
use Rattle.law.specs.declared.world.row.Row.{Row}
use Rattle.law.specs.declared.world.row.Hand.{Hand}
use Rattle.law.specs.declared.world.row.Hand.TheVariants as hands
use Rattle.law.specs.declared.world.row.Phase.{Phase}
use Rattle.law.specs.declared.world.row.Phase.TheVariants as phases
use Rattle.law.specs.declared.world.row.Stage.{Stage}
use Rattle.law.specs.declared.world.row.Stage.TheVariants as stages
use Rattle.law.specs.world.Lists.{one, times, entry_times, bit_of, is_marked, place_at}
use Rattle.law.specs.world.Heap.{Heap, cell_at, entries_at, row_at, frame_at, popped_at, worklist_at, queue_at}
use Rattle.law.specs.world.Heap.{immortal_kind, is_gathered, words_for, AreOptions}
use Rattle.law.specs.world.Steps.{is_active, is_default, is_queued, is_merged, is_closed, is_zero}
use Rattle.law.specs.world.Holding.{lives, total_of, carries, live_count}

-- ---- sums over the places that name a cell

-- the frame places, popped bits, queue bits and hands that hold the cell, and its places among entries
abbrev pub in_frames : Heap → ℕ → ℕ
in_frames h q = sum_by (times q) h.frames

abbrev pub in_popped : Heap → ℕ → ℕ
in_popped h q = sum_by (λ words. bit_of words q) h.popped

abbrev pub in_queues : Heap → ℕ → ℕ
in_queues h q = sum_by (λ words. bit_of words q) h.queues

abbrev pub in_hands : Heap → ℕ → ℕ
in_hands h q = sum_by (λ row. one (carries q row.hand)) h.rows

abbrev pub in_entries : Heap → ℕ → ℕ
in_entries h q = sum_by (entry_times q) h.entries

-- all holders of a cell
abbrev pub held : Heap → ℕ → ℕ
held h q = in_frames h q + in_popped h q + in_hands h q + in_queues h q + in_entries h q

-- those that stand on the way through a merge queue
abbrev pub asks : Heap → ℕ → ℕ
asks h q = in_popped h q + in_hands h q + in_queues h q

abbrev pub grips : ℕ → Hand → Bool
grips q hands.Free = false
grips q (hands.Busy phase c) = is_gripping phase && (c == q)

-- hands and worklists that grip the cell
abbrev pub gripped : Heap → ℕ → ℕ
gripped h q = sum_by (λ marks. one (is_marked marks q)) h.worklists + sum_by (λ row. one (grips q row.hand)) h.rows

abbrev pub offering : ℕ → Hand → Bool
offering q hands.Free = false
offering q (hands.Busy phase c) = is_offering phase && (c == q)

-- hands that are about to hand the cell over
abbrev pub offered : Heap → ℕ → ℕ
offered h q = sum_by (λ row. one (offering q row.hand)) h.rows

-- ---- the same, read off the cell

-- the references that a cell's words count
abbrev pub counted_in : Cell → ℤ
counted_in x = if lives x.owner then total_of x else pos 0

abbrev pub grips_by_owner : Owner → State → ℕ → ℤ → ℕ
grips_by_owner owners.Free state local count = 0
grips_by_owner (owners.Claimed t) state local count = 1
grips_by_owner (owners.Thread t) state local count = one (local == 0)
grips_by_owner owners.Nobody state local count = if is_merged state then one (is_zero count) else 1

-- how many grip the cell: who bears it, who merges it, who buries it
abbrev pub grips_of : Cell → ℕ
grips_of x = grips_by_owner x.owner x.state x.local x.count

-- at most one reference is on its way, and only of an object that was asked for
abbrev pub asks_most : Cell → ℕ
asks_most x = one (not (is_default x.state))

-- an object that was asked for and still has its owner has one on its way, or its owner is about to hand it over
abbrev pub is_threads : Owner → Bool
is_threads owners.Nobody = false
is_threads (owners.Thread t) = true
is_threads (owners.Claimed t) = false
is_threads owners.Free = false

abbrev pub asks_least : Cell → ℕ
asks_least x = one (is_queued x.state && is_threads x.owner)

-- ---- what hands, cells, worklists and threads say besides

pub record Births (t : ℕ) (row : Row) (x : Cell) : Type 0 where
  pub claimed : x.owner ≡ owners.Claimed t
  pub more : row.allocs < MOST_BIRTHS

pub record Untied (t : ℕ) (x : Cell) : Type 0 where
  pub owner : x.owner ≡ owners.Nobody
  pub local : x.local ≡ 0
  pub not_merged : is_merged x.state ≡ false
  pub bearer : x.bearer ≡ t

pub record Offered (t : ℕ) (x : Cell) : Type 0 where
  pub owner : x.owner ≡ owners.Thread t
  pub local : 1 ≤ x.local
  pub state : x.state ≡ states.Queued

pub record Yielding (t : ℕ) (x : Cell) : Type 0 where
  pub owner : x.owner ≡ owners.Nobody
  pub state : x.state ≡ states.Queued
  pub bearer : x.bearer ≡ t

-- what a hand that was shut out says: in the first edition the queue word stays closed, in the second the owner has
-- handed the object over
abbrev pub ShutFits : Edition → Cell → Stage → ℕ → Type 0
ShutFits editions.One x bearer_stage d = is_closed bearer_stage (d / 32) ≡ true
ShutFits editions.Two x bearer_stage d = x.owner ≡ owners.Nobody

-- what a hand in this phase says of its cell x, whose number is d; the bearer is the thread that bore x
abbrev pub PhaseFits : Edition → ℕ → Row → List ℕ → Cell → Stage → ℕ → Phase → Type 0
PhaseFits e t row popped x bearer_stage d phases.Claimed = Births t row x
PhaseFits e t row popped x bearer_stage d phases.Counted = Births t row x × (x.local ≡ 1)
PhaseFits e t row popped x bearer_stage d phases.Ready = Births t row x × (x.local ≡ 1) × (x.state ≡ states.Default)
PhaseFits e t row popped x bearer_stage d phases.Zero = x.owner ≡ owners.Thread t
PhaseFits e t row popped x bearer_stage d phases.Over = x.owner ≡ owners.Thread t
PhaseFits e t row popped x bearer_stage d phases.Untied = Untied t x
PhaseFits e t row popped x bearer_stage d phases.Asked = Unit {0}
PhaseFits e t row popped x bearer_stage d phases.Shut = ShutFits e x bearer_stage d
PhaseFits e t row popped x bearer_stage d phases.Taking = x.owner ≡ owners.Nobody
PhaseFits e t row popped x bearer_stage d phases.Held = x.state ≡ states.Merged
PhaseFits e t row popped x bearer_stage d phases.Popping = (x.owner ≡ owners.Nobody) × (bit_of popped d ≡ 1)
PhaseFits e t row popped x bearer_stage d phases.Offered = Offered t x
PhaseFits e t row popped x bearer_stage d phases.Yielding = Yielding t x

-- a thread of the second edition that isn't active has seen to its objects
abbrev pub rests : Edition → Stage → Bool
rests editions.One stage = false
rests editions.Two stage = not (is_active stage)

abbrev pub rests_at : Heap → ℕ → Bool
rests_at h t = rests h.edition (row_at h t).stage

-- what a mortal cell says of itself
pub record CellFits (threads limit : ℕ) (resting : ℕ → Bool) (x : Cell) (entries : List ℕ) : Type 0 where
  pub default : x.state ≡ states.Default → pos 0 ≤ℤ x.count
  pub owned_unmerged : (t : ℕ) → x.owner ≡ owners.Thread t → is_merged x.state ≡ false
  pub owned_by_bearer : (t : ℕ) → x.owner ≡ owners.Thread t → x.bearer ≡ t
  pub rested : (t : ℕ) → x.owner ≡ owners.Thread t → resting t ≡ true → x.local ≡ 0
  pub dead_empty : lives x.owner ≡ false → entries ≡ []
  pub dead_count : lives x.owner ≡ false → x.count ≡ pos 0
  pub born : lives x.owner ≡ true → (0 < x.bearer) × (x.bearer < threads)
  pub limited : lives x.owner ≡ true → x.local ≤ limit
  pub plain : is_container x.kind ≡ false → entries ≡ []
  pub few : length entries ≤ MOST_ENTRIES

-- an immortal's words are never written, its mutex aside; only the globals have entries
pub record ImmortalFits (c : ℕ) (x : Cell) (entries : List ℕ) : Type 0 where
  pub owner : x.owner ≡ owners.Nobody
  pub local : x.local ≡ IMMORTAL_LOCAL
  pub count : x.count ≡ pos 0
  pub state : x.state ≡ states.Default
  pub kind : x.kind ≡ immortal_kind c
  pub empty : c ≢ GLOBALS → entries ≡ []
  pub few : length entries ≤ MOST_ENTRIES

-- an object on the thread's worklist: nothing counts it, and it is merged or the thread's own
pub record WorklistFits (t : ℕ) (q : ℕ) (x : Cell) : Type 0 where
  pub mortal : FIRST_MORTAL ≤ q
  pub lives : lives x.owner ≡ true
  pub total : total_of x ≡ pos 0
  pub whose : (x.state ≡ states.Merged) ⊎ (x.owner ≡ owners.Thread t)

abbrev pub is_active_hand : Hand → Bool
is_active_hand hands.Free = false
is_active_hand (hands.Busy phase c) = is_active_phase phase

-- what one thread's own part says, beside its queue words and whether it is gathered
pub record ThreadFits (edition : Edition) (words : ℕ) (row : Row) (frame : List (Option ℕ)) (popped : List ℕ)
    (worklist : List Bool) (queue : List ℕ) (gathered : Bool) : Type 0 where
  pub inactive_hand : is_active row.stage ≡ false → is_active_hand row.hand ≡ false
  pub inactive_frame : is_active row.stage ≡ false → (k : ℕ) → place_at frame k ≡ None
  pub inactive_lock : is_active row.stage ≡ false → row.locked ≡ None
  pub closing : (n : ℕ) → row.stage ≡ stages.Closing n → (0 < n) × (n < words) × (row.hand ≡ hands.Free)
  pub closing_work : (n q : ℕ) → edition ≡ editions.One → row.stage ≡ stages.Closing n → is_marked worklist q ≡ false
  pub opening : (n : ℕ) → row.stage ≡ stages.Opening n → (n < words) × (row.hand ≡ hands.Free)
  pub opening_rest : (n q : ℕ) → row.stage ≡ stages.Opening n → (is_marked worklist q ≡ false) × (bit_of popped q ≡ 0)
  pub closed : (k : ℕ) → is_closed row.stage k ≡ true → slice_index_or queue k 0 ≡ 0
  pub gathered_left : gathered ≡ true → row.stage ≡ stages.Left
  pub gathered_hand : gathered ≡ true → row.hand ≡ hands.Free
  pub gathered_work : gathered ≡ true → (q : ℕ) → (is_marked worklist q ≡ false) × (bit_of popped q ≡ 0)
  pub locked_hand : (k : ℕ) → row.locked ≡ Some k → row.hand ≡ hands.Free
  pub births : row.allocs ≤ MOST_BIRTHS
  pub places : length frame ≤ MOST_PLACES

-- how long the lists are
pub record IsShaped (h : Heap) : Type 0 where
  pub options : AreOptions (length h.cells) h.limit
  pub entries : length h.entries ≡ length h.cells
  pub root : 0 < length h.rows
  pub threads : length h.rows ≤ MOST_THREADS + 1
  pub frames : length h.frames ≡ length h.rows
  pub popped : length h.popped ≡ length h.rows
  pub worklists : length h.worklists ≡ length h.rows
  pub queues : length h.queues ≡ length h.rows
  pub notify_words : length h.notify_words ≡ length h.rows
  pub gathered : length h.gathered ≡ length h.rows
  pub marks : (t : ℕ) → 0 < t → t < length h.rows → length (worklist_at h t) ≡ length h.cells
  pub popped_words : (t : ℕ) → 0 < t → t < length h.rows → length (popped_at h t) ≡ words_for (length h.cells)
  pub queue_words : (t : ℕ) → 0 < t → t < length h.rows → length (queue_at h t) ≡ words_for (length h.cells)

-- what a hand says of its cell, which is mortal
pub record HandFits (h : Heap) (t : ℕ) (phase : Phase) (d : ℕ) : Type 0 where
  pub mortal : FIRST_MORTAL ≤ d
  pub fits : PhaseFits h.edition t (row_at h t) (popped_at h t) (cell_at h d)
      (row_at h (cell_at h d).bearer).stage d phase

-- a lock is told by the thread's place and by the cell's mutex alike
pub record Locks (h : Heap) (t k q : ℕ) : Type 0 where
  pub thread : 0 < t
  pub place : (row_at h t).locked ≡ Some k
  pub names : place_at (frame_at h t) k ≡ Some q

-- All of it. Without the clause on the mutex, containers and limits the theorem on references would stand; a running
-- heap needs them.
pub record IsSound (h : Heap) : Type 0 where
  pub shaped : IsShaped h
  pub counted : (q : ℕ) → FIRST_MORTAL ≤ q → counted_in (cell_at h q) ≡ pos (held h q)
  pub gripped : (q : ℕ) → FIRST_MORTAL ≤ q → gripped h q ≡ grips_of (cell_at h q)
  pub most : (q : ℕ) → FIRST_MORTAL ≤ q → asks h q ≤ asks_most (cell_at h q)
  pub least : (q : ℕ) → FIRST_MORTAL ≤ q → asks_least (cell_at h q) ≤ asks h q + offered h q
  pub hands : (t d : ℕ) (phase : Phase) → (row_at h t).hand ≡ hands.Busy phase d → HandFits h t phase d
  pub cells : (q : ℕ) → FIRST_MORTAL ≤ q → CellFits (length h.rows) h.limit (rests_at h) (cell_at h q) (entries_at h q)
  pub immortals : (q : ℕ) → q < FIRST_MORTAL → ImmortalFits q (cell_at h q) (entries_at h q)
  pub worklists : (t q : ℕ) → is_marked (worklist_at h t) q ≡ true → WorklistFits t q (cell_at h q)
  pub threads : (t : ℕ) → ThreadFits h.edition (words_for (length h.cells)) (row_at h t) (frame_at h t) (popped_at h t)
      (worklist_at h t) (queue_at h t) (is_gathered h t)
  pub bits : (t q : ℕ) → 0 < bit_of (queue_at h t) q + bit_of (popped_at h t) q
      → (FIRST_MORTAL ≤ q) × ((cell_at h q).bearer ≡ t)
  pub locks : (t k : ℕ) → (row_at h t).locked ≡ Some k → (q : ℕ) × Locks h t k q × ((cell_at h q).mutex ≡ t)
  pub mutexes : (t q : ℕ) → 0 < t → (cell_at h q).mutex ≡ t → (k : ℕ) × Locks h t k q
  pub ledger : sum_by (λ row. row.allocs) h.rows + h.past_allocs ≡ sum_by (λ row. row.frees) h.rows + h.past_frees
      + live_count h
  pub past : (h.past_allocs ≤ h.registrations * MOST_BIRTHS) × (h.registrations ≤ MOST_REGISTRATIONS)
  pub first : h.edition ≡ editions.One → h.registrations + 1 ≡ length h.rows
