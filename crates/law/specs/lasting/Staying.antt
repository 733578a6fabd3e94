-- What a thread may rely on while others step: its own part, and the words of what it holds, locks, bears or buries.
use Rattle.std.specs.Prelude.{◌≡◌, ◌≢◌, ℕ, ◌≤◌, ◌==◌, Bool, true, false, List, [], ◌∷◌, pos, Some, None, slice_get, ◌⊎◌}
use Rattle.brc_words.specs.declared.limits.TheConstants.{FIRST_MORTAL}
use Rattle.brc_words.specs.declared.owner.Owner.TheVariants as owners
use Rattle.brc_words.specs.declared.state.State.{State}
use Rattle.brc_words.specs.declared.state.State.TheVariants as states
use Rattle.brc_words.specs.declared.kind.Kind.{Kind}
use Rattle.law.specs.declared.world.cell.Cell.{Cell}
use Rattle.law.specs.declared.world.event.Event.{Event}
use Rattle.law.specs.declared.world.event.Step.{Step}
use Rattle.law.specs.declared.world.event.Step.TheVariants.{Register, Gather}
use Rattle.law.specs.declared.world.row.Phase.{Phase}
use Rattle.law.specs.declared.world.row.Phase.TheVariants as phases
use Rattle.law.specs.declared.world.row.Hand.TheVariants as hands
use Rattle.law.specs.declared.world.row.Stage.TheVariants as stages
use Rattle.law.specs.world.Lists.{place_at, bit_of, is_marked}
use Rattle.law.specs.world.Heap.{Heap, cell_at, entries_at, row_at, frame_at, popped_at, worklist_at, queue_at}
use Rattle.law.specs.world.Heap.{is_gathered}
use Rattle.law.specs.world.Steps.{locked_at, enabled, after, is_active, is_default, is_merged}
use Rattle.law.specs.world.Runs.{IsReached}
use Rattle.law.specs.world.Holding.{carries, lives}

-- the root registers or gathers this thread
abbrev pub is_about : ℕ → Step → Bool
is_about t (Register u) = u == t
is_about t (Gather u) = u == t
is_about t _ = false

-- another's event: no step of the thread, and none of the root's about it
pub record IsAnothers (t : ℕ) (e : Event) : Type 0 where
  pub other : e.thread ≢ t
  pub apart : is_about t e.step ≡ false

-- what holds before another's event holds after it
abbrev pub Lasts : ℕ → (Heap → Type 0) → Type 0
Lasts t P = (h : Heap) (e : Event) → IsReached h → enabled h e ≡ true → IsAnothers t e → P h → P (after h e)

-- a list of events, none of them the thread's or about it
abbrev pub AreAnothers : ℕ → List Event → Type 0
AreAnothers t [] = Unit {0}
AreAnothers t (e ∷ events) = IsAnothers t e × AreAnothers t events

-- the thread's own part: its row, its frame, its popped bits, its worklist, and that it isn't gathered
pub record SameOwn (t : ℕ) (old new : Heap) : Type 0 where
  pub row : row_at new t ≡ row_at old t
  pub frame : frame_at new t ≡ frame_at old t
  pub popped : popped_at new t ≡ popped_at old t
  pub worklist : worklist_at new t ≡ worklist_at old t
  pub gathered : is_gathered new t ≡ is_gathered old t

-- an entry of the cell that the thread has locked, or of a dead block on its worklist
pub record HasEntry (h : Heap) (t c : ℕ) : Type 0 where
  pub in_cell : ℕ
  pub at_hand : (locked_at h t ≡ Some in_cell) ⊎ (is_marked (worklist_at h t) in_cell ≡ true)
  pub index : ℕ
  pub there : slice_get (entries_at h in_cell) index ≡ Some c

-- the thread has the cell: in a place, in its hand with a reference, popped, or as an entry
abbrev pub Has : Heap → ℕ → ℕ → Type 0
Has h t c = ((k : ℕ) × (place_at (frame_at h t) k ≡ Some c))
    ⊎ ((carries c (row_at h t).hand ≡ true) ⊎ ((bit_of (popped_at h t) c ≡ 1) ⊎ HasEntry h t c))

-- the states only rise
abbrev pub rank : State → ℕ
rank states.Default = 0
rank states.Queued = 1
rank states.Merged = 2

-- ---- the facts that last

-- a new object's words are its maker's until it is born
pub record IsBearing (h : Heap) (t c : ℕ) (p : Phase) (x : Cell) : Type 0 where
  pub hand : (row_at h t).hand ≡ hands.Busy p c
  pub phase : (p ≡ phases.Claimed) ⊎ ((p ≡ phases.Counted) ⊎ (p ≡ phases.Ready))
  pub words : cell_at h c ≡ x

-- a dead block is its thread's: all of its words, unlocked, and its entries
pub record Buries (h : Heap) (t c : ℕ) (x : Cell) (entries : List ℕ) : Type 0 where
  pub marked : is_marked (worklist_at h t) c ≡ true
  pub words : cell_at h c ≡ x
  pub has : entries_at h c ≡ entries

-- a locked object keeps its entries, its kind and its lock
pub record IsLocking (h : Heap) (t c : ℕ) (kind : Kind) (entries : List ℕ) : Type 0 where
  pub thread : (row_at h t).locked ≢ None
  pub cell : locked_at h t ≡ Some c
  pub mutex : (cell_at h c).mutex ≡ t
  pub kind_is : (cell_at h c).kind ≡ kind
  pub has : entries_at h c ≡ entries

-- what a thread has lives on, as what it is and with whom bore it; its state never falls
pub record LivesOn (h : Heap) (t c : ℕ) (kind : Kind) (bearer least : ℕ) : Type 0 where
  pub held : Has h t c
  pub mortal : FIRST_MORTAL ≤ c
  pub live : lives (cell_at h c).owner ≡ true
  pub kind_is : (cell_at h c).kind ≡ kind
  pub same_bearer : (cell_at h c).bearer ≡ bearer
  pub state : least ≤ rank (cell_at h c).state

-- what others own or nobody owns never becomes the thread's
pub record Foreign (h : Heap) (t c : ℕ) : Type 0 where
  pub held : Has h t c
  pub mortal : FIRST_MORTAL ≤ c
  pub owner : (cell_at h c).owner ≢ owners.Thread t

-- the owner word goes from a thread to nobody, once
pub record OwnedOrNot (h : Heap) (t c s : ℕ) : Type 0 where
  pub held : Has h t c
  pub mortal : FIRST_MORTAL ≤ c
  pub owner : ((cell_at h c).owner ≡ owners.Thread s) ⊎ ((cell_at h c).owner ≡ owners.Nobody)

pub record Nobodys (h : Heap) (t c : ℕ) : Type 0 where
  pub held : Has h t c
  pub mortal : FIRST_MORTAL ≤ c
  pub owner : (cell_at h c).owner ≡ owners.Nobody

-- an active thread's own object, off its worklist: nobody else writes its owner word or its local word
pub record IsOwning (h : Heap) (t c local : ℕ) : Type 0 where
  pub active : is_active (row_at h t).stage ≡ true
  pub mortal : FIRST_MORTAL ≤ c
  pub owner : (cell_at h c).owner ≡ owners.Thread t
  pub unmarked : is_marked (worklist_at h t) c ≡ false
  pub count : (cell_at h c).local ≡ local

-- an object that is being adopted, or whose popped entry is being dealt with: nobody else writes its local word, and it
-- stays asked for
pub record StaysMerging (h : Heap) (t c local : ℕ) (p : Phase) : Type 0 where
  pub hand : (row_at h t).hand ≡ hands.Busy p c
  pub phase : (p ≡ phases.Taking) ⊎ (p ≡ phases.Popping)
  pub owner : (cell_at h c).owner ≡ owners.Nobody
  pub state : (cell_at h c).state ≡ states.Queued
  pub count : (cell_at h c).local ≡ local

-- an object that its owner has handed over and not yet merged, in the second edition: nobody else writes its local word
pub record Yields (h : Heap) (t c local : ℕ) : Type 0 where
  pub hand : (row_at h t).hand ≡ hands.Busy phases.Yielding c
  pub owner : (cell_at h c).owner ≡ owners.Nobody
  pub state : (cell_at h c).state ≡ states.Queued
  pub count : (cell_at h c).local ≡ local

-- an object whose owner has left, before it is adopted: only the thread that was shut out can adopt it
pub record Adopts (h : Heap) (t c s local : ℕ) : Type 0 where
  pub hand : (row_at h t).hand ≡ hands.Busy phases.Shut c
  pub owner : (cell_at h c).owner ≡ owners.Thread s
  pub state : (cell_at h c).state ≡ states.Queued
  pub count : (cell_at h c).local ≡ local

-- a popped entry that isn't merged is the thread's own, and stays so
pub record PoppedOwn (h : Heap) (t c local : ℕ) : Type 0 where
  pub popped : bit_of (popped_at h t) c ≡ 1
  pub owner : (cell_at h c).owner ≡ owners.Thread t
  pub state : (cell_at h c).state ≡ states.Queued
  pub count : (cell_at h c).local ≡ local

-- ---- what a thread knows without a look

-- of the cell in its hand, by the phase
abbrev pub PhaseTells : ℕ → Phase → Cell → Type 0
PhaseTells t phases.Claimed x = x.owner ≡ owners.Claimed t
PhaseTells t phases.Counted x = (x.owner ≡ owners.Claimed t) × (x.local ≡ 1)
PhaseTells t phases.Ready x = (x.owner ≡ owners.Claimed t) × (x.local ≡ 1) × (x.count ≡ pos 0)
    × (x.state ≡ states.Default)
PhaseTells t phases.Zero x = (x.owner ≡ owners.Thread t) × (x.local ≡ 0) × (is_merged x.state ≡ false)
PhaseTells t phases.Over x = (x.owner ≡ owners.Thread t) × (x.local ≡ 0) × (is_merged x.state ≡ false)
PhaseTells t phases.Untied x = (x.owner ≡ owners.Nobody) × (x.local ≡ 0) × (is_merged x.state ≡ false)
PhaseTells t phases.Asked x = is_default x.state ≡ false
PhaseTells t phases.Shut x = ((x.owner ≡ owners.Nobody) × (is_default x.state ≡ false))
    ⊎ ((s : ℕ) × (x.owner ≡ owners.Thread s) × (x.state ≡ states.Queued))
PhaseTells t phases.Taking x = (x.owner ≡ owners.Nobody) × (x.state ≡ states.Queued)
PhaseTells t phases.Held x = (x.owner ≡ owners.Nobody) × (x.state ≡ states.Merged)
PhaseTells t phases.Popping x = (x.owner ≡ owners.Nobody) × (x.state ≡ states.Queued)
PhaseTells t phases.Offered x = (x.owner ≡ owners.Thread t) × (1 ≤ x.local) × (x.state ≡ states.Queued)
PhaseTells t phases.Yielding x = (x.owner ≡ owners.Nobody) × (x.state ≡ states.Queued)

-- of a popped entry, between two calls: merged, or its own and asked for; so the shared word alone decides
abbrev pub PoppedTells : ℕ → Cell → Type 0
PoppedTells t x = (x.state ≡ states.Merged) ⊎ ((x.owner ≡ owners.Thread t) × (x.state ≡ states.Queued))

-- ---- once all are gathered

pub record HoldsNothing (h : Heap) (t : ℕ) : Type 0 where
  pub left : (row_at h t).stage ≡ stages.Left
  pub hand : (row_at h t).hand ≡ hands.Free
  pub unlocked : (row_at h t).locked ≡ None
  pub frame : (k : ℕ) → place_at (frame_at h t) k ≡ None
  pub popped : (q : ℕ) → bit_of (popped_at h t) q ≡ 0
  pub queue : (q : ℕ) → bit_of (queue_at h t) q ≡ 0
  pub worklist : (q : ℕ) → is_marked (worklist_at h t) q ≡ false
