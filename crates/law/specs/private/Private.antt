-- The private cells of a thread: those that it bore, and neither put into a cell that isn't private nor handed over, as
-- Go's and Java's escape analysis call an object that doesn't escape its thread; here it is told by what the thread
-- did.
use Rattle.std.specs.Prelude.{◌≡◌, ◌⊎◌, ℕ, ◌≤◌, ◌==◌, ◌&&◌, not, Bool, true, false, if◌then◌else◌, List, [], ◌∷◌}
use Rattle.std.specs.Prelude.{Option, Some, None, slice_get}
use Rattle.brc_words.specs.declared.limits.TheConstants.{FIRST_MORTAL}
use Rattle.law.specs.world.Phases.{is_active_phase}
use Rattle.law.specs.world.Holding.{lives}
use Rattle.law.specs.declared.world.cell.Cell.{Cell}
use Rattle.law.specs.declared.world.event.Change.{Change}
use Rattle.law.specs.declared.world.event.Change.TheVariants as changes
use Rattle.law.specs.declared.world.event.Step.{Step}
use Rattle.law.specs.declared.world.event.Step.TheVariants.{Birth, Free, Unlock, Offer}
use Rattle.law.specs.declared.world.row.Hand.{Hand}
use Rattle.law.specs.declared.world.row.Hand.TheVariants as hands
use Rattle.law.specs.declared.world.row.Phase.{Phase}
use Rattle.law.specs.world.Lists.{place_at, bit_of, is_marked}
use Rattle.law.specs.world.Heap.{Heap, cell_at, entries_at, row_at, frame_at, popped_at, worklist_at, queue_at}
use Rattle.law.specs.world.Steps.{locked_cell, is_queued}
use Rattle.law.specs.known.Items.{Item, Stepped, Loaded, Lost, part_of}

-- the place whose cell an unlock puts into the locked object
abbrev pub place_put : Change → Option ℕ
place_put changes.Keep = None
place_put (changes.Put j) = Some j
place_put (changes.Take i j) = None
place_put (changes.Swap i j) = Some j

abbrev pub is_in : (ℕ → Bool) → Option ℕ → Bool
is_in set None = false
is_in set (Some c) = set c

-- a private cell goes into one that isn't: whatever it leads to may be found from there
abbrev pub is_shared : (ℕ → Bool) → List (Option ℕ) → Option ℕ → Change → Bool
is_shared set frame into change = is_in set (locked_cell frame (place_put change)) && not (is_in set into)

-- The private cells after a step of the thread, which has this frame and has locked this cell. A birth adds its cell,
-- and a free takes it away. An unlock that shares one leaves none: which others the shared one leads to isn't looked
-- at. Nor is it of one that the thread hands over.
abbrev pub private_by : List (Option ℕ) → Option ℕ → Step → (ℕ → Bool) → ℕ → Bool
private_by frame into (Birth d kind k) set c = if d == c then true else set c
private_by frame into (Free d) set c = if d == c then false else set c
private_by frame into (Unlock change) set c = if is_shared set frame into change then false else set c
private_by frame into (Offer d) set c = if set d then false else set c
private_by frame into _ set c = set c

-- the cell that the thread has locked, told by own items alone
abbrev pub locked_told : ℕ → List Item → Option ℕ
locked_told cells items = locked_cell (part_of cells items).frame (part_of cells items).row.locked

abbrev pub private_on : List (Option ℕ) → Option ℕ → (ℕ → Bool) → Item → ℕ → Bool
private_on frame into set (Stepped s number entries) c = private_by frame into s set c
private_on frame into set (Loaded word number) c = set c
private_on frame into set (Lost word number) c = set c

-- the private cells, told by own items alone; a thread begins without any
abbrev pub private_of : ℕ → List Item → ℕ → Bool
private_of cells [] c = false
private_of cells (x ∷ items) c = private_on (part_of cells items).frame (locked_told cells items)
    (private_of cells items) x c

-- what the words of a private cell say: it lives, its thread bore it, and nobody has asked its owner for it
pub record OwnCell (t : ℕ) (x : Cell) : Type 0 where
  pub live : lives x.owner ≡ true
  pub bearer : x.bearer ≡ t
  pub unasked : is_queued x.state ≡ false

-- Whoever holds or grips a private cell is its thread, or a private cell: it stands in no other frame, hand or
-- worklist, and as an entry of private cells alone. None of it is queued or popped, and the hand has it at its birth or
-- its burial alone.
pub record Isolated (h : Heap) (t : ℕ) (set : ℕ → Bool) : Type 0 where
  pub mortal : (c : ℕ) → set c ≡ true → FIRST_MORTAL ≤ c
  pub cells : (c : ℕ) → set c ≡ true → OwnCell t (cell_at h c)
  pub frames : (u k c : ℕ) → set c ≡ true → place_at (frame_at h u) k ≡ Some c → u ≡ t
  pub hands : (u c : ℕ) (p : Phase) → set c ≡ true → (row_at h u).hand ≡ hands.Busy p c
      → (u ≡ t) × (is_active_phase p ≡ true)
  pub popped : (u c : ℕ) → set c ≡ true → bit_of (popped_at h u) c ≡ 0
  pub queues : (u c : ℕ) → set c ≡ true → bit_of (queue_at h u) c ≡ 0
  pub worklists : (u c : ℕ) → set c ≡ true → is_marked (worklist_at h u) c ≡ true → u ≡ t
  pub entries : (d i c : ℕ) → set c ≡ true → slice_get (entries_at h d) i ≡ Some c → set d ≡ true

-- what a step that means cell d leaves in a hand: what was there, or d at its birth or burial
abbrev pub LeavesInHand : Hand → ℕ → ℕ → Phase → Type 0
LeavesInHand hand d c p = (hand ≡ hands.Busy p c) ⊎ ((d ≡ c) × (is_active_phase p ≡ true))

-- steps that neither bear nor free nor unlock nor hand over
abbrev pub is_plain : Step → Bool
is_plain (Birth d kind k) = false
is_plain (Free d) = false
is_plain (Unlock change) = false
is_plain (Offer d) = false
is_plain _ = true
