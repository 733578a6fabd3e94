-- The root's desk as a table of one word and one slot: what holds between any two steps, and what each step tells.
use Rattle.std.specs.Prelude.{◌≡◌, ◌≢◌, ◌<◌, ◌≤◌, ℕ, List, [], ◌∷◌, ◌++◌, Option, Some, length, slice_index}
use mathlib.Core.Option.{some}
use lib.ListN.{get_elem?}
use Rattle.atomic_table.specs.Seated.{TableId}
use Rattle.atomic_table.specs.Table.{State, Me, Step}
use Rattle.brc_count.specs.law.declared.rule.told.LogItem.{LogItem}
use Rattle.brc_count.specs.table.Seated.{TableSeen, RootSeen}
use Rattle.brc_thread.specs.Counting.{registrations}
use Rattle.brc_heap.specs.declared.desk.Visit.{Visit}
use Rattle.brc_heap.specs.declared.desk.Visit.TheVariants as visits
use Rattle.brc_heap.specs.declared.desk.Visitor.{Visitor}

-- what contracts see of a heap with the desk of its root
pub record InnerSeen : Type 0 where
  pub heap : TableSeen
  pub desk : TableId

-- what they see of a call that has the root: at which desk, of which heap, and the root as it was found there
pub record ClerkSeen : Type 0 where
  pub desk : TableId
  pub heap : TableSeen
  pub found : RootSeen

-- What they see of a call that was at a desk and put the root back: the seat that it had there, which no other call has;
-- whose desk it is; and the root as it was found and as it was left.
pub record SightSeen : Type 0 where
  pub desk : TableId
  pub seat : ℕ
  pub heap : TableSeen
  pub found : RootSeen
  pub left : RootSeen

-- what such a seat knows
abbrev pub visitor : TableSeen → Visit → Visitor
visitor heap visit = record { heap = heap; visit = visit }

abbrev pub knows : SightSeen → Visitor
knows sight = visitor sight.heap (visits.Did sight.found sight.left)

-- The log of a heap's root only grows, and so does the number of its registrations.
pub record Grows (was is : RootSeen) : Type 0 where
  pub more : List LogItem
  pub log : is.view.log ≡ more ++ was.view.log
  pub count : registrations was.view ≤ registrations is.view

-- whatever call was at the desk, it left the root no later than this
abbrev pub IsLast : TableSeen → RootSeen → List Visitor → Type 0
IsLast heap root views = (i : ℕ) (found left : RootSeen)
    → get_elem? views i ≡ some (visitor heap (visits.Did found left)) → Grows left root

-- the root lies in the slot
pub record LiesAtDesk (heap : TableSeen) (s : State (Option RootSeen) Visitor) : Type 0 where
  pub root : RootSeen
  pub home : get_elem? s.homes 0 ≡ some (some (Some root))
  pub of_heap : root.table ≡ heap.table
  pub last : IsLast heap root s.views

-- a call has the root, which it found so
pub record IsOut (heap : TableSeen) (found : RootSeen) (s : State (Option RootSeen) Visitor) : Type 0 where
  pub word : slice_index s.words 0 ≢ 0
  pub of_heap : found.table ≡ heap.table
  pub last : IsLast heap found s.views

-- a call found the heap's root, and left it
pub record WasOut (heap : TableSeen) (found left : RootSeen) : Type 0 where
  pub of_heap : found.table ≡ heap.table
  pub left_of_heap : left.table ≡ heap.table
  pub grows : Grows found left

-- Of two calls that registered a thread each, none found as many registrations as the other.
abbrev pub DifferInCount : TableSeen → List Visitor → Type 0
DifferInCount heap views = (i j : ℕ) (found left found' left' : RootSeen)
    → get_elem? views i ≡ some (visitor heap (visits.Did found left))
    → get_elem? views j ≡ some (visitor heap (visits.Did found' left'))
    → registrations found.view < registrations left.view
    → registrations found'.view < registrations left'.view
    → registrations found.view ≡ registrations found'.view → i ≡ j

-- Each seat knows the heap. If the word is 0, the heap's root lies in the slot; if it is not, one call has it at most. The
-- root only grows from call to call, and no two registrations have the same count.
pub record AtDesk (heap : TableSeen) (s : State (Option RootSeen) Visitor) : Type 0 where
  pub words : length s.words ≡ 1
  pub homes : length s.homes ≡ 1
  pub views : (i : ℕ) (v : Visitor) → get_elem? s.views i ≡ some v → v.heap ≡ heap
  pub lies : slice_index s.words 0 ≡ 0 → LiesAtDesk heap s
  pub out : (i : ℕ) (found : RootSeen) → get_elem? s.views i ≡ some (visitor heap (visits.Has found)) → IsOut heap found s
  pub one : (i j : ℕ) (found found' : RootSeen) → get_elem? s.views i ≡ some (visitor heap (visits.Has found))
      → get_elem? s.views j ≡ some (visitor heap (visits.Has found')) → i ≡ j
  pub was_out : (i : ℕ) (found left : RootSeen)
      → get_elem? s.views i ≡ some (visitor heap (visits.Did found left)) → WasOut heap found left
  pub apart : DifferInCount heap s.views

-- who finds 0 has the slot then, with the heap's root in it
pub record TakesRoot (step : Step (Option RootSeen)) (before : Me (Option RootSeen) Visitor) (found : ℕ)
    (after : Me (Option RootSeen) Visitor) : Type 0 where
  pub taken : found ≡ 0 → (root : RootSeen) × (after ≡ (visitor before.0.heap (visits.Has root), (0, Some root) ∷ []))
      × (root.table ≡ before.0.heap.table)

-- who puts the root back stores 0, has no slot then, and knows how it was left
pub record PutsRoot (step : Step (Option RootSeen)) (before : Me (Option RootSeen) Visitor) (stored : ℕ)
    (after : Me (Option RootSeen) Visitor) : Type 0 where
  pub free : stored ≡ 0
  pub did : (heap : TableSeen) (found left : RootSeen)
      → before ≡ (visitor heap (visits.Has found), (0, Some left) ∷ [])
      → after ≡ (visitor heap (visits.Did found left), [])

-- a call that has the root, or left it so, has seen it so
abbrev pub look_of : Visit → Visit
look_of visits.Waits = visits.Waits
look_of (visits.Has found) = visits.Did found found
look_of (visits.Did found left) = visits.Did left left

abbrev pub looks : Visitor → Visitor
looks v = visitor v.heap (look_of v.visit)

-- at any moment no two registrations at a desk of this heap have the same count
abbrev pub EachCountOnce : TableSeen → Type 0
EachCountOnce heap = (s : State (Option RootSeen) Visitor) → AtDesk heap s → DifferInCount heap s.views
