-- Items with the contents that go with them, and the runs that they make.
use Rattle.std.specs.Prelude.{◌≡◌, ℕ, ◌==◌, Bool, true, false, if◌then◌else◌, pos, ◌-ℤ◌, List, [], ◌∷◌, ◌++◌, map}
use Rattle.std.specs.Prelude.{Option, Some, None}
use Rattle.brc_words.specs.declared.limits.TheConstants.{GLOBALS}
use Rattle.brc_words.specs.declared.entry.Entry.{Entry}
use Rattle.brc_words.specs.Notes.{cells_of}
use Rattle.brc_words.specs.declared.kind.Kind.{Kind}
use Rattle.brc_words.specs.declared.kind.Kind.TheVariants as kinds
use Rattle.law.specs.declared.world.event.Step.{Step}
use Rattle.law.specs.declared.world.event.Step.TheVariants.{Birth, Unlock, Gather}
use Rattle.law.specs.declared.world.event.Change.TheVariants as changes
use Rattle.law.specs.known.Start.{start_of}
use Rattle.law.specs.world.Heap.{Heap, cell_at, entries_at}
use Rattle.law.specs.world.Steps.{after_target, target_at, locked_at}
use Rattle.law.specs.known.Items as items
use Rattle.law.specs.known.Items.{Item, ItemRun, AreItems, world_of_items, is_start, is_used, finds}
use Rattle.law.specs.declared.rule.contents.PlainKey.{PlainKey}
use Rattle.law.specs.declared.rule.contents.Contents.{Contents}
use Rattle.law.specs.declared.rule.contents.Contents.TheVariants.{Nothing, Truth, Int, Text, «List» as Cells, Dict}
use Rattle.law.specs.declared.rule.contents.Contents.TheVariants.{Mailbox}
use Rattle.law.specs.declared.rule.told.Moved.{Moved}
use Rattle.law.specs.declared.rule.told.Moved.TheVariants as moves
use Rattle.law.specs.declared.rule.told.LogItem.{LogItem}
use Rattle.law.specs.declared.rule.told.LogItem.TheVariants.{Stepped, Loaded, Lost}
use Rattle.law.specs.rule.Keys.{KeysAfter}

-- ---- contents as the world has them

abbrev pub kind_in : Contents → Kind
kind_in Nothing = kinds.Nothing
kind_in (Truth false) = kinds.False
kind_in (Truth true) = kinds.True
kind_in (Int number) = kinds.Int
kind_in (Text text) = kinds.Text
kind_in (Cells cells) = kinds.List
kind_in (Dict pairs) = kinds.Dict
kind_in (Mailbox letters) = kinds.Mailbox

-- the entries, each a cell and what is noted beside it
abbrev pub noted_in : Contents → List Entry
noted_in (Cells entries) = entries
noted_in (Dict pairs) = map (λ (pair : PlainKey × Entry). pair.1) pairs
noted_in (Mailbox letters) = letters
noted_in _ = []

-- the cells alone, which are the world's entries
abbrev pub entries_in : Contents → List ℕ
entries_in contents = cells_of (noted_in contents)

-- ---- items without their contents

-- the entries that a step finds
abbrev pub entries_found : Moved → List ℕ
entries_found (moves.Found c contents) = entries_in contents
entries_found _ = []

abbrev pub item_of : LogItem → Item
item_of (Stepped s number moved) = items.Stepped s number (entries_found moved)
item_of (Loaded word number) = items.Loaded word number
item_of (Lost word number) = items.Lost word number

abbrev pub log_items : List LogItem → List Item
log_items log = map item_of log

-- ---- runs

-- the items of all threads, newest first
abbrev pub Run : Type 0
Run = List (ℕ × LogItem)

abbrev pub items_of : Run → ItemRun
items_of [] = []
items_of (x ∷ run) = (x.0, item_of x.1) ∷ items_of run

-- What the log of a registration begins with: nothing, where the number is new; where it was borne before, the root's
-- item that registers it again.
abbrev pub begins : Bool → LogItem → List LogItem
begins true x = x ∷ []
begins false x = []

-- a thread's own since it was last registered, newest first
abbrev pub own_of : ℕ → Run → List LogItem
own_of t [] = []
own_of t (x ∷ run) = if is_start t (item_of x.1) then begins (is_used t (items_of run)) x.1 else (if x.0 ==
    t then x.1 ∷ own_of t run else own_of t run)

-- a log without the root's item: what the thread itself did and saw
abbrev pub own_steps : ℕ → List LogItem → List LogItem
own_steps t [] = []
own_steps t (x ∷ log) = if is_start t (item_of x) then own_steps t log else x ∷ own_steps t log

-- whom an item gathers
abbrev pub gathered_by : LogItem → Option ℕ
gathered_by (Stepped (Gather u) number moved) = Some u
gathered_by x = None

abbrev pub lives_on : Option ℕ → Run → List (ℕ × List LogItem) → List (ℕ × List LogItem)
lives_on None run lives = lives
lives_on (Some u) run lives = (u, own_of u run) ∷ lives

-- What each registration that has ended did, newest first: of each thread that was gathered its items since it was
-- registered.
abbrev pub lives_of : Run → List (ℕ × List LogItem)
lives_of [] = []
lives_of (x ∷ run) = lives_on (gathered_by x.1) run (lives_of run)

-- all items of a thread's number
abbrev pub all_of : ℕ → Run → List LogItem
all_of t [] = []
all_of t (x ∷ run) = if x.0 == t then x.1 ∷ all_of t run else all_of t run

-- what its registrations did that have ended, newest first
abbrev pub ended_in : ℕ → List (ℕ × List LogItem) → List LogItem
ended_in t [] = []
ended_in t (x ∷ lives) = if x.0 == t then own_steps t x.1 ++ ended_in t lives else ended_in t lives

-- the world that the run leads to
abbrev pub world : ℕ → ℕ → Run → Heap
world n limit run = world_of_items (start_of n limit) (items_of run)

-- ---- what was put home last

abbrev pub put_by : Moved → ℕ → Contents → Contents
put_by (moves.Put d contents) c before = if d == c then contents else before
put_by _ c before = before

abbrev pub put_in : LogItem → ℕ → Contents → Contents
put_in (Stepped s number moved) c before = put_by moved c before
put_in (Loaded word number) c before = before
put_in (Lost word number) c before = before

-- the immortals, as the heap is opened: none, false, true, the integers from -5 to 256, and the empty globals
abbrev pub opening_contents : ℕ → Contents
opening_contents c = if c ==
    0 then Nothing else (if c == 1 then Truth
    false else (if c == 2 then Truth true else (if c == GLOBALS then Dict [] else Int (pos c -ℤ pos 8))))

-- what the last Birth or Unlock of the cell put home; before the first, what the heap was opened with
abbrev pub contents_at : Run → ℕ → Contents
contents_at [] c = opening_contents c
contents_at (x ∷ run) c = put_in x.1 c (contents_at run c)

-- ---- the contents that go with a step

-- the cell whose block the step puts home
abbrev pub puts : Heap → ℕ → Step → Option ℕ
puts h t (Birth c kind k) = Some c
puts h t (Unlock change) = locked_at h t
puts h t _ = None

-- the cell whose block the step finds: what it locks, or a dead object
abbrev pub takes_of : Heap → Step → Option ℕ → Option ℕ
takes_of h s None = None
takes_of h s (Some c) = if finds s (cell_at h c) then Some c else None

abbrev pub takes : Heap → ℕ → Step → Option ℕ
takes h t s = takes_of h s (target_at h t s)

-- an unlock that changes nothing puts home what was there
abbrev pub keeps : Step → Bool
keeps (Unlock changes.Keep) = true
keeps _ = false

-- What a step puts home is of the kind and has the entries that the cell has after it, and has the keys that the step
-- leaves of those that were put home last.
pub record PutsHome (h : Heap) (run : Run) (t : ℕ) (s : Step) (c : ℕ) (contents : Contents) : Type 0 where
  pub cell : puts h t s ≡ Some c
  pub finds_none : takes h t s ≡ None
  pub kind : kind_in contents ≡ (cell_at (after_target h t s (target_at h t s)) c).kind
  pub entries : entries_in contents ≡ entries_at (after_target h t s (target_at h t s)) c
  pub keys : KeysAfter s (contents_at run c) contents
  pub kept : keeps s ≡ true → contents ≡ contents_at run c

-- what a step finds is what was put home last
pub record FindsThere (h : Heap) (run : Run) (t : ℕ) (s : Step) (c : ℕ) (contents : Contents) : Type 0 where
  pub puts_none : puts h t s ≡ None
  pub cell : takes h t s ≡ Some c
  pub there : contents ≡ contents_at run c

abbrev pub MovesWith : Heap → Run → ℕ → Step → Moved → Type 0
MovesWith h run t s moves.Nothing = (puts h t s ≡ None) × (takes h t s ≡ None)
MovesWith h run t s (moves.Put c contents) = PutsHome h run t s c contents
MovesWith h run t s (moves.Found c contents) = FindsThere h run t s c contents

abbrev pub IsMoved : Heap → Run → ℕ → LogItem → Type 0
IsMoved h run t (Stepped s number moved) = MovesWith h run t s moved
IsMoved h run t (Loaded word number) = Unit {0}
IsMoved h run t (Lost word number) = Unit {0}

-- the contents of all items are those that go with them
abbrev pub AreMoved : ℕ → ℕ → Run → Type 0
AreMoved n limit [] = Unit {0}
AreMoved n limit (x ∷ run) = AreMoved n limit run × IsMoved (world n limit run) run x.0 x.1

-- a run of a heap with n cells
pub record IsLegal (n limit : ℕ) (run : Run) : Type 0 where
  pub items : AreItems (start_of n limit) (items_of run)
  pub moved : AreMoved n limit run
