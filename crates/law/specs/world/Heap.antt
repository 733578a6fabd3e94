-- The world of the heap: the words of every cell, the own part of every thread, and what stands between threads.
use Rattle.std.specs.Prelude.{ℕ, zero, suc, ◌+◌, ◌/◌, ◌==◌, ◌≤◌, nat_lt, ◌&&◌, Bool, false, if◌then◌else◌, pos, List}
use Rattle.std.specs.Prelude.{[], ◌∷◌, ◌++◌, length, replicate, Option, None, slice_index_or}
use Rattle.brc_words.specs.declared.limits.TheConstants.{FIRST_MORTAL, GLOBALS, IMMORTAL_LOCAL, MOST_LOCAL, MOST_CELLS}
use Rattle.brc_words.specs.declared.limits.TheConstants.{FEWEST_CELLS}
use Rattle.brc_words.specs.declared.kind.Kind.{Kind}
use Rattle.brc_words.specs.declared.kind.Kind.TheVariants as kinds
use Rattle.brc_words.specs.declared.owner.Owner.TheVariants as owners
use Rattle.brc_words.specs.declared.state.State.TheVariants as states
use Rattle.law.specs.declared.world.cell.Cell.{Cell}
use Rattle.law.specs.declared.world.edition.Edition.{Edition}
use Rattle.law.specs.declared.world.edition.Edition.TheVariants as editions
use Rattle.law.specs.declared.world.row.Row.{Row}
use Rattle.law.specs.declared.world.row.Hand.TheVariants as hands
use Rattle.law.specs.declared.world.row.Stage.TheVariants as stages

-- All lists but the first two are indexed by thread; number 0 is the root's. A thread's own part is its row, its
-- frame, its popped bits and its worklist's marks; others change its queue words and its notify word. The past
-- ledger is that of all registrations whose number is used again.
pub record Heap : Type 0 where
  pub limit : ℕ
  pub cells : List Cell
  pub entries : List (List ℕ)
  pub rows : List Row
  pub frames : List (List (Option ℕ))
  pub popped : List (List ℕ)
  pub worklists : List (List Bool)
  pub queues : List (List ℕ)
  pub notify_words : List ℕ
  pub gathered : List Bool
  pub edition : Edition
  pub registrations : ℕ
  pub past_allocs : ℕ
  pub past_frees : ℕ

-- no object: what is read past the last cell, and what a free cell of the opening world is
abbrev pub no_cell : Cell
no_cell = record {
  owner = owners.Free;
  local = 0;
  count = pos 0;
  state = states.Default;
  mutex = 0;
  bearer = 0;
  kind = kinds.Nothing;
}

-- no thread: what is read of a number that isn't registered, and of the root
abbrev pub no_row : Row
no_row = record { stage = stages.Left; hand = hands.Free; locked = None; allocs = 0; frees = 0 }

-- a thread as it is registered
abbrev pub new_row : Row
new_row = record { stage = stages.Active; hand = hands.Free; locked = None; allocs = 0; frees = 0 }

-- a thread as its number is used again: all its queue words are closed
abbrev pub again_row : Row
again_row = record { stage = stages.Opening 0; hand = hands.Free; locked = None; allocs = 0; frees = 0 }

abbrev pub cell_at : Heap → ℕ → Cell
cell_at h c = slice_index_or h.cells c no_cell

abbrev pub entries_at : Heap → ℕ → List ℕ
entries_at h c = slice_index_or h.entries c []

abbrev pub row_at : Heap → ℕ → Row
row_at h t = slice_index_or h.rows t no_row

abbrev pub frame_at : Heap → ℕ → List (Option ℕ)
frame_at h t = slice_index_or h.frames t []

abbrev pub popped_at : Heap → ℕ → List ℕ
popped_at h t = slice_index_or h.popped t []

abbrev pub worklist_at : Heap → ℕ → List Bool
worklist_at h t = slice_index_or h.worklists t []

abbrev pub queue_at : Heap → ℕ → List ℕ
queue_at h t = slice_index_or h.queues t []

abbrev pub is_gathered : Heap → ℕ → Bool
is_gathered h t = slice_index_or h.gathered t false

-- threads have the numbers from 1 on
abbrev pub is_registered : Heap → ℕ → Bool
is_registered h t = nat_lt 0 t && nat_lt t (length h.rows)

-- the queue words of a thread: one for 32 cells
abbrev pub words_for : ℕ → ℕ
words_for cells = (cells + 31) / 32

-- the cells that never die: None, False, True, the integers from -5 to 256, and the dictionary of globals
abbrev pub is_immortal : ℕ → Bool
is_immortal c = nat_lt c FIRST_MORTAL

abbrev pub immortal_kind : ℕ → Kind
immortal_kind c = if c ==
    0 then kinds.Nothing else (if c ==
    1 then kinds.False else (if c == 2 then kinds.True else (if c == GLOBALS then kinds.Dict else kinds.Int)))

-- PEP 703, "Immortal objects": the local word is UINT32_MAX, and counting changes nothing
abbrev pub immortal : ℕ → Cell
immortal c = record {
  owner = owners.Nobody;
  local = IMMORTAL_LOCAL;
  count = pos 0;
  state = states.Default;
  mutex = 0;
  bearer = 0;
  kind = immortal_kind c;
}

abbrev pub opening_cell : ℕ → Cell
opening_cell c = if is_immortal c then immortal c else no_cell

-- the cells below a number, as the heap opens
abbrev pub opening_cells : ℕ → List Cell
opening_cells zero = []
opening_cells (suc n) = opening_cells n ++ opening_cell n ∷ []

-- The opening world: the immortals, the empty globals, all other cells free, and no thread but the root.
abbrev pub opening : ℕ → ℕ → Heap
opening cells limit = record {
  limit = limit;
  cells = opening_cells cells;
  entries = replicate cells [];
  rows = no_row ∷ [];
  frames = [] ∷ [];
  popped = [] ∷ [];
  worklists = [] ∷ [];
  queues = [] ∷ [];
  notify_words = 0 ∷ [];
  gathered = false ∷ [];
  edition = editions.One;
  registrations = 0;
  past_allocs = 0;
  past_frees = 0;
}

-- the same for either edition
abbrev pub opening_in : Edition → ℕ → ℕ → Heap
opening_in edition cells limit = record (opening cells limit) { edition = edition }

-- the sizes that a heap may have
pub record AreOptions (cells limit : ℕ) : Type 0 where
  pub enough : FEWEST_CELLS ≤ cells
  pub few_enough : cells ≤ MOST_CELLS
  pub counts : 1 ≤ limit
  pub below_immortal : limit ≤ MOST_LOCAL
