-- What a thread's own part says of a step, read in a world.
use Rattle.std.specs.Prelude.{ℕ, nat_lt, ◌&&◌, Bool, List, Option, length}
use Rattle.law.specs.declared.world.event.Change.{Change}
use Rattle.law.specs.declared.world.event.Source.{Source}
use Rattle.law.specs.declared.world.event.Dropped.{Dropped}
use Rattle.law.specs.declared.world.event.LastDropped.{LastDropped}
use Rattle.law.specs.world.Lists.{is_bare}
use Rattle.law.specs.world.Heap.{Heap, entries_at, row_at, frame_at, popped_at, worklist_at, words_for}
use Rattle.law.specs.world.Steps.{locked_at, locked_cell, source_cell, dropped_cell, last_cell, locked_entries}
use Rattle.law.specs.world.Steps.{change_ok, closes_next, may_begin_closing}

-- the entries of the object that the thread has locked
abbrev pub locked_entries_at : Heap → ℕ → List ℕ
locked_entries_at h t = locked_entries (entries_at h) (locked_at h t)

-- the cell that a source of the thread names
abbrev pub source_at : Heap → ℕ → Source → Option ℕ
source_at h t = source_cell (row_at h t) (frame_at h t) (entries_at h)

-- the cell whose reference the thread gives up
abbrev pub dropped_at : Heap → ℕ → Dropped → Option ℕ
dropped_at h t = dropped_cell (frame_at h t) (worklist_at h t) (entries_at h)

abbrev pub last_at : Heap → ℕ → LastDropped → Option ℕ
last_at h t = last_cell (row_at h t).hand (frame_at h t) (worklist_at h t) (entries_at h)

-- whether the thread may close the queue word
abbrev pub close_ok_at : Heap → ℕ → ℕ → Bool
close_ok_at h t k =
    nat_lt k (words_for (length h.cells)) && closes_next (row_at h t).stage k
    && is_bare (frame_at h t) && may_begin_closing (popped_at h t) k

-- whether the change fits the thread's frame and the entries of the object that it has locked
abbrev pub change_ok_at : Heap → ℕ → Change → Bool
change_ok_at h t = change_ok (row_at h t).locked (frame_at h t) (locked_entries_at h t)
