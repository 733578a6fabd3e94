-- What stands where an event is to be made, as the readers of a world tell it.
use Rattle.std.specs.Prelude.{ℕ, ◌-◌, nat_lt, if◌then◌else◌, length, Option, None}
use Rattle.std.specs.Option.{option_map}
use Rattle.brc_core.specs.Readings.{only_if, status_at, has_object, counts_locally}
use Rattle.law.specs.declared.world.event.Event.{Event}
use Rattle.law.specs.declared.world.event.Step.{Step}
use Rattle.law.specs.declared.world.event.Step.TheVariants.{Register, Gather}
use Rattle.law.specs.declared.world.event.Source.{Source}
use Rattle.law.specs.declared.world.event.Dropped.{Dropped}
use Rattle.law.specs.declared.world.event.LastDropped.{LastDropped}
use Rattle.law.specs.declared.world.row.Hand.{Hand}
use Rattle.law.specs.world.Heap.{Heap, cell_at, entries_at, row_at, frame_at, worklist_at, is_registered}
use Rattle.law.specs.world.Steps.{source_cell, dropped_cell, last_cell, target_at}
use Rattle.brc_trace.specs.declared.standing.Meant.{Meant}
use Rattle.brc_trace.specs.declared.standing.Standing.{Standing}

-- the thread that makes the step, or that the root registers or gathers
abbrev pub thread_spoken_of : ℕ → Step → ℕ
thread_spoken_of t (Register u) = u
thread_spoken_of t (Gather u) = u
thread_spoken_of t _ = t

-- the cells that a thread's operands name in the world
abbrev pub source_at : Heap → ℕ → Source → Option ℕ
source_at h t source = source_cell (row_at h t) (frame_at h t) (entries_at h) source

abbrev pub dropped_at : Heap → ℕ → Dropped → Option ℕ
dropped_at h t drop = dropped_cell (frame_at h t) (worklist_at h t) (entries_at h) drop

abbrev pub last_at : Heap → ℕ → Hand → LastDropped → Option ℕ
last_at h t hand last = last_cell hand (frame_at h t) (worklist_at h t) (entries_at h) last

-- the cell that a registered thread means with its step
abbrev pub meant_at : Heap → ℕ → Step → Option ℕ
meant_at h t s = if is_registered h t then target_at h t s else None

-- what is said of a cell
abbrev pub cell_seen : Heap → ℕ → Meant
cell_seen h c = record {
  cell = c;
  owner = only_if (nat_lt c (length h.cells)) (cell_at h c).owner;
  kind = only_if (has_object h c) (cell_at h c).kind;
  local = only_if (counts_locally h c) (cell_at h c).local;
  count = only_if (has_object h c) (cell_at h c).count;
  state = only_if (has_object h c) (cell_at h c).state;
}

-- what is said where an event is to be made
abbrev pub seen : Heap → Event → Standing
seen h e = record {
  registered = length h.rows - 1;
  thread = thread_spoken_of e.thread e.step;
  status = status_at h (thread_spoken_of e.thread e.step);
  hand = only_if (is_registered h (thread_spoken_of e.thread e.step))
      (row_at h (thread_spoken_of e.thread e.step)).hand;
  locked = (row_at h (thread_spoken_of e.thread e.step)).locked;
  meant = option_map (cell_seen h) (meant_at h e.thread e.step);
}
