-- A handle between the step that gave it and the step that spends it, at one of any number of heaps.
use Rattle.std.specs.Prelude.{◌≡◌, ◌≢◌, ℕ, ◌<◌, true, ◌∷◌, Some}
use Rattle.brc_words.specs.declared.kind.Kind.{Kind}
use Rattle.brc_count.specs.law.declared.world.event.Step.TheVariants.{Free, Birth}
use Rattle.brc_count.specs.law.world.Heap.{Heap, AreOptions, is_registered}
use Rattle.brc_count.specs.law.world.Lists.{place_at}
use Rattle.brc_count.specs.law.declared.rule.told.LogItem.{LogItem}
use Rattle.brc_count.specs.law.declared.rule.told.LogItem.TheVariants.{Stepped, Loaded, Lost}
use Rattle.brc_count.specs.law.rule.Logs.{Run, own_of, world, IsLegal}
use Rattle.brc_count.specs.law.rule.Seen.{part_seen}
use Rattle.brc_count.specs.table.Seated.{TableSeen}
use Rattle.brc_count.specs.Frames.{FrameSeen, HandleSeen, Owns}
use Rattle.brc_count.specs.Locking.{cell_in}

-- the world that a heap's run leads to
abbrev pub world_of : TableSeen → Run → Heap
world_of heap run = world heap.cells heap.local_limit run

-- Of any number of heaps, each with its run: the handle was given, and isn't spent. By the steps of its own thread at
-- its own heap alone, the place that it names has the cell. The last of them that filled the place gave the handle.
pub record IsHeldHandle (runs : TableSeen → Run) (handle : HandleSeen) (c : ℕ) : Type 0 where
  pub some_thread : 0 < handle.thread
  pub registered : is_registered (world_of handle.heap (runs handle.heap)) handle.thread ≡ true
  pub there : place_at (part_seen handle.heap.cells (own_of handle.thread (runs handle.heap))).frame
      handle.place ≡ Some c

-- A frame at one of the heaps owns the handle, which has this cell; what the frame did is its thread's part of the
-- heap's run.
pub record OwnsIn {A : Type 0} (runs : TableSeen → Run) (frame : FrameSeen A) (handle : HandleSeen)
    (c : ℕ) : Type 0 where
  pub some_thread : 0 < frame.seat.thread
  pub registered : is_registered (world_of frame.heap (runs frame.heap)) frame.seat.thread ≡ true
  pub did : frame.seat.log ≡ own_of frame.seat.thread (runs frame.heap)
  pub owns : Owns frame handle
  pub cell : cell_in frame handle.place ≡ Some c

-- the step doesn't give the cell back, and bears no object there
abbrev pub Spares : ℕ → LogItem → Type 0
Spares c (Stepped s number moved) = (s ≢ Free c) × ((kind : Kind) (k : ℕ) → s ≢ Birth c kind k)
Spares c (Loaded word number) = Unit {0}
Spares c (Lost word number) = Unit {0}

-- the next step of a heap's run, of whatever thread
pub record Next (heap : TableSeen) (run : Run) (u : ℕ) (told : LogItem) : Type 0 where
  pub options : AreOptions heap.cells heap.local_limit
  pub legal : IsLegal heap.cells heap.local_limit ((u, told) ∷ run)
