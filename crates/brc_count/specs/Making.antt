-- How an object is made: a cell is claimed, its words are set, and its block is put home; the first reference is the
-- frame's.
use Rattle.std.specs.Prelude.{◌≡◌, ◌≢◌, ◌<◌, ◌≤◌, ◌+◌, ℕ, false, List, ◌∷◌, Some, None}
use Rattle.brc_words.specs.declared.fault.Fault.{Fault}
use Rattle.brc_words.specs.declared.fault.Fault.TheVariants.{OutOfMemory, HeapFull, FrameFull, LedgerFull}
use Rattle.brc_words.specs.declared.limits.TheConstants.{FIRST_MORTAL, MOST_PLACES, MOST_BIRTHS}
use Rattle.brc_words.specs.declared.look.TheConstants.{NO_COUNT}
use Rattle.brc_table.specs.law.declared.world.event.Step.TheVariants.{InitLocal, InitShared, Birth}
use Rattle.brc_table.specs.law.declared.rule.contents.Contents.{Contents}
use Rattle.brc_table.specs.law.rule.Logs.{kind_in}
use Rattle.brc_table.specs.law.declared.rule.told.Moved.TheVariants.{Nothing, Put}
use Rattle.brc_table.specs.law.declared.rule.told.LogItem.{LogItem}
use Rattle.brc_table.specs.law.declared.rule.told.LogItem.TheVariants.{Stepped}
use Rattle.brc_table.specs.Seated.{Continues}
use Rattle.brc_biased.specs.Seeking.{PassesOver, ClaimsAround}
use Rattle.brc_count.specs.Frames.{FrameSeen, HandleSeen, KeepsRest, KeepsHandles, IsAsBefore, IsFull, place_seen}
use Rattle.brc_count.specs.Frames.{ledger_seen}

module _ {A : Type 0} where
  -- An object with these contents is made, in the first cell that was to be had from the word on with which the search
  -- began; that is the frame's own, unless claims were asked for near the last ones. The thread claims the cell, counts
  -- its first reference, sets its shared word, and puts its block home. The new handle is of the frame's heap and
  -- thread, in the place that was next; every other place has what it had, and no block came or went.
  pub record Made (old new : FrameSeen A) (contents : Contents) (given : HandleSeen) : Type 0 where
    pub cell : ℕ
    pub mortal : FIRST_MORTAL ≤ cell
    pub inside : cell < old.heap.cells
    pub mid : List LogItem
    pub start : ℕ
    pub claimed : ClaimsAround old.heap.cells start cell old.seat.log mid
    pub as_asked : old.near ≡ false → start ≡ old.from
    pub told : new.seat.log ≡ Stepped (Birth cell (kind_in contents) given.place) old.seat.thread (Put cell contents)
        ∷ Stepped (InitShared cell) NO_COUNT Nothing ∷ Stepped (InitLocal cell) 1 Nothing ∷ mid
    pub heap : given.heap ≡ old.heap
    pub thread : given.thread ≡ old.seat.thread
    pub place : given.place ≡ old.next
    pub room : given.place < MOST_PLACES
    pub vacant : place_seen old.heap.cells old.seat.log given.place ≡ None
    pub has : place_seen new.heap.cells new.seat.log given.place ≡ Some cell
    pub others : (k : ℕ) → k ≢ given.place → place_seen new.heap.cells new.seat.log k ≡ place_seen old.heap.cells
        old.seat.log k
    pub seat : Continues old.seat new.seat
    pub len : new.len ≡ old.len + 1
    pub works : new.works ≡ old.works
    pub rest : KeepsRest old new

  -- of each mortal cell there is a note that it wasn't free, its free word with its bit 0; nothing else was done
  pub record FoundNone (old new : FrameSeen A) : Type 0 where
    pub passed : PassesOver old.seat.log old.heap.cells new.seat.log
    pub keeps : KeepsHandles old new
    pub works : new.works ≡ old.works

  -- Making is refused where there are 65,536 handles; where the thread has made 2^47 objects since it was registered;
  -- where a place, or memory for it or the block, wasn't to be had; or where no cell was.
  abbrev pub RefusedMaking : FrameSeen A → FrameSeen A → Fault → Type 0
  RefusedMaking old new FrameFull = IsFull old × IsAsBefore old new
  RefusedMaking old new LedgerFull = ¬ IsFull old × (MOST_BIRTHS ≤ (ledger_seen old).allocs)
      × IsAsBefore old new
  RefusedMaking old new OutOfMemory = ¬ IsFull old × ((ledger_seen old).allocs < MOST_BIRTHS)
      × IsAsBefore old new
  RefusedMaking old new HeapFull = (old.next < MOST_PLACES) × ((ledger_seen old).allocs < MOST_BIRTHS)
      × FoundNone old new
  RefusedMaking old new _ = ⊥
