-- The contents of a closed heap: of its world, and as the blocks that it leaves show them.
use Rattle.std.specs.Prelude.{ℕ, zero, suc, ◌-◌, ◌++◌, nat_lt, if◌then◌else◌, List, [], ◌∷◌, map}
use Rattle.brc_words.specs.declared.limits.TheConstants.{FIRST_MORTAL, GLOBALS}
use Rattle.brc_count.specs.block.declared.payload.Payload.{Payload}
use Rattle.brc_count.specs.block.Payload.{kind_of, entries_of}
use Rattle.brc_report.specs.declared.content.Content.{Content}
use Rattle.brc_count.specs.law.rule.Logs.{Run, kind_in, entries_in, contents_at}
use Rattle.brc_count.specs.law.world.Heap.{Heap}
use Rattle.brc_count.specs.law.world.Holding.{lives_at}
use Rattle.brc_thread.specs.Emptied.{used_from}

-- of so many cells from this one on, those in which a mortal object lives, by rising number
abbrev pub live_from : Heap → ℕ → ℕ → List ℕ
live_from h c zero = []
live_from h c (suc more) = if lives_at h c then c ∷ live_from h (suc c) more else live_from h (suc c) more

-- the live mortal cells of a heap that has so many
abbrev pub live_cells : Heap → ℕ → List ℕ
live_cells h n = live_from h FIRST_MORTAL (n - FIRST_MORTAL)

module _ {A : Type 0} where
  -- a cell's kind and entries, as they were put home there last
  abbrev pub content_at : Run → ℕ → Content A
  content_at run c = record { cell = c; kind = kind_in (contents_at run c); entries = entries_in (contents_at run c) }

  -- the contents of the globals and of each live mortal cell, by rising cell: from the globals' cell on all are mortal
  abbrev pub contents_of_heap : Heap → Run → ℕ → List (Content A)
  contents_of_heap h run n = map (content_at run) (used_from h GLOBALS (n - GLOBALS))

  -- what a block shows
  abbrev pub content_in : ℕ × Payload A → Content A
  content_in block = record { cell = block.0; kind = kind_of block.1; entries = entries_of block.1 }

  -- the same, if it is the globals' or a mortal object's
  abbrev pub shown_in : ℕ × Payload A → List (Content A)
  shown_in block = if nat_lt block.0 GLOBALS then [] else content_in block ∷ []

  -- what blocks show
  abbrev pub contents_in : List (ℕ × Payload A) → List (Content A)
  contents_in [] = []
  contents_in (block ∷ blocks) = shown_in block ++ contents_in blocks
