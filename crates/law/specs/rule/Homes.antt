-- What the slots show of the world: the block of a live object lies at home but while a thread has taken it.
use Rattle.std.specs.Prelude.{◌≡◌, ℕ, true, false, List, Option, Some, None}
use mathlib.Core.Option as maybe
use mathlib.Core.Option.{some}
use lib.ListN.{get_elem?}
use Rattle.brc_words.specs.declared.owner.Owner.TheVariants as owners
use Rattle.law.specs.world.Lists.{is_marked}
use Rattle.law.specs.world.Heap.{Heap, cell_at, entries_at, worklist_at}
use Rattle.law.specs.world.Holding.{lives}
use Rattle.law.specs.declared.rule.contents.Contents.{Contents}
use Rattle.law.specs.rule.Logs.{Run, kind_in, entries_in, contents_at}

-- the slots by cell: out with a seat, or at home, empty or with a block
abbrev pub Homes : Type 0 → Type 0
Homes B = List (maybe.Option (Option B))

-- a block lies there that is the cell's, with these contents
pub record LiesThere {B : Type 0} (shows : B → ℕ × Contents) (homes : Homes B) (c : ℕ)
    (contents : Contents) : Type 0 where
  pub block : B
  pub there : get_elem? homes c ≡ some (some (Some block))
  pub of_cell : (shows block).0 ≡ c
  pub holds : (shows block).1 ≡ contents

-- a free cell has no block; that of a live object which nobody has locked and which is on no worklist is at home
pub record HomeShown {B : Type 0} (shows : B → ℕ × Contents) (homes : Homes B) (h : Heap) (run : Run)
    (c : ℕ) : Type 0 where
  pub bare : (cell_at h c).owner ≡ owners.Free → get_elem? homes c ≡ some (some None)
  pub lies : lives (cell_at h c).owner ≡ true → (cell_at h c).mutex ≡ 0
      → ((t : ℕ) → is_marked (worklist_at h t) c ≡ false)
      → LiesThere shows homes c (contents_at run c)

-- the object lives, and is on no worklist
pub record AtRest (h : Heap) (c : ℕ) : Type 0 where
  pub live : lives (cell_at h c).owner ≡ true
  pub off : (u : ℕ) → is_marked (worklist_at h u) c ≡ false

-- what was put home last is of the kind and has the entries that the cell has
pub record ContentsFit (h : Heap) (run : Run) (c : ℕ) : Type 0 where
  pub kind : kind_in (contents_at run c) ≡ (cell_at h c).kind
  pub entries : entries_in (contents_at run c) ≡ entries_at h c
