-- What a thread's local counts say of the cells that it owns.
use Rattle.std.specs.Prelude.{◌≡◌, ℕ, false}
use Rattle.brc_words.specs.declared.owner.Owner.TheVariants as owners
use Rattle.law.specs.world.Lists.{is_marked}
use Rattle.law.specs.world.Heap.{Heap, cell_at, worklist_at}

-- the thread owns the cell, and no thread has it to take apart
pub record IsAlive (h : Heap) (t c : ℕ) : Type 0 where
  pub owner : (cell_at h c).owner ≡ owners.Thread t
  pub off : (u : ℕ) → is_marked (worklist_at h u) c ≡ false
