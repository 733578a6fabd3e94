-- What a thread that closes its words needn't be asked again.
use Rattle.std.specs.Prelude.{◌≡◌, ℕ, true}
use Rattle.law.specs.declared.world.row.Stage.TheVariants as stages
use Rattle.law.specs.world.Heap.{Heap, row_at, worklist_at}
use Rattle.law.specs.world.Steps.{may_leave}

-- whoever has closed a word has seen to its objects, as in every reached world
pub record ClosersHaveLeft (h : Heap) : Type 0 where
  pub seen_to : (t n : ℕ) → (row_at h t).stage ≡ stages.Closing n
      → may_leave h.edition t h.cells (worklist_at h t) ≡ true
