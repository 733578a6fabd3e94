-- The world that a running table opens with.
use Rattle.std.specs.Prelude.{ℕ}
use Rattle.law.specs.declared.world.edition.Edition.{Edition}
use Rattle.law.specs.declared.world.edition.Edition.TheVariants as editions
use Rattle.law.specs.world.Heap.{Heap, opening_in}

-- the edition that it goes by
abbrev pub runs_in : Edition
runs_in = editions.Two

abbrev pub start_of : ℕ → ℕ → Heap
start_of cells limit = opening_in runs_in cells limit
