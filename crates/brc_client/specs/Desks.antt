-- What is seen of a heap at which threads can be registered.
use Rattle.std.specs.Prelude.{ℕ, Option}
use Rattle.brc_count.specs.table.Seated.{TableSeen}
use Rattle.brc_heap.specs.Desk.{SightSeen}

-- what registers threads: which heap, and what the stamps of its registrations begin with
pub record DeskSeen : Type 0 where
  pub heap : TableSeen
  pub first : ℕ

-- an open heap; and its root as it was seen last, if it was
pub record OpenHeapSeen : Type 0 where
  pub desk : DeskSeen
  pub seen : Option SightSeen
