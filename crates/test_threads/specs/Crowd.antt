-- The threads of one heap: those that are to live, at rest, and those that have lived.
use Rattle.std.specs.Prelude.{◌≡◌, ◌≤◌, [], All, length, vec_capacity}
use Rattle.std.specs.declared.alloc.Global.{Global}
use Rattle.brc_count.specs.table.Seated.{TableSeen}
use Rattle.brc_heap.specs.Words.{FrameSeen}
use Rattle.test_threads.specs.declared.crowd.together.Lived.{Lived}
use Rattle.test_threads.specs.declared.crowd.together.Room.{Room}

-- all are of this heap, none has lived yet, and there is room for each that will have
pub record AreReady (heap : TableSeen) (first : FrameSeen Global) (room : Room) : Type 0 where
  pub first_is : first.heap ≡ heap
  pub crew_are : All (λ resting. resting.heap ≡ heap) room.crew.items
  pub none_lived : room.done.items ≡ []
  pub has_room : length room.crew.items ≤ vec_capacity room.done

-- all that have lived are of this heap
pub record HaveLived (heap : TableSeen) (lived : Lived) : Type 0 where
  pub first_is : lived.first.heap ≡ heap
  pub done_are : All (λ one. one.retired.heap ≡ heap) lived.done.items
