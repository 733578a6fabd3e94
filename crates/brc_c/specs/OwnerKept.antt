-- What C's variable of a heap owns: the same as a `Box<Owner>`.
use base.Fml.{Fml, ftrue}
use base.Stored.{Coded}
use denote.RawPtr.{Ptr}
use Rattle.std.specs.Prelude.{Option, Some, None}
use Rattle.std.specs.Coded.{coded_option}
use Rattle.std.specs.Box.Ownership.{box_owns}
use Rattle.std.specs.Global.{Global}
use Rattle.std_heap.specs.contracts.GlobalAllocator.TheImpl.{ghosts}
use Rattle.brc_client.specs.contracts.owner.Owner.{the_row}

abbrev pub heap_owns : Global → Ptr → the_row.Denot → Fml
heap_owns alloc = box_owns (ghosts.dealloc_token alloc) the_row

abbrev pub heap_coded : Coded the_row.Denot
heap_coded = the_row.coded

-- what it owns before a call fills it: nothing; and then that
abbrev pub heap_room_owns : Global → Ptr → Option the_row.Denot → Fml
heap_room_owns alloc at None = ftrue
heap_room_owns alloc at (Some value) = heap_owns alloc at value

abbrev pub heap_room_coded : Coded (Option the_row.Denot)
heap_room_coded = coded_option heap_coded
