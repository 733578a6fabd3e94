-- What C's variable of a thread owns: the same as a `Box<Held>`.
use base.Fml.{Fml, ftrue}
use base.Stored.{Coded}
use denote.RawPtr.{Ptr}
use Rattle.std.specs.Prelude.{Option, Some, None}
use Rattle.std.specs.Coded.{coded_option}
use Rattle.std.specs.Box.Ownership.{box_owns}
use Rattle.std.specs.Global.{Global}
use Rattle.std_heap.specs.contracts.GlobalAllocator.TheImpl.{ghosts}
use Rattle.brc_c.specs.contracts.held.Held.{the_row}

abbrev pub thread_owns : Global → Ptr → the_row.Denot → Fml
thread_owns alloc = box_owns (ghosts.dealloc_token alloc) the_row

abbrev pub thread_coded : Coded the_row.Denot
thread_coded = the_row.coded

-- what it owns before a call fills it: nothing; and then that
abbrev pub thread_room_owns : Global → Ptr → Option the_row.Denot → Fml
thread_room_owns alloc at None = ftrue
thread_room_owns alloc at (Some value) = thread_owns alloc at value

abbrev pub thread_room_coded : Coded (Option the_row.Denot)
thread_room_coded = coded_option thread_coded
