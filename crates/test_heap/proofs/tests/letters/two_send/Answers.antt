-- A mutator at rest goes to another thread of the machine, and the heap is shared with it.
use denote.Exit.{no}
use denote.Struct.Struct.{Struct}
use denote.Struct.Declared.{shape}
use denote.Struct.Tuple.{type_at}
use denote.Param.Send.{sendable, param_send, arg_send, recorded_send, struct_send}
use mir.Syntax.{named}
use Rattle.std.proofs.Crossing.{sync as global_sync}
use Rattle.brc_thread.proofs.Sent.{resting_send, heap_sync}
use Rattle.test_heap.proofs.tests.letters.two_send.Lts.{of-8}
use Rattle.test_heap.proofs.tests.letters.two_send.Goals as goal

pub join-requires-send-F : goal.join-requires-send-F
join-requires-send-F g c κs within =
    let e = κs.1.1.1.1.1.1 in
    let T = type_at _ (of-8 g.row.R g.R.laws g.R.Threads-dict g.R.Abort-dict g.R.Wait-dict record {
      mir = named 6;
      lft = e.0;
    } record { mir = named 7; lft = e.1.0 } record { mir = named 8; lft = e.1.1.0 }) in
    param_send 1 _
    (arg_send _ no _ (recorded_send (Struct (shape T)) T.D T.to T.to_one
    (struct_send (shape T) (
      search (sendable, c.type_bounds.sync-R),
      (search (sendable, global_sync), (search (sendable, heap_sync), (search (sendable, resting_send), tt))),
    ))))
