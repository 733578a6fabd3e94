-- A thread at rest, the heap and the allocator go to another thread of the machine.
use denote.Exit.{no}
use denote.Struct.Struct.{Struct}
use denote.Struct.Declared.{shape}
use denote.Struct.Tuple.{type_at}
use denote.Param.Send.{sendable, param_send, arg_send, recorded_send, struct_send}
use mir.Syntax.{named}
use Rattle.std.proofs.Crossing.{crosses}
use Rattle.brc_thread.proofs.Sent.{heap_sync}
use Rattle.test_threads.proofs.Sent.{maybe_send}
use Rattle.test_threads.proofs.crowd.pairs.two_live.Lts.{of-24}
use Rattle.test_threads.proofs.crowd.pairs.two_live.Goals as goal

pub join_mut-first-requires-send-F : goal.join_mut-first-requires-send-F
join_mut-first-requires-send-F g c κs within =
    let e = κs.1.1.1.1.1.1.1.1 in
    let T = type_at _ (of-24 g.row.R g.R.laws g.R.Threads-dict g.R.Wait-dict record { mir = named 8; lft = e.0 }
    record { mir = named 9; lft = e.1.0 } record { mir = named 10; lft = e.1.1.0 }
    record { mir = named 11; lft = e.1.1.1.0 }) in
    param_send 1 _
    (arg_send _ no _ (recorded_send (Struct (shape T)) T.D T.to T.to_one
    (struct_send (shape T) (
      search (sendable, maybe_send),
      (
        search (sendable, c.type_bounds.sync-R),
        (search (sendable, crosses) depth 40, (search (sendable, heap_sync), tt)),
      ),
    ))))
