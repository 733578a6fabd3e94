-- A mutator at rest goes to another thread of the machine, and the heap and the gate are shared with it.
use denote.Exit.{no}
use denote.Struct.Struct.{Struct}
use denote.Struct.Declared.{shape}
use denote.Struct.Tuple.{type_at}
use denote.Param.Send.{sendable, param_send, arg_send, recorded_send, struct_send}
use mir.Syntax.{named}
use Rattle.brc_thread.proofs.Sent.{resting_send, heap_sync}
use Rattle.test_threads.proofs.Sent.{gate_sync, done_send}
use Rattle.test_threads.proofs.crowd.lives.start.Lts.{of-6}
use Rattle.test_threads.proofs.crowd.lives.start.Goals as goal

pub spawn_with-started-requires-send-F : goal.spawn_with-started-requires-send-F
spawn_with-started-requires-send-F g c κs within =
    let e = κs.1.1.1.1.1.1 in
    let T = type_at _ (of-6 g.row.E g.row.R g.E.laws g.R.laws g.R.Threads-dict g.R.Wait-dict
    record { mir = named 6; lft = e.0 } record { mir = named 7; lft = e.1.0 }
    record { mir = named 8; lft = e.1.1.0 }) in
    param_send 2 _
    (arg_send _ no _ (recorded_send (Struct (shape T)) T.D T.to T.to_one
    (struct_send (shape T) (
      search (sendable, c.type_bounds.sync-R),
      (search (sendable, heap_sync), (search (sendable, resting_send), (search (sendable, gate_sync), tt))),
    ))))

pub spawn_with-started-requires-send-T : goal.spawn_with-started-requires-send-T
spawn_with-started-requires-send-T g c κs within = param_send 3 _ (arg_send _ no _ done_send)
