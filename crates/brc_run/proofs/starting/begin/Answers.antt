use denote.Exit.{no}
use denote.Struct.Struct.{Struct}
use denote.Struct.Declared.{shape}
use denote.Struct.Tuple.{type_at}
use denote.Param.Send.{sendable, param_send, arg_send, recorded_send, struct_send}
use mir.Syntax.{named}
use Rattle.std.proofs.Crossing.{send as global_send}
use Rattle.brc_thread.proofs.Sent.{resting_send, heap_sync}
use Rattle.brc_run.proofs.Sent.{board_sync, section_sync, done_send}
use Rattle.brc_run.proofs.starting.begin.Lts.{of-22}
use Rattle.brc_run.proofs.starting.begin.Goals as goal

pub spawn_with-started-requires-send-F : goal.spawn_with-started-requires-send-F
spawn_with-started-requires-send-F g c κs within =
    let e = κs.1.1.1.1.1.1 in
    let T = type_at _ (of-22 g.row.E g.row.R g.row.G g.E.laws g.R.laws g.G.laws g.R.Threads g.R.Threads-dict g.R.Wait
    g.R.Wait-dict g.G.Gate g.G.Gate-dict record { mir = named 6; lft = e.0 } record { mir = named 7; lft = e.1.0 }
    record { mir = named 8; lft = e.1.1.0 } record { mir = named 9; lft = e.1.1.1.0 } record {
      mir = named 10;
      lft = e.1.1.1.1.0;
    }) in
    param_send 2 _
    (arg_send _ no _ (recorded_send (Struct (shape T)) T.D T.to T.to_one (struct_send (shape T) (
      search (sendable, global_send),
      (
        search (sendable, heap_sync),
        (
          search (sendable, board_sync),
          (
            search (sendable, c.type_bounds.sync-G),
            (
              search sendable,
              (
                search (sendable, c.type_bounds.sync-R),
                (
                  search (sendable, resting_send),
                  (
                    search (sendable, section_sync),
                    (search sendable, tt),
                  ),
                ),
              ),
            ),
          ),
        ),
      ),
    )
    )))

pub spawn_with-started-requires-send-T : goal.spawn_with-started-requires-send-T
spawn_with-started-requires-send-T g c κs within = param_send 3 _ (arg_send _ no _ done_send)
