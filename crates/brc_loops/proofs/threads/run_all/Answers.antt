use denote.Exit.{no}
use denote.Param.Send.{sendable, param_send, arg_send}
use Rattle.brc_thread.proofs.Sent.{resting_send}
use Rattle.brc_loops.proofs.Sent.{ended_send}
use Rattle.brc_loops.proofs.threads.run_all.Goals as goal

pub do_all-requires-send-J : goal.do_all-requires-send-J
do_all-requires-send-J g c κs within = search (sendable, resting_send) depth 20

pub do_all-requires-send-X : goal.do_all-requires-send-X
do_all-requires-send-X g c κs within = param_send 2 _ (arg_send _ no _ (ended_send _ c.type_bounds.send-L-Answer))
