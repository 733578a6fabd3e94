use denote.Exit.{no}
use denote.Param.Send.{sendable, param_send, arg_send}
use Rattle.std.proofs.Common.{rules}
use Rattle.brc_thread.proofs.Sent.{resting_send}
use Rattle.brc_loops.proofs.Sent.{ended_send}
use Rattle.brc_loops.proofs.Zipped.{called_each}
use Rattle.brc_loops.proofs.duties.run_each.Goals as goal

pub do_all-requires-send-J : goal.do_all-requires-send-J
do_all-requires-send-J g c κs within = search (sendable, resting_send) depth 20

pub do_all-requires-send-X : goal.do_all-requires-send-X
do_all-requires-send-X g c κs within = param_send 2 _ (arg_send _ no _ (ended_send _ c.type_bounds.send-D-Answer))

pub returns-clause-each : goal.returns-clause-each
returns-clause-each g c =
    called_each _ _ _ _ _ _ (search rules) c.do_all.ensures.each (λ job one call. search rules)
