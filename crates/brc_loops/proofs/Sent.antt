-- A thread that has lived comes back to who waits for it, if what it tells may.
use denote.Param.Send.{IsSend, sendable}
use denote.RattleType.{RattleType}
use Rattle.std.proofs.Crossing.{crosses}
use Rattle.brc_thread.proofs.Sent.{retired_send}
use Rattle.brc_loops.specs.contracts.threads.Ended as Ended

pub ended_send : (X : RattleType) → IsSend X → IsSend (Ended.the_row X)
ended_send X sent = search (sendable, crosses, retired_send) depth 40
