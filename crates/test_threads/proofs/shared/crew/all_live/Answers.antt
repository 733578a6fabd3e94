use denote.Param.Send.{sendable}
use Rattle.test_threads.proofs.Sent.{job_send}
use Rattle.test_threads.proofs.shared.crew.all_live.Goals as goal

pub map_vec-requires-send-J : goal.map_vec-requires-send-J
map_vec-requires-send-J g c κs within = search (sendable, job_send) depth 20
