use Rattle.law.proofs.private.In_Frames.{frames_kept}
use Rattle.law.proofs.private.In_Queues.{queues_kept}
use Rattle.law.proofs.private.In_Entries.{unlock_kept}
use Rattle.law.proofs.private.laws.steps_keep_private_cells.Goals as goal

pub returns-clause-frames : goal.returns-clause-frames
returns-clause-frames c = frames_kept

pub returns-clause-queues : goal.returns-clause-queues
returns-clause-queues c = queues_kept

pub returns-clause-unlock : goal.returns-clause-unlock
returns-clause-unlock c = unlock_kept
