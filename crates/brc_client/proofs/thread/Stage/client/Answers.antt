use Rattle.std.proofs.Common.{refl}
use Rattle.brc_client.proofs.thread.Stage.client.Goals as goal

pub returns-in-Works : goal.returns-in-Works
returns-in-Works c = rw c.in-Works.is (refl, record { lends = tt; value = refl })
