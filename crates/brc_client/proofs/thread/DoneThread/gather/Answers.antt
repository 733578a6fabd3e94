use Rattle.std.proofs.Common.{◌∙◌, ap}
use Rattle.std.specs.declared.alloc.Global.{Global}
use Rattle.brc_thread.specs.Threads.{RetiredSeen}
use Rattle.brc_client.proofs.Gathered.{done_stays}
use Rattle.brc_client.proofs.thread.DoneThread.gather.Goals as goal

pub returns-in-Err-clause-refused : goal.returns-in-Err-clause-refused
returns-in-Err-clause-refused c =
    done_stays c.args.self c.in-Err.retired
    (ap (λ (r : RetiredSeen Global). r.heap) (c.in-Err.ensures.back ∙ c.self.view_is))
