use Rattle.std.proofs.Common.{◌∙◌, ap}
use Rattle.std.specs.declared.alloc.Global.{Global}
use Rattle.brc_count.specs.Frames.{FrameSeen}
use Rattle.brc_client.proofs.Gathered.{left_stays}
use Rattle.brc_client.proofs.thread.LeavingThread.finish.Goals as goal

pub returns-in-Err-clause-refused : goal.returns-in-Err-clause-refused
returns-in-Err-clause-refused c =
    left_stays c.args.self c.in-Err.leaving
    (ap (λ (f : FrameSeen Global). f.heap) c.in-Err.ensures.unchanged ∙ c.work-spare.ensures.handles.heap
    ∙ ap (λ (f : FrameSeen Global). f.heap) c.self.view_is)
