use Rattle.std.proofs.Common.{◌∙◌}
use Rattle.brc_run.proofs.One_Heap.{first_at, others_at}
use Rattle.brc_run.proofs.gathering.dismiss_all.Goals as goal

pub loop-resting-preserved : goal.loop-resting-preserved
loop-resting-preserved g c =
    let was = c.loop-resting.invariant in (
      c.dismiss.ensures.heap ∙ was.0,
      others_at _ _ _ _ c.in-Some.ensures.steps.0 was.1,
    )

pub dismiss-requires-clause-same_heap : goal.dismiss-requires-clause-same_heap
dismiss-requires-clause-same_heap g c = (first_at _ _ _ _ c.in-Some.ensures.steps.0 c.loop-resting.invariant.1).heap_is
