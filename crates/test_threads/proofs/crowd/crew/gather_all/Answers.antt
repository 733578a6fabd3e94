use Rattle.std.proofs.Common.{◌≡◌, ◌∙◌}
use Rattle.test_threads.proofs.Each.{others_are}
use Rattle.test_threads.proofs.crowd.crew.gather_all.Goals as goal

pub loop-one-preserved : goal.loop-one-preserved
loop-one-preserved c =
    let was = c.loop-one.invariant in (
      c.gather.ensures.same_root.0 ∙ was.0,
      others_are (λ one. one.retired.heap ≡ c.args.heap.now) _ _ _ c.in-Some.ensures.steps.0 was.1,
    )
