use Rattle.std.proofs.Common.{◌≡◌, ◌∙◌, ap, arith}
use Rattle.test_threads.proofs.Each.{more_are}
use Rattle.test_threads.proofs.crowd.crew.register_all.Goals as goal

pub loop-preserved : goal.loop-preserved
loop-preserved c =
    let was = c.loop.invariant in let pushed = c.push_reserved.ensures in (
      c.register.ensures.same_root.0 ∙ was.0,
      more_are (λ resting. resting.heap ≡ c.args.heap.now) _ _ _ pushed.items
          (ap (λ frame. frame.heap) c.rest.ensures.same ∙ c.in-Ok.ensures.heap) was.1,
      omega (arith, pushed.len, was.2),
      omega (arith, pushed.capacity, was.3),
    )
