use Rattle.std.proofs.Common.{◌≡◌, ◌∙◌}
use Rattle.test_threads.proofs.Each.{first_is, others_are, more_are}
use Rattle.test_threads.proofs.crowd.crew.+live_beside.Goals as goal

pub start-requires-clause-heap : goal.start-requires-clause-heap
start-requires-clause-heap g t c κs within =
    first_is (λ resting. resting.heap ≡ c.args.heap.now) _ _ _ c.in-Some.ensures.items c.requires.crew

pub live_beside-counted-requires-clause-crew : goal.live_beside-counted-requires-clause-crew
live_beside-counted-requires-clause-crew g t c κs within =
    others_are (λ resting. resting.heap ≡ c.args.heap.now) _ _ _ c.in-Some.ensures.items c.requires.crew

pub live_beside-requires-clause-crew : goal.live_beside-requires-clause-crew
live_beside-requires-clause-crew g t c κs within =
    others_are (λ resting. resting.heap ≡ c.args.heap.now) _ _ _ c.in-Some.ensures.items c.requires.crew

pub returns-in-Ok-clause-done : goal.returns-in-Ok-clause-done
returns-in-Ok-clause-done g t c =
    more_are (λ one. one.retired.heap ≡ c.args.heap.now) _ _ _ c.push_reserved.ensures.items
    (c.join.ensures ∙ c.in-Ok.ensures.started) c.live_beside-counted.ensures.done
