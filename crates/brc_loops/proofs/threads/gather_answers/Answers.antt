use Rattle.std.proofs.Common.{◌∙◌, length, ap, arith}
use Rattle.brc_thread.specs.Counting.{gatherings}
use Rattle.brc_loops.proofs.Answered.{one_answered}
use Rattle.brc_loops.proofs.One_Heap.{first_ended, others_ended}
use Rattle.brc_loops.proofs.threads.gather_answers.Goals as goal

pub loop-one-preserved : goal.loop-one-preserved
loop-one-preserved g c =
    let was = c.loop-one.invariant in
    let next = c.in-Some.ensures.steps.0 in (
      c.gather.ensures.same_root.0 ∙ was.0,
      others_ended _ _ _ _ next was.1,
      omega (arith, ap length next, ap gatherings c.gather.ensures.gathered, was.2),
      omega (arith, ap length next, c.in-Some.ensures.steps.1, was.3),
      one_answered _ _ _ _ _ _ next c.push_reserved.ensures.items was.4,
      omega (arith, ap length next, c.push_reserved.ensures.len, was.5),
      omega (arith, c.push_reserved.ensures.capacity, was.6),
    )

pub gather-requires-clause-same_heap : goal.gather-requires-clause-same_heap
gather-requires-clause-same_heap g c =
    first_ended _ _ _ _ c.in-Some.ensures.steps.0 c.loop-one.invariant.1

pub push_reserved-requires : goal.push_reserved-requires
push_reserved-requires g c =
    let was = c.loop-one.invariant in omega (arith, ap length c.in-Some.ensures.steps.0, was.5, was.6)
