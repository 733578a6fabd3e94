use Rattle.std.proofs.Common.{◌∙◌, length, ap, arith}
use Rattle.brc_thread.specs.Counting.{registrations, gatherings}
use Rattle.brc_loops.proofs.One_Heap.{first_ended, others_ended}
use Rattle.brc_loops.proofs.wave.gather_each.Goals as goal

pub loop-one-preserved : goal.loop-one-preserved
loop-one-preserved g c =
    let was = c.loop-one.invariant in
    let next = c.in-Some.ensures.steps.0 in (
      c.gather.ensures.same_root.0 ∙ was.0,
      others_ended _ _ _ _ next was.1,
      omega (arith, ap length next, ap gatherings c.gather.ensures.gathered, was.2),
      omega (arith, ap length next, c.in-Some.ensures.steps.1, was.3),
      ap registrations c.gather.ensures.gathered ∙ was.4,
    )

pub gather-requires-clause-same_heap : goal.gather-requires-clause-same_heap
gather-requires-clause-same_heap g c =
    first_ended _ _ _ _ c.in-Some.ensures.steps.0 c.loop-one.invariant.1

pub returns-clause-gathered : goal.returns-clause-gathered
returns-clause-gathered g c = omega (arith, c.in-None.ensures.steps.0, c.loop-one.invariant.2, c.loop-one.invariant.3)
