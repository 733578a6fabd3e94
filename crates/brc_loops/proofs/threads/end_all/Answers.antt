use Rattle.std.proofs.Common.{◌∙◌, length, ap, arith}
use Rattle.brc_loops.proofs.One_Heap.{first_resting, others_resting}
use Rattle.brc_loops.proofs.threads.end_all.Goals as goal

pub loop-resting-preserved : goal.loop-resting-preserved
loop-resting-preserved g c =
    let was = c.loop-resting.invariant in
    let next = c.in-Some.ensures.steps.0 in (
      c.end_one.ensures.root ∙ was.0,
      others_resting _ _ _ _ next was.1,
      omega (arith, ap length next, c.end_one.ensures.gathered, was.2),
      omega (arith, ap length next, c.in-Some.ensures.steps.1, was.3),
      c.end_one.ensures.registered ∙ was.4,
    )

pub end_one-requires-clause-heap : goal.end_one-requires-clause-heap
end_one-requires-clause-heap g c =
    first_resting _ _ _ _ c.in-Some.ensures.steps.0 c.loop-resting.invariant.1

pub returns-clause-gathered : goal.returns-clause-gathered
returns-clause-gathered g c =
    omega (arith, c.in-None.ensures.steps.0, c.loop-resting.invariant.2, c.loop-resting.invariant.3)
