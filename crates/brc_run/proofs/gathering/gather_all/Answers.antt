use Rattle.std.proofs.Common.{vec_capacity, length, ap, arith}
use Rattle.std.specs.Prelude.{vec_items}
use Rattle.brc_run.specs.Runs.{life_of}
use Rattle.brc_run.proofs.One_Heap.{gathers_next, others_done, ended_next, room_next, ended_last}
use Rattle.brc_run.proofs.gathering.gather_all.Goals as goal

pub loop-one-preserved : goal.loop-one-preserved
loop-one-preserved g c =
    let was = c.loop-one.invariant in
    let next = c.in-Some.ensures.steps.0 in (
      gathers_next life_of _ _ _ _ _ _ _ next was.0 c.gather_one.ensures,
      others_done _ _ _ _ next was.1,
      ended_next vec_items (λ one. one.end) _ _ _ _ _ _ next was.2 c.with_end-ends.ensures.more,
      room_next vec_items vec_capacity (λ one. one.end) _ _ _ _ _ next was.3 c.with_end-ends.ensures.more
          c.with_end-ends.ensures.room,
      omega (arith, ap length c.in-Some.ensures.steps.0, c.in-Some.ensures.steps.1, was.4),
    )

pub returns-clause-ends : goal.returns-clause-ends
returns-clause-ends g c = ended_last vec_items (λ one. one.end) _ _ _
    (omega (arith, c.in-None.ensures.steps.0, c.loop-one.invariant.4)) c.loop-one.invariant.2
