use Rattle.std.proofs.Common.{length, ap, arith}
use Rattle.brc_run.proofs.One_Heap.{first_at, others_at}
use Rattle.brc_run.proofs.Ordered.{one_more}
use Rattle.brc_run.proofs.joining.leave_all_out.Goals as goal

pub loop-section-preserved : goal.loop-section-preserved
loop-section-preserved g c =
    let was = c.loop-section.invariant in (
      one_more _ _ _ _ _ _ _ _ _ was.0 (omega arith) c.section-item.is (omega arith) c.run_one.ensures
          c.push_reserved.ensures.items,
      others_at _ _ _ _ c.in-Some.ensures.items was.1,
      omega (arith, ap length c.in-Some.ensures.items, was.2),
      omega arith,
      omega arith,
      omega arith,
    )

pub run_one-requires-clause-ready : goal.run_one-requires-clause-ready
run_one-requires-clause-ready g c κs within = first_at _ _ _ _ c.in-Some.ensures.items c.loop-section.invariant.1
