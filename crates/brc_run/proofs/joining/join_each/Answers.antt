use Rattle.std.proofs.Common.{length, ap, arith}
use Rattle.brc_run.proofs.Ordered.{goes_on, all_done}
use Rattle.brc_run.proofs.joining.join_each.Goals as goal

pub loop-one-preserved : goal.loop-one-preserved
loop-one-preserved g c =
    let was = c.loop-one.invariant in (
      λ heap gate sections begun. goes_on _ _ _ _ _ _ _ _ _ c.in-Some.ensures.steps.0 c.push_reserved.ensures.items
          (was.0 heap gate sections begun)
          (λ n x so. c.joined.ensures heap gate n x so),
      omega (arith, ap length c.in-Some.ensures.steps.0, was.1),
      omega (arith, ap length c.in-Some.ensures.steps.0, c.in-Some.ensures.steps.1, was.2),
    )

pub returns : goal.returns
returns g c = record {
  done = λ heap gate sections begun. all_done _ _ _ _ _
      (omega (arith, c.in-None.ensures.steps.0, c.loop-one.invariant.2))
      (c.loop-one.invariant.0 heap gate sections begun);
}
