use Rattle.std.proofs.Common.{arith}
use Rattle.brc_run.proofs.Taken.{one_registered}
use Rattle.brc_run.proofs.One_Heap.{one_at}
use Rattle.brc_run.proofs.crew.register_all.Goals as goal

pub loop-preserved : goal.loop-preserved
loop-preserved c =
    let was = c.loop.invariant in let one = c.in_ok-resting.ensures in let pushed = c.push_reserved.ensures in (
      one_registered _ _ _ _ was.0 one.registered,
      one_at _ _ _ _ pushed.items one.ready was.1,
      omega (arith, pushed.len, was.2),
      omega (arith, pushed.capacity, was.3),
    )
