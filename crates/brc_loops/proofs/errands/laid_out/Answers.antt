use Rattle.std.proofs.Common.{refl, rules}
use Rattle.brc_loops.proofs.Reversing.{reversing_more}
use Rattle.brc_loops.proofs.errands.laid_out.Goals as goal

pub loop-job-preserved : goal.loop-job-preserved
loop-job-preserved g c = record {
  reversing =
      reversing_more _ _ _ _ _ _ _ _ c.in-Some.ensures.items c.push_reserved.ensures.items refl
      c.loop-job.invariant.reversing;
  room = search rules;
}
