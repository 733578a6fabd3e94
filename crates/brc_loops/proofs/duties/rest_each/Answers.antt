use Rattle.std.proofs.Common.{◌∙◌, length, ap, arith, rules}
use Rattle.brc_loops.proofs.One_Heap.{one_rests_beside, one_job_more}
use Rattle.brc_loops.proofs.duties.rest_each.Goals as goal

pub loop-job-preserved : goal.loop-job-preserved
loop-job-preserved g c =
    let was = c.loop-job.invariant in
    let next = c.in-Some.ensures.steps.0 in (
      c.register_apart.ensures.same_root.0 ∙ was.0,
      one_rests_beside c.args.heap.now (c.rest.result, c.in-Some.job) c.loop-job.all.items c.reserve.new.self.items
          c.push_reserved.new.self.items c.reserve.ensures.items c.push_reserved.ensures.items (search rules)
          was.1,
      one_job_more c.rest.result c.in-Some.job c.loop-job.all.items c.reserve.new.self.items
          c.push_reserved.new.self.items _ _ _ c.reserve.ensures.items c.push_reserved.ensures.items next was.2,
      search rules,
      omega (arith, ap length next, c.in-Some.ensures.steps.1, was.4),
    )
