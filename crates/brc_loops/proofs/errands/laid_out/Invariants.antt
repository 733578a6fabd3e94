use Rattle.std.proofs.Common.{◌≡◌, ◌≤◌, Some, vec_len, vec_capacity}
use Rattle.brc_loops.proofs.Reversing.{Reversing}
use Rattle.brc_loops.proofs.errands.laid_out.Given as goal

abbrev pub invariant-loop-job : goal.invariant-loop-job
invariant-loop-job g l = record {
  reversing : Reversing (λ job errand. errand.job ≡ Some job) l.fn.jobs.items l.jobs.items l.errands.items;
  room : vec_len l.fn.jobs ≤ vec_capacity l.errands;
}

abbrev pub decreases-loop-job : goal.decreases-loop-job
decreases-loop-job g l = goal.left-loop-job g l
