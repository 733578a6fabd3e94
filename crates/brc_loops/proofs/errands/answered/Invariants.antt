use Rattle.std.proofs.Common.{◌≡◌, ◌≤◌, Some, vec_len, vec_capacity}
use Rattle.brc_loops.proofs.Reversing.{Reversing}
use Rattle.brc_loops.proofs.errands.answered.Given as goal

abbrev pub invariant-loop-errand : goal.invariant-loop-errand
invariant-loop-errand g l = record {
  reversing : Reversing (λ errand answer. errand.answer ≡ Some answer) l.fn.errands.items l.errands.items l.answers.items;
  room : vec_len l.fn.errands ≤ vec_capacity l.answers;
}

abbrev pub decreases-loop-errand : goal.decreases-loop-errand
decreases-loop-errand g l = goal.left-loop-errand g l
