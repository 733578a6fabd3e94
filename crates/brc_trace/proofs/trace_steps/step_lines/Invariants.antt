use Rattle.std.proofs.Common.{length}
use Rattle.brc_trace.specs.Traces.{first_number}
use Rattle.brc_trace.proofs.SteppingLaws.{SteppedTo}
use Rattle.brc_trace.proofs.trace_steps.step_lines.Given as goal

abbrev pub invariant-loop-rest : goal.invariant-loop-rest
invariant-loop-rest g l = SteppedTo l.edition (first_number l.edition) l.fn.world l.text l.rest l.number l.world

abbrev pub decreases-loop-rest : goal.decreases-loop-rest
decreases-loop-rest g l = length l.rest
