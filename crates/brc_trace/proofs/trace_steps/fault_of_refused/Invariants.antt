use Rattle.std.proofs.Common.{◌≡◌, ◌≤◌, ◌+◌, length}
use Rattle.brc_words.specs.declared.limits.TheConstants.{MOST_INPUT}
use Rattle.brc_text.specs.Lines.{pieces}
use Rattle.brc_trace.specs.Traces.{events_at}
use Rattle.brc_trace.specs.Replaying.{told}
use Rattle.brc_trace.proofs.trace_steps.fault_of_refused.Given as goal

abbrev pub invariant-loop-rest : goal.invariant-loop-rest
invariant-loop-rest l = record {
  so_far : told l.refused (events_at l.edition l.number (pieces l.rest)) ≡ told l.refused
      (events_at l.edition (l.refused + 1) (pieces l.behind));
  counted : l.number + length l.rest ≤ MOST_INPUT + 3;
}

abbrev pub decreases-loop-rest : goal.decreases-loop-rest
decreases-loop-rest l = length l.rest
