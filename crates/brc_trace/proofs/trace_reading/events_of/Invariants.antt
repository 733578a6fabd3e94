use Rattle.std.proofs.Common.{◌≡◌, ◌≤◌, ◌+◌, length}
use Rattle.brc_words.specs.declared.limits.TheConstants.{MOST_INPUT}
use Rattle.brc_text.specs.Lines.{pieces}
use Rattle.brc_trace.specs.Traces.{first_number, events_at}
use Rattle.brc_trace.proofs.ReadingLoop.{with_front}
use Rattle.brc_trace.proofs.trace_reading.events_of.Given as goal

abbrev pub invariant-loop-rest : goal.invariant-loop-rest
invariant-loop-rest g l = record {
  so_far : with_front l.events.items (events_at l.edition l.number (pieces l.rest)) ≡ events_at l.edition
      (first_number l.edition) (pieces l.text);
  counted : l.number + length l.rest ≤ MOST_INPUT + 3;
}

abbrev pub decreases-loop-rest : goal.decreases-loop-rest
decreases-loop-rest g l = length l.rest
