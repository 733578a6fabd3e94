use Rattle.std.proofs.Common.{drop}
use Rattle.brc_text.specs.Puts.{PutsUpTo}
use Rattle.brc_trace.specs.Traces.{trace_text}
use Rattle.brc_trace.specs.View.{listing}
use Rattle.brc_trace.proofs.TextLaws.{events_text}
use Rattle.brc_trace.proofs.writing.write_trace.Given as goal

abbrev pub invariant-loop-event : goal.invariant-loop-event
invariant-loop-event g l =
    PutsUpTo (g.W.Write.contents l.fn.writer) (g.W.Write.contents l.writer) (trace_text (listing l.fn.trace))
    (events_text (drop l.event-index l.fn.trace.events.items))
