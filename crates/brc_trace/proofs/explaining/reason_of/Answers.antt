use Rattle.brc_trace.specs.View.{listing}
use Rattle.brc_trace.proofs.CauseLaws.{events_are_few}
use Rattle.brc_trace.proofs.explaining.reason_of.Goals as goal

pub explain_trace-requires : goal.explain_trace-requires
explain_trace-requires g c = events_are_few c.args.text.now (listing c.in-Ok.trace) c.in-Ok.ensures.exact
