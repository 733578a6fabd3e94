use Rattle.std.proofs.Common.{arith}
use Rattle.brc_trace.specs.Traces.{mark_at}
use Rattle.brc_trace.proofs.ReadingLoop.{has_line, no_mark, has_mark}
use Rattle.brc_trace.proofs.trace_reading.read_edition.Goals as goal

pub returns-in-Some-clause-lines : goal.returns-in-Some-clause-lines
returns-in-Some-clause-lines c = has_mark c.args.text.now c.in-Some.below.now c.in-Some.edition c.in-Some.ensures

pub returns-in-Some-clause-shorter : goal.returns-in-Some-clause-shorter
returns-in-Some-clause-shorter c =
    omega (arith, (has_line mark_at c.args.text.now c.in-Some.edition c.in-Some.below.now c.in-Some.ensures).shorter)

pub returns-in-None-clause-lines : goal.returns-in-None-clause-lines
returns-in-None-clause-lines c = no_mark c.args.text.now c.in-None.ensures
