use Rattle.std.proofs.Common.{◌∙◌, arith}
use Rattle.brc_trace.specs.Traces.{head_at}
use Rattle.brc_trace.proofs.TextLaws.{head_takes}
use Rattle.brc_trace.proofs.ReadingLoop.{has_line, long_text, short_text, bad_head, good_head}
use Rattle.brc_trace.proofs.trace_reading.read_head.Goals as goal

pub returns-then-text-gt-MOST_INPUT : goal.returns-then-text-gt-MOST_INPUT
returns-then-text-gt-MOST_INPUT c = rw c.not_a_line.ensures (long_text c.args.text.now c.if-text-gt-MOST_INPUT.true)

pub returns-in_default : goal.returns-in_default
returns-in_default c =
    rw (c.not_a_line-in_default.ensures, c.head_number.ensures) (
    short_text c.args.text.now c.if-text-gt-MOST_INPUT.false ∙ c.read_edition-edition.ensures.lines
    ∙ bad_head c.read_edition-edition.result.0 c.read_edition-edition.result.1.now c.in_default.ensures
    )

pub returns : goal.returns
returns c =
    let edition = c.read_edition-edition.result.0 in
    let headed = c.read_edition-edition.result.1.now in
    let line = has_line head_at headed (c.in-Some.cells, c.in-Some.local_limit) c.in-Some.behind.now
    c.in-Some.ensures in
    let head = head_takes line.words (c.in-Some.cells, c.in-Some.local_limit) line.read_here in
    record {
      size = head.size;
      limit = head.limit;
      short = omega (arith, line.shorter, c.read_edition-edition.ensures.shorter, c.if-text-gt-MOST_INPUT.false);
      read = short_text c.args.text.now c.if-text-gt-MOST_INPUT.false ∙ c.read_edition-edition.ensures.lines
          ∙ good_head edition headed c.in-Some.behind.now (c.in-Some.cells, c.in-Some.local_limit) c.in-Some.ensures;
    }
