use Rattle.std.proofs.Common.{◌∙◌, ◌+◌, List, length, Ok, ap, sym, append-nil, arith}
use Rattle.std.proofs.lemmas.Bool.{eqb-true}
use Rattle.law.specs.declared.world.event.Event.{Event}
use Rattle.brc_text.specs.Lines.{pieces}
use Rattle.brc_text.proofs.NumberLaws.{above_zero}
use Rattle.brc_trace.specs.Traces.{events_at}
use Rattle.brc_trace.proofs.ReadingLoop.{with_front, bad_line, good_line, line_shorter, no_line, joined}
use Rattle.brc_trace.proofs.trace_reading.events_of.Goals as goal

pub returns-in_default : goal.returns-in_default
returns-in_default g c =
    rw c.not_a_line.ensures (
    sym c.loop-rest.invariant.so_far
    ∙ ap (with_front c.loop-rest.events.items)
    (bad_line c.args.edition c.loop-rest.number c.loop-rest.rest.now
    (above_zero (length c.loop-rest.rest.now) (sym c.is_empty.ensures ∙ c.loop-rest-test.true)) c.in_default.ensures)
    )

pub loop-rest-smaller : goal.loop-rest-smaller
loop-rest-smaller g c = line_shorter c.args.edition c.loop-rest.rest.now c.in-Some.behind.now c.in-Some.event
    c.in-Some.ensures

pub loop-rest-preserved : goal.loop-rest-preserved
loop-rest-preserved g c =
    let front = c.loop-rest.events.items in
    let later = events_at c.args.edition (c.loop-rest.number + 1) (pieces c.in-Some.behind.now) in
    record {
      so_far = ap (λ (es : List Event). with_front es later) c.in_ok-push.ensures.items
          ∙ sym (joined front c.in-Some.event c.loop-rest.number later)
          ∙ ap (with_front front) (sym
          (good_line c.args.edition c.loop-rest.number c.loop-rest.rest.now c.in-Some.behind.now c.in-Some.event
          c.in-Some.ensures))
          ∙ c.loop-rest.invariant.so_far;
      counted = omega (
        arith,
        line_shorter c.args.edition c.loop-rest.rest.now c.in-Some.behind.now c.in-Some.event
            c.in-Some.ensures,
        c.loop-rest.invariant.counted,
      );
    }

pub returns : goal.returns
returns g c =
    sym c.loop-rest.invariant.so_far
    ∙ ap (with_front c.loop-rest.events.items) (no_line c.args.edition c.loop-rest.number c.loop-rest.rest.now
    (eqb-true _ _ (sym c.is_empty.ensures ∙ c.loop-rest-test.false)))
    ∙ ap (λ (es : List Event). Ok es) (append-nil c.loop-rest.events.items)
