use Rattle.std.proofs.Common.{◌∙◌, ℕ, Some, ap, sym}
use Rattle.std.proofs.lemmas.Result.{err_from_is_err_and}
use Rattle.brc_text.specs.Lines.{pieces}
use Rattle.brc_trace.specs.Traces.{below_head, first_number}
use Rattle.brc_trace.proofs.TextLaws.{events_fit}
use Rattle.brc_trace.proofs.ReadingLoop.{refused_below, refused_same}
use Rattle.brc_trace.proofs.trace_reading.trace_of.Goals as goal

pub returns-in_err-head : goal.returns-in_err-head
returns-in_err-head g c =
    let p = err_from_is_err_and c.from_residual.result c.from_residual.ensures.1 in
    rw (p.1, p.2) c.in_err-head.ensures

pub returns-in_err-events : goal.returns-in_err-events
returns-in_err-events g c =
    let p = err_from_is_err_and c.from_residual-in_err-events.result c.from_residual-in_err-events.ensures.1 in
    let fault = c.in_err-events.field-0.0 in
    rw (p.1, p.2) (
    refused_same fault _ _ (sym c.in_ok-head.ensures.read)
    (refused_below c.in_ok-head.head.edition fault (c.in_ok-head.head.cells, c.in_ok-head.head.local_limit) _
    c.in_err-events.ensures)
    )

pub invariant_of-result : goal.invariant_of-result
invariant_of-result g c = record {
  size = c.in_ok-head.ensures.size;
  limit = c.in_ok-head.ensures.limit;
  fit = events_fit c.in_ok-head.head.edition (first_number c.in_ok-head.head.edition) (pieces c.in_ok-head.behind.now)
      c.in_ok-events.events.items c.in_ok-events.ensures;
}

pub returns : goal.returns
returns g c =
    let head : ℕ × ℕ = (c.in_ok-head.head.cells, c.in_ok-head.head.local_limit) in
    c.in_ok-head.ensures.read ∙ ap (below_head c.in_ok-head.head.edition (Some head)) c.in_ok-events.ensures
