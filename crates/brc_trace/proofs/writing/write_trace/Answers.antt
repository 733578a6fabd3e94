use Rattle.std.proofs.Common.{◌≡◌, ◌∙◌, ◌+◌, ◌<◌, suc, ◌++◌, [], ℕ, List, length, get_or, drop, refl, ap, subst, arith}
use Rattle.std.proofs.lemmas.Result.{err_from_is_err_and}
use Rattle.std.proofs.Math.Seq.{drop-cons}
use Rattle.std.proofs.lemmas.List.{drop_all}
use Rattle.law.specs.declared.world.event.Event.{Event}
use Rattle.law.specs.declared.world.event.Step.TheVariants as steps
use Rattle.brc_text.specs.Lines.{line}
use Rattle.brc_text.proofs.PutLaws.{starts, goes_on, fails, ends}
use Rattle.brc_trace.specs.Events.{event_words}
use Rattle.brc_trace.specs.Traces.{Listing, mark_text, headed_text, trace_text, head_words}
use Rattle.brc_trace.specs.View.{listing}
use Rattle.brc_trace.proofs.TextLaws.{events_text}
use Rattle.brc_trace.proofs.writing.write_trace.Goals as goal

-- the mark, the head, and then the events
text_is : (trace : Listing) → trace_text trace ≡ mark_text trace.edition ++ headed_text trace
unfolding trace_text
text_is trace = refl

-- one event and then the later ones
events_left : (events : List Event) (i : ℕ) (d : Event) → i < length events
    → events_text (drop i events) ≡ line (event_words (get_or events i d)) ++ events_text (drop (i + 1) events)
events_left events i d within =
    let next : suc i ≡ i + 1 = omega arith in
    ap events_text (drop-cons events i d within)
    ∙ ap (λ (n : ℕ). line (event_words (get_or events i d)) ++ events_text (drop n events)) next

split_of : (read events : List Event) (i : ℕ) (d : Event) → read ≡ events → i < length read
    → events_text (drop i events) ≡ line (event_words (get_or read i d)) ++ events_text (drop (i + 1) events)
split_of read events i d same within =
    subst (λ (es : List Event). events_text (drop i es) ≡ line (event_words (get_or read i d)) ++ events_text
    (drop (i + 1) es)) same
    (events_left read i d within)

pub returns-in_err-put_mark : goal.returns-in_err-put_mark
returns-in_err-put_mark g c =
    let p = err_from_is_err_and c.from_residual.result c.from_residual.ensures.1 in
    let trace = listing c.args.trace.now in
    rw (p.1, p.2) (
      c.in_err-put_mark.ensures.0,
      c.in_err-put_mark.ensures.1 ++ headed_text trace,
      fails (mark_text trace.edition) (headed_text trace)
          (starts (g.W.Write.contents c.args.writer.now) (trace_text trace))
          (text_is trace) c.in_err-put_mark.ensures.2,
    )

pub returns-in_err-put_line : goal.returns-in_err-put_line
returns-in_err-put_line g c =
    let p = err_from_is_err_and c.from_residual-in_err-put_line.result c.from_residual-in_err-put_line.ensures.1 in
    let trace = listing c.args.trace.now in
    let after_mark = goes_on _ (mark_text trace.edition) (headed_text trace)
    (starts (g.W.Write.contents c.args.writer.now) (trace_text trace)) (text_is trace) c.in_ok-put_mark.ensures in
    rw (p.1, p.2) (
      c.in_err-put_line.ensures.0,
      c.in_err-put_line.ensures.1 ++ events_text trace.events,
      fails (line (head_words trace.cells trace.local_limit)) (events_text trace.events) after_mark refl
          c.in_err-put_line.ensures.2,
    )

pub loop-event-init : goal.loop-event-init
loop-event-init g c =
    let trace = listing c.args.trace.now in
    let after_mark = goes_on _ (mark_text trace.edition) (headed_text trace)
    (starts (g.W.Write.contents c.args.writer.now) (trace_text trace)) (text_is trace) c.in_ok-put_mark.ensures in
    goes_on _ (line (head_words trace.cells trace.local_limit)) (events_text trace.events) after_mark refl
    c.in_ok-put_line.ensures

pub returns-in_err-put_event : goal.returns-in_err-put_event
returns-in_err-put_event g c =
    let p = err_from_is_err_and c.from_residual-in_err-put_event.result c.from_residual-in_err-put_event.ensures.1 in
    let i = c.loop-event.event-index in
    let read = c.deref-event-items.result.now in
    let first : Event = record { thread = 0; step = steps.Claim 0 } in
    let split = split_of read c.args.trace.now.events.items i first c.deref-event-items.ensures.value
    c.loop-event-test.true in
    let later = events_text (drop (i + 1) c.args.trace.now.events.items) in
    rw (p.1, p.2) (
      c.in_err-put_event.ensures.0,
      c.in_err-put_event.ensures.1 ++ later,
      fails (line (event_words (get_or read i first))) later c.loop-event.invariant split c.in_err-put_event.ensures.2,
    )

pub loop-event-preserved : goal.loop-event-preserved
loop-event-preserved g c =
    let i = c.loop-event.event-index in
    let read = c.deref-event-items.result.now in
    let first : Event = record { thread = 0; step = steps.Claim 0 } in
    let split = split_of read c.args.trace.now.events.items i first c.deref-event-items.ensures.value
    c.loop-event-test.true in
    goes_on _ (line (event_words (get_or read i first))) (events_text (drop (i + 1) c.args.trace.now.events.items))
    c.loop-event.invariant split c.in_ok-put_event.ensures

pub returns : goal.returns
returns g c =
    let events = c.args.trace.now.events.items in
    let none : events_text (drop c.loop-event.event-index events) ≡ [] =
    ap events_text (drop_all c.loop-event.event-index events (omega (arith, c.loop-event-test.false))) in
    ends c.loop-event.invariant none
