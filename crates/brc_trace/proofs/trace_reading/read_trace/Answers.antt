use Rattle.std.proofs.Common.{◌≡◌, ◌∙◌, ◌≤◌, ℕ, List, Result, Ok, Err, length, ap, subst}
use Rattle.std.specs.Prelude.{IfOk}
use Rattle.brc_words.specs.declared.fault.Fault.{Fault}
use Rattle.brc_words.specs.declared.limits.TheConstants.{MOST_INPUT}
use Rattle.brc_trace.specs.Traces.{Listing, IsTrace, trace_text, trace_at, ReadsTrace}
use Rattle.brc_trace.specs.View.{listing}
use Rattle.brc_trace.proofs.TextLaws.{trace_again, trace_takes}
use Rattle.brc_trace.proofs.trace_reading.read_trace.Goals as goal

read_is_spelled : {X : Type 0} (view : X → Listing) (r : Result X Fault) (text : List ℕ)
    → ReadsTrace view r (trace_at text)
    → IfOk r (λ x. IsTrace (view x) × (text ≡ trace_text (view x)))
read_is_spelled view (Ok x) text h = let t = trace_takes text (view x) h in (t.is, t.spelled)
read_is_spelled view (Err e) text h = tt

pub returns-clause-found : goal.returns-clause-found
returns-clause-found g c = read_is_spelled listing c.trace_of.result c.args.text.now c.trace_of.ensures

pub returns-clause-only : goal.returns-clause-only
returns-clause-only g c trace is short spelled =
    subst (ReadsTrace listing c.trace_of.result)
    (ap trace_at spelled ∙ trace_again trace is (subst (λ (l : List ℕ). length l ≤ MOST_INPUT) spelled short))
    c.trace_of.ensures
