use Rattle.std.proofs.Common.{◌≡◌, ◌∙◌, ◌+◌, ℕ, List, Ok, Err, take, sym, subst}
use Rattle.std.specs.Prelude.{IfSome}
use Rattle.brc_words.specs.declared.limits.TheConstants.{MOST_INPUT}
use Rattle.brc_trace.specs.Explaining.{Agrees}
use Rattle.brc_trace.proofs.ExplainingLaws.{faults_alike}
use Rattle.brc_trace.proofs.ReplayLaws.{of_front}
use Rattle.brc_trace.proofs.explaining.run_replay_explained.Goals as goal

pub returns-in-Ok-run_replay-clause-replays : goal.returns-in-Ok-run_replay-clause-replays
returns-in-Ok-run_replay-clause-replays g c =
    of_front (g.R.Read.remaining c.args.reader) c.as_slice.result.now (g.W.Write.contents c.args.writer.now)
    (g.W.Write.contents c.run_replay.new.writer)
    (Ok c.in-Ok-run_replay.live)
    (subst (λ (bytes : List ℕ). IfSome (g.R.Read.remaining c.args.reader) (λ all. bytes ≡ take (MOST_INPUT + 1) all))
    (sym c.as_slice.ensures.value) c.in-Ok.ensures.bytes)
    c.in-Ok-run_replay.ensures

pub returns-clause-replays : goal.returns-clause-replays
returns-clause-replays g c =
    of_front (g.R.Read.remaining c.args.reader) c.as_slice.result.now (g.W.Write.contents c.args.writer.now)
    (g.W.Write.contents c.run_replay.new.writer)
    (Err c.in-Err-run_replay.fault)
    (subst (λ (bytes : List ℕ). IfSome (g.R.Read.remaining c.args.reader) (λ all. bytes ≡ take (MOST_INPUT + 1) all))
    (sym c.as_slice.ensures.value) c.in-Ok.ensures.bytes)
    c.in-Err-run_replay.ensures

pub returns-clause-agrees : goal.returns-clause-agrees
returns-clause-agrees g c =
    faults_alike c.as_slice.result.now (g.W.Write.contents c.args.writer.now)
    (g.W.Write.contents c.run_replay.new.writer) c.in-Err-run_replay.fault
    c.why_refused-why.result c.in-Err-run_replay.ensures
    (subst (λ (bytes : List ℕ). Agrees bytes c.in-Err-run_replay.fault c.why_refused-why.result)
    (c.as_slice-in-Err-run_replay.ensures.value ∙ sym c.as_slice.ensures.value) c.why_refused-why.ensures.agrees)
