use Rattle.std.proofs.Common.{◌≡◌, ◌∙◌, ℕ, List, Ok, refl, ap, subst}
use Rattle.std.specs.List.{list_any}
use Rattle.std.specs.declared.alloc.Global.{Global}
use Rattle.std.proofs.lemmas.Result.{err_from_is_err_and}
use Rattle.brc_script.specs.Walks.{script_at, RefusesScript}
use Rattle.brc_run.specs.Tellings.{ends_by_fault}
use Rattle.brc_run.proofs.Run_Laws.{not_spelled, run_of, not_written}
use Rattle.brc_run.proofs.whole.run_script.Goals as goal

pub returns-in_err-script-clause-runs : goal.returns-in_err-script-clause-runs
returns-in_err-script-clause-runs g c =
    let p = err_from_is_err_and c.from_residual-in_err-script.result c.from_residual-in_err-script.ensures.1 in
    rw (p.1, p.2) (
    not_spelled c.args.options (g.G.Gate.may_refuse c.args.gate.now) (g.R.Read.remaining c.args.reader)
    (g.W.Write.contents c.args.writer.now)
    c.in_ok-input.input.items c.in_err-script.field-0.0 c.in_ok-input.ensures.bytes
    (subst (λ (b : List ℕ). RefusesScript c.in_err-script.field-0.0 (script_at {A = Global} b)) c.as_slice.ensures.value
    c.in_err-script.ensures.exact)
    )

pub returns-in_err-write_run-clause-runs : goal.returns-in_err-write_run-clause-runs
returns-in_err-write_run-clause-runs g c =
    let p = err_from_is_err_and c.from_residual-in_err-write_run.result c.from_residual-in_err-write_run.ensures.1 in
    let refuses = g.G.Gate.may_refuse c.args.gate.now in
    let input = g.R.Read.remaining c.args.reader in
    let script = c.in_ok-script.script in
    let run' = c.in_ok-run.run' in
    let spelled = subst (λ (b : List ℕ). script_at {A = Global} b ≡ Ok script) c.as_slice.ensures.value
    c.in_ok-script.ensures.exact in
    rw (p.1, p.2) (
    not_written c.args.options refuses input (g.W.Write.contents c.args.writer.now)
    (g.W.Write.contents c.write_run.new.writer)
    c.in_err-write_run.ensures.1 script run'.sections.items run'.report c.in_err-write_run.field-0.0
    (run_of c.args.options refuses input c.in_ok-input.input.items script run'.sections.items run'.report
    c.in_ok-input.ensures.bytes spelled
    c.in_ok-run.ensures.sections c.in_ok-run.ensures.report)
    c.in_err-write_run.ensures.0 c.in_err-write_run.ensures.2
    )

pub returns-clause-runs : goal.returns-clause-runs
returns-clause-runs g c =
    let refuses = g.G.Gate.may_refuse c.args.gate.now in
    let input = g.R.Read.remaining c.args.reader in
    let script = c.in_ok-script.script in
    let run' = c.in_ok-run.run' in
    let spelled = subst (λ (b : List ℕ). script_at {A = Global} b ≡ Ok script) c.as_slice.ensures.value
    c.in_ok-script.ensures.exact in
    record {
      script = script;
      ends = run'.sections.items;
      report = run'.report;
      run = run_of c.args.options refuses input c.in_ok-input.input.items script run'.sections.items run'.report
          c.in_ok-input.ensures.bytes spelled
          c.in_ok-run.ensures.sections c.in_ok-run.ensures.report;
      written = c.in_ok-write_run.ensures;
      lives = refl;
      faulted = c.has_fault.ensures ∙ ap (list_any ends_by_fault) c.as_slice-2.ensures.value;
    }
