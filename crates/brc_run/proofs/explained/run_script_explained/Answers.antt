use Rattle.std.proofs.Common.{◌≡◌, ◌∙◌, ℕ, List, Ok, Err, refl, ap, subst, sym}
use Rattle.std.specs.List.{list_any}
use Rattle.std.specs.declared.alloc.Global.{Global}
use Rattle.brc_words.specs.declared.fault.Fault.{Fault}
use Rattle.brc_words.specs.declared.fault.Fault.TheVariants as faults
use Rattle.brc_script.specs.Walks.{script_at, RefusesScript}
use Rattle.brc_run.specs.Notes.{nowhere}
use Rattle.brc_run.specs.Scripts_Run.{Runs}
use Rattle.brc_run.specs.Tellings.{ends_by_fault}
use Rattle.brc_run.proofs.Run_Laws.{not_spelled, run_of, not_written}
use Rattle.brc_run.proofs.explained.run_script_explained.Goals as goal

pub returns-in-Err-BadScript-clause-runs : goal.returns-in-Err-BadScript-clause-runs
returns-in-Err-BadScript-clause-runs g c =
    let input = g.R.Read.remaining c.args.reader in
    let old = g.W.Write.contents c.args.writer.now in
    let fault = faults.BadScript c.in-Err-BadScript.line in
    subst (λ (line : ℕ). Runs c.args.options nowhere input old old (Err (faults.BadScript line)))
    (sym c.in-Err-BadScript.line-is)
    (not_spelled c.args.options nowhere input old c.in-Ok.input.items fault c.in-Ok.ensures.bytes
    (subst (λ (b : List ℕ). RefusesScript fault (script_at {A = Global} b)) c.as_slice.ensures.value
    (subst (λ (f : Fault). RefusesScript f (script_at {A = Global} c.as_slice.result.now)) c.in-Err-BadScript.field-0-is
    c.in-Err-BadScript.ensures.exact)))

pub returns-in-Err-write_run-clause-runs : goal.returns-in-Err-write_run-clause-runs
returns-in-Err-write_run-clause-runs g c =
    let input = g.R.Read.remaining c.args.reader in
    let script = c.in-Ok-parse.script in
    let run' = c.in-Ok-run_sections.run' in
    let spelled = subst (λ (b : List ℕ). script_at {A = Global} b ≡ Ok script) c.as_slice.ensures.value
    c.in-Ok-parse.ensures.exact in
    not_written c.args.options nowhere input (g.W.Write.contents c.args.writer.now)
    (g.W.Write.contents c.write_run.new.writer)
    c.in-Err-write_run.ensures.1 script run'.sections.items run'.report c.in-Err-write_run.fault
    (run_of c.args.options nowhere input c.in-Ok.input.items script run'.sections.items run'.report
    c.in-Ok.ensures.bytes spelled
    c.in-Ok-run_sections.ensures.sections c.in-Ok-run_sections.ensures.report)
    c.in-Err-write_run.ensures.0 c.in-Err-write_run.ensures.2

pub returns-clause-runs : goal.returns-clause-runs
returns-clause-runs g c =
    let input = g.R.Read.remaining c.args.reader in
    let script = c.in-Ok-parse.script in
    let run' = c.in-Ok-run_sections.run' in
    let spelled = subst (λ (b : List ℕ). script_at {A = Global} b ≡ Ok script) c.as_slice.ensures.value
    c.in-Ok-parse.ensures.exact in
    record {
      script = script;
      ends = run'.sections.items;
      report = run'.report;
      run = run_of c.args.options nowhere input c.in-Ok.input.items script run'.sections.items run'.report
          c.in-Ok.ensures.bytes spelled
          c.in-Ok-run_sections.ensures.sections c.in-Ok-run_sections.ensures.report;
      written = c.in-Ok-write_run.ensures;
      lives = refl;
      faulted = c.has_fault.ensures ∙ ap (list_any ends_by_fault) c.as_slice-2.ensures.value;
    }
