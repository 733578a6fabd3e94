use Rattle.std.proofs.Common.{Ok, Err, ap, refl, subst}
use Rattle.brc_run.specs.Notes.{nowhere}
use Rattle.brc_run.specs.Scripts_Run.{Runs}
use Rattle.brc_program.proofs.Of_Input.{fails_of_input}
use Rattle.brc_program.proofs.answering.run_explained.Goals as goal

pub returns-in-Ok-clause-performs : goal.returns-in-Ok-clause-performs
returns-in-Ok-clause-performs g c = (
  Ok c.in-Ok.ended,
  subst (λ found. Runs c.args.options nowhere (g.R.Read.remaining c.args.reader)
      (g.W.Write.contents c.args.writer.now) (g.W.Write.contents c.run_script_explained-ran.new.writer) found) c.in-Ok.is
      c.run_script_explained-ran.ensures.runs,
  ap Ok c.status_of_run.ensures,
)

pub returns-clause-performs : goal.returns-clause-performs
returns-clause-performs g c = (
  Err c.in-Err.fault,
  subst (λ found. Runs c.args.options nowhere (g.R.Read.remaining c.args.reader)
      (g.W.Write.contents c.args.writer.now) (g.W.Write.contents c.run_script_explained-ran.new.writer) found) c.in-Err.is
      c.run_script_explained-ran.ensures.runs,
  (
    c.failed_run.result,
    refl,
    fails_of_input (λ bytes. bytes.items) (g.R.Read.remaining c.args.reader) c.run_script_explained-ran.result.text
        c.in-Err.fault c.failed_run.result c.run_script_explained-ran.ensures.input c.failed_run.ensures,
  ),
)
