use Rattle.std.proofs.Common.{◌++◌}
use Rattle.std.proofs.lemmas.Result.{err_from_is_err_and}
use Rattle.brc_report.specs.Texts.{report_text}
use Rattle.brc_report.proofs.Writing.{second_puts, first_fails}
use Rattle.brc_run.specs.Tellings.{sections_text, run_text}
use Rattle.brc_run.proofs.Tell_Laws.{run_is}
use Rattle.brc_run.proofs.telling.write_run.Goals as goal

pub returns-in_err-put_sections : goal.returns-in_err-put_sections
returns-in_err-put_sections g c =
    let p = err_from_is_err_and c.from_residual.result c.from_residual.ensures.1 in
    let report = c.args.run.now.report in
    let behind = report_text report.ledger report.live report.remains.items report.cycles.items in
    rw (p.1, p.2) (
      c.in_err-put_sections.ensures.0,
      c.in_err-put_sections.ensures.1 ++ behind,
      first_fails (g.W.Write.contents c.args.writer.now) _
          (sections_text c.sections.result.now c.as_slice.result.now) behind
          (run_text c.args.script.now c.args.run.now.sections.items report) c.in_err-put_sections.ensures.1
          (run_is c.args.script.now c.sections.result.now c.args.run.now.sections.items c.as_slice.result.now report
          c.sections.ensures.are c.as_slice.ensures.value)
          c.in_err-put_sections.ensures.2,
    )

pub returns : goal.returns
returns g c =
    let report = c.args.run.now.report in
    let behind = report_text report.ledger report.live report.remains.items report.cycles.items in
    second_puts (g.W.Write.contents c.args.writer.now) _ _ c.write_report.result
    (sections_text c.sections.result.now c.as_slice.result.now) behind
    (run_text c.args.script.now c.args.run.now.sections.items report)
    (run_is c.args.script.now c.sections.result.now c.args.run.now.sections.items c.as_slice.result.now report
    c.sections.ensures.are c.as_slice.ensures.value)
    c.in_ok-put_sections.ensures c.write_report.ensures
