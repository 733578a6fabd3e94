use Rattle.std.proofs.Common.{◌++◌, refl}
use Rattle.std.proofs.lemmas.Result.{err_from_is_err_and}
use Rattle.brc_report.specs.Texts.{remains_text, cycles_text}
use Rattle.brc_report.proofs.Writing.{second_puts, first_fails}
use Rattle.brc_report.proofs.report.put_rest.Goals as goal

pub returns-in_err-put_report_remains : goal.returns-in_err-put_report_remains
returns-in_err-put_report_remains g c =
    let p = err_from_is_err_and c.from_residual.result c.from_residual.ensures.1 in
    rw (p.1, p.2) (
      c.in_err-put_report_remains.ensures.0,
      c.in_err-put_report_remains.ensures.1 ++ (cycles_text c.args.report.now.cycles.items),
      first_fails (g.W.Write.contents c.args.writer.now) _ (remains_text c.args.report.now.remains.items)
          (cycles_text c.args.report.now.cycles.items)
          (remains_text c.args.report.now.remains.items ++ cycles_text c.args.report.now.cycles.items)
          c.in_err-put_report_remains.ensures.1 (refl) c.in_err-put_report_remains.ensures.2,
    )

pub returns : goal.returns
returns g c =
    second_puts (g.W.Write.contents c.args.writer.now) _ _ c.put_report_cycles.result
    (remains_text c.args.report.now.remains.items) (cycles_text c.args.report.now.cycles.items)
    (remains_text c.args.report.now.remains.items ++ cycles_text c.args.report.now.cycles.items)
    (refl) c.in_ok-put_report_remains.ensures c.put_report_cycles.ensures
