use Rattle.std.proofs.Common.{◌≡◌, ◌++◌, ℕ, List, refl}
use Rattle.std.proofs.lemmas.Result.{err_from_is_err_and}
use Rattle.brc_report.specs.declared.content.Remain.{Remain}
use Rattle.brc_report.specs.declared.report.Ledger.{Ledger}
use Rattle.brc_report.specs.Texts.{ledger_line, remains_text, cycles_text, report_text}
use Rattle.brc_report.proofs.Writing.{second_puts, first_fails}
use Rattle.brc_report.proofs.report.write_report.Goals as goal

text_is : (ledger : Ledger) (live : ℕ) (remains : List Remain) (cycles : List (List ℕ))
    → report_text ledger live remains cycles ≡ ledger_line ledger live ++ (remains_text remains ++ cycles_text cycles)
unfolding report_text
text_is ledger live remains cycles = refl

pub returns-in_err-put_ledger : goal.returns-in_err-put_ledger
returns-in_err-put_ledger g c =
    let p = err_from_is_err_and c.from_residual.result c.from_residual.ensures.1 in
    rw (p.1, p.2) (
      c.in_err-put_ledger.ensures.0,
      c.in_err-put_ledger.ensures.1
          ++ (remains_text c.args.report.now.remains.items ++ cycles_text c.args.report.now.cycles.items),
      first_fails (g.W.Write.contents c.args.writer.now) _ (ledger_line c.args.report.now.ledger c.args.report.now.live)
          (remains_text c.args.report.now.remains.items ++ cycles_text c.args.report.now.cycles.items)
          (report_text c.args.report.now.ledger c.args.report.now.live c.args.report.now.remains.items
          c.args.report.now.cycles.items) c.in_err-put_ledger.ensures.1
          (text_is c.args.report.now.ledger c.args.report.now.live c.args.report.now.remains.items
          c.args.report.now.cycles.items) c.in_err-put_ledger.ensures.2,
    )

pub returns : goal.returns
returns g c =
    second_puts (g.W.Write.contents c.args.writer.now) _ _ c.put_rest.result
    (ledger_line c.args.report.now.ledger c.args.report.now.live)
    (remains_text c.args.report.now.remains.items ++ cycles_text c.args.report.now.cycles.items)
    (report_text c.args.report.now.ledger c.args.report.now.live c.args.report.now.remains.items
    c.args.report.now.cycles.items)
    (text_is c.args.report.now.ledger c.args.report.now.live c.args.report.now.remains.items
    c.args.report.now.cycles.items) c.in_ok-put_ledger.ensures c.put_rest.ensures
