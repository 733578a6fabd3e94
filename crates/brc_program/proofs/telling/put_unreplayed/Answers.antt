use Rattle.std.proofs.Common.{◌++◌, ap}
use Rattle.std.proofs.lemmas.Result.{err_from_is_err_and}
use Rattle.brc_text.proofs.PutLaws.{starts, goes_on, fails, rest_puts}
use Rattle.brc_program.specs.Errors.{fault_line, with_why, unreplayed_text}
use Rattle.brc_program.specs.Explanations.{why_line}
use Rattle.brc_program.proofs.telling.put_unreplayed.Goals as goal

pub returns-in_err-put_fault : goal.returns-in_err-put_fault
returns-in_err-put_fault g c =
    let p = err_from_is_err_and c.from_residual.result c.from_residual.ensures.1 in
    let line = fault_line c.args.failed.now.fault in
    let behind = why_line c.in-Some.why in
    let whole = starts (g.E.Write.contents c.args.errors.now) (unreplayed_text c.args.failed.now) in
    rw (p.1, p.2) (
      c.in_err-put_fault.ensures.0,
      c.in_err-put_fault.ensures.1 ++ behind,
      fails line behind whole (ap (with_why line) c.in-Some.is) c.in_err-put_fault.ensures.2,
    )

pub returns : goal.returns
returns g c =
    let line = fault_line c.args.failed.now.fault in
    let whole = starts (g.E.Write.contents c.args.errors.now) (unreplayed_text c.args.failed.now) in
    rest_puts _ c.put_why.result
    (goes_on _ line (why_line c.in-Some.why) whole (ap (with_why line) c.in-Some.is) c.in_ok-put_fault.ensures)
    c.put_why.ensures
