use Rattle.std.proofs.Common.{◌++◌, codes, refl}
use Rattle.std.proofs.lemmas.Result.{err_from_is_err_and}
use Rattle.brc_text.proofs.PutLaws.{starts, goes_on, fails, rest_puts}
use Rattle.brc_program.specs.Errors.{bad_line, mistake_line}
use Rattle.brc_program.proofs.telling.put_unscripted.Goals as goal

pub returns-in_err-put_bad_line : goal.returns-in_err-put_bad_line
returns-in_err-put_bad_line g c =
    let p = err_from_is_err_and c.from_residual.result c.from_residual.ensures.1 in
    let line = bad_line c.args.line (codes "a script line") in
    let behind = mistake_line c.args.mistake.now in
    let whole = starts (g.E.Write.contents c.args.errors.now) (line ++ behind) in
    rw (p.1, p.2) (
      c.in_err-put_bad_line.ensures.0,
      c.in_err-put_bad_line.ensures.1 ++ behind,
      fails line behind whole refl c.in_err-put_bad_line.ensures.2,
    )

pub returns : goal.returns
returns g c =
    let line = bad_line c.args.line (codes "a script line") in
    let behind = mistake_line c.args.mistake.now in
    let whole = starts (g.E.Write.contents c.args.errors.now) (line ++ behind) in
    rest_puts _ c.put_mistake_line.result (goes_on _ line behind whole refl c.in_ok-put_bad_line.ensures)
    c.put_mistake_line.ensures
