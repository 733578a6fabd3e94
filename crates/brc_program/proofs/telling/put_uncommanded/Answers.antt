use Rattle.std.proofs.Common.{◌++◌, codes, refl, [], ◌∷◌}
use Rattle.std.proofs.lemmas.Result.{err_from_is_err_and}
use Rattle.brc_text.proofs.PutLaws.{starts, goes_on, fails, rest_puts}
use Rattle.brc_program.specs.Unreads.{unread_line}
use Rattle.brc_program.proofs.telling.put_uncommanded.Goals as goal

pub returns-in_err-put_bytes : goal.returns-in_err-put_bytes
returns-in_err-put_bytes g c =
    let p = err_from_is_err_and c.from_residual.result c.from_residual.ensures.1 in
    let line = codes "brc: bad command line" ++ (10 ∷ []) in
    let behind = unread_line c.args.unread.now in
    let whole = starts (g.E.Write.contents c.args.errors.now) (line ++ behind) in
    rw (p.1, p.2) (
      c.in_err-put_bytes.ensures.0,
      c.in_err-put_bytes.ensures.1 ++ behind,
      fails line behind whole refl c.in_err-put_bytes.ensures.2,
    )

pub returns : goal.returns
returns g c =
    let line = codes "brc: bad command line" ++ (10 ∷ []) in
    let behind = unread_line c.args.unread.now in
    let whole = starts (g.E.Write.contents c.args.errors.now) (line ++ behind) in
    rest_puts _ c.put_unread.result (goes_on _ line behind whole refl c.in_ok-put_bytes.ensures) c.put_unread.ensures
