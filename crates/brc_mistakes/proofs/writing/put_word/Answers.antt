use Rattle.std.proofs.Common.{◌++◌, refl}
use Rattle.std.proofs.lemmas.Result.{err_from_is_err_and}
use Rattle.brc_text.proofs.PutLaws.{starts, goes_on, fails, rest_puts}
use Rattle.brc_text.specs.Parts.{joined}
use Rattle.brc_text.specs.Excerpts.{quoted}
use Rattle.brc_mistakes.proofs.writing.put_word.Goals as goal

pub returns-in_err-put_quoted : goal.returns-in_err-put_quoted
returns-in_err-put_quoted g c =
    let p = err_from_is_err_and c.from_residual.result c.from_residual.ensures.1 in
    let behind = joined c.args.parts.now in
    let whole = starts (g.W.Write.contents c.args.writer.now) (quoted c.args.word.now ++ behind) in
    rw (p.1, p.2) (
      c.in_err-put_quoted.ensures.0,
      c.in_err-put_quoted.ensures.1 ++ behind,
      fails (quoted c.args.word.now) behind whole refl c.in_err-put_quoted.ensures.2,
    )

pub returns : goal.returns
returns g c =
    let behind = joined c.args.parts.now in
    let whole = starts (g.W.Write.contents c.args.writer.now) (quoted c.args.word.now ++ behind) in
    rest_puts _ c.put_parts.result
    (goes_on _ (quoted c.args.word.now) behind whole refl c.in_ok-put_quoted.ensures)
    c.put_parts.ensures
