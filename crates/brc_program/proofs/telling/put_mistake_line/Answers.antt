use Rattle.std.proofs.Common.{◌++◌, codes, refl, [], ◌∷◌}
use Rattle.std.proofs.lemmas.Result.{err_from_is_err_and}
use Rattle.brc_text.proofs.PutLaws.{starts, goes_on, fails, rest_puts}
use Rattle.brc_mistakes.specs.Texts.{mistake_text}
use Rattle.brc_program.proofs.telling.put_mistake_line.Goals as goal

pub returns-in_err-put_bytes : goal.returns-in_err-put_bytes
returns-in_err-put_bytes g c =
    let p = err_from_is_err_and c.from_residual.result c.from_residual.ensures.1 in
    let head = codes "brc: why: " in
    let behind = mistake_text c.args.mistake.now ++ (10 ∷ []) in
    let whole = starts (g.E.Write.contents c.args.errors.now) (head ++ behind) in
    rw (p.1, p.2) (
      c.in_err-put_bytes.ensures.0,
      c.in_err-put_bytes.ensures.1 ++ behind,
      fails head behind whole refl c.in_err-put_bytes.ensures.2,
    )

pub returns-in_err-put_mistake : goal.returns-in_err-put_mistake
returns-in_err-put_mistake g c =
    let residual = c.from_residual-in_err-put_mistake in
    let p = err_from_is_err_and residual.result residual.ensures.1 in
    let head = codes "brc: why: " in
    let text = mistake_text c.args.mistake.now in
    let whole = starts (g.E.Write.contents c.args.errors.now) (head ++ (text ++ (10 ∷ []))) in
    let begun = goes_on _ head (text ++ (10 ∷ [])) whole refl c.in_ok-put_bytes.ensures in
    rw (p.1, p.2) (
      c.in_err-put_mistake.ensures.0,
      c.in_err-put_mistake.ensures.1 ++ (10 ∷ []),
      fails text (10 ∷ []) begun refl c.in_err-put_mistake.ensures.2,
    )

pub returns : goal.returns
returns g c =
    let head = codes "brc: why: " in
    let text = mistake_text c.args.mistake.now in
    let whole = starts (g.E.Write.contents c.args.errors.now) (head ++ (text ++ (10 ∷ []))) in
    let begun = goes_on _ head (text ++ (10 ∷ [])) whole refl c.in_ok-put_bytes.ensures in
    rest_puts _ c.put_bytes-2.result (goes_on _ text (10 ∷ []) begun refl c.in_ok-put_mistake.ensures)
    c.put_bytes-2.ensures
