use Rattle.std.proofs.Common.{ℕ, List, [], ◌∷◌, ◌++◌, refl, codes}
use Rattle.std.proofs.lemmas.Result.{err_from_is_err_and}
use Rattle.brc_text.specs.Excerpts.{quoted}
use Rattle.brc_text.proofs.PutLaws.{starts, goes_on, fails, rest_puts}
use Rattle.brc_program.proofs.explanations.put_unknown_word.Goals as goal

abbrev before : List ℕ
before = codes "brc: why: no trace has the word "

abbrev behind : List ℕ → List ℕ
behind word = quoted word ++ (10 ∷ [])

pub returns-in_err-put_bytes : goal.returns-in_err-put_bytes
returns-in_err-put_bytes g c =
    let p = err_from_is_err_and c.from_residual.result c.from_residual.ensures.1 in
    let word = c.args.word.now in
    rw (p.1, p.2) (
      c.in_err-put_bytes.ensures.0,
      c.in_err-put_bytes.ensures.1 ++ behind word,
      fails before (behind word) (starts (g.E.Write.contents c.args.errors.now) (before ++ behind word)) refl
          c.in_err-put_bytes.ensures.2,
    )

pub returns-in_err-put_quoted : goal.returns-in_err-put_quoted
returns-in_err-put_quoted g c =
    let p = err_from_is_err_and c.from_residual-in_err-put_quoted.result c.from_residual-in_err-put_quoted.ensures.1 in
    let word = c.args.word.now in
    let first = goes_on _ before (behind word) (starts (g.E.Write.contents c.args.errors.now) (before ++ behind word))
    refl c.in_ok-put_bytes.ensures in
    rw (p.1, p.2) (
      c.in_err-put_quoted.ensures.0,
      c.in_err-put_quoted.ensures.1 ++ (10 ∷ []),
      fails (quoted word) (10 ∷ []) first refl c.in_err-put_quoted.ensures.2,
    )

pub returns : goal.returns
returns g c =
    let word = c.args.word.now in
    let first = goes_on _ before (behind word) (starts (g.E.Write.contents c.args.errors.now) (before ++ behind word))
    refl c.in_ok-put_bytes.ensures in
    rest_puts _ c.put_bytes-2.result (goes_on _ (quoted word) (10 ∷ []) first refl c.in_ok-put_quoted.ensures)
    c.put_bytes-2.ensures
