use Rattle.std.proofs.Common.{◌++◌, ◌∙◌, ap, sym, ℕ, List, [], ◌∷◌, rules}
use Rattle.std.proofs.lemmas.Result.{err_from_is_err_and}
use Rattle.brc_text.proofs.PutLaws.{starts, goes_on, fails, rest_puts}
use Rattle.brc_text.specs.Excerpts.{quoted}
use Rattle.brc_program.specs.Unreads.{behind_word, word_of, unread_line}
use Rattle.brc_program.proofs.unread.put_unread.Goals as goal

pub returns-in_err-put_bytes : goal.returns-in_err-put_bytes
returns-in_err-put_bytes g c =
    let p = err_from_is_err_and c.from_residual.result c.from_residual.ensures.1 in
    let unread = c.args.unread.now in
    let head = c.as_bytes.result.now in
    let rest = quoted (word_of unread) ++ (behind_word unread ++ (10 ∷ [])) in
    let whole = starts (g.E.Write.contents c.args.errors.now) (unread_line unread) in
    let is = ap (λ (l : List ℕ). l ++ rest) (sym (c.as_bytes.ensures.value ∙ c.before_word.ensures)) in
    rw (p.1, p.2) (
      c.in_err-put_bytes.ensures.0,
      c.in_err-put_bytes.ensures.1 ++ rest,
      fails head rest whole is c.in_err-put_bytes.ensures.2,
    )

pub returns-in_err-put_quoted : goal.returns-in_err-put_quoted
returns-in_err-put_quoted g c =
    let residual = c.from_residual-in_err-put_quoted in
    let p = err_from_is_err_and residual.result residual.ensures.1 in
    let unread = c.args.unread.now in
    let head = c.as_bytes.result.now in
    let last = behind_word unread ++ (10 ∷ []) in
    let rest = quoted (word_of unread) ++ last in
    let whole = starts (g.E.Write.contents c.args.errors.now) (unread_line unread) in
    let is = ap (λ (l : List ℕ). l ++ rest) (sym (c.as_bytes.ensures.value ∙ c.before_word.ensures)) in
    let begun = goes_on _ head rest whole is c.in_ok-put_bytes.ensures in
    let word = quoted c.word_of.result.now in
    let is_word = ap (λ (l : List ℕ). quoted l ++ last) (sym c.word_of.ensures) in
    rw (p.1, p.2) (
      c.in_err-put_quoted.ensures.0,
      c.in_err-put_quoted.ensures.1 ++ last,
      fails word last begun is_word c.in_err-put_quoted.ensures.2,
    )

pub returns : goal.returns
returns g c =
    let unread = c.args.unread.now in
    let head = c.as_bytes.result.now in
    let last = behind_word unread ++ (10 ∷ []) in
    let rest = quoted (word_of unread) ++ last in
    let whole = starts (g.E.Write.contents c.args.errors.now) (unread_line unread) in
    let is = ap (λ (l : List ℕ). l ++ rest) (sym (c.as_bytes.ensures.value ∙ c.before_word.ensures)) in
    let begun = goes_on _ head rest whole is c.in_ok-put_bytes.ensures in
    let word = quoted c.word_of.result.now in
    let is_word = ap (λ (l : List ℕ). quoted l ++ last) (sym c.word_of.ensures) in
    let more = goes_on _ word last begun is_word c.in_ok-put_quoted.ensures in
    rest_puts _ c.put_parts.result more (search rules)
