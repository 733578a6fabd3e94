use Rattle.std.proofs.Common.{◌≡◌, ◌∙◌, List, Some, ap, sym, subst}
use Rattle.brc_text.specs.declared.token.Token.{Token}
use Rattle.brc_text.specs.Lines.{first_line, lacks, tokens_at}
use Rattle.brc_text.proofs.LineLaws.{cut_parts}
use Rattle.brc_trace.proofs.CauseLaws.{no_words_there, words_cause}
use Rattle.brc_trace.proofs.causes.cause_of_line.Goals as goal

pub cause_of_no_words-requires-clause-feed : goal.cause_of_no_words-requires-clause-feed
cause_of_no_words-requires-clause-feed g c =
    ap (lacks 10) c.first_line.ensures.line ∙ (cut_parts 10 c.args.text.now).lack

pub cause_of_no_words-requires-clause-unread : goal.cause_of_no_words-requires-clause-unread
cause_of_no_words-requires-clause-unread g c =
    ap (tokens_at 8) c.first_line.ensures.line
    ∙ no_words_there c.args.text.now c.in-Some.field-0.now (rw c.in-Some.is at c.first_line.ensures.behind)
    c.in_default-read.ensures

pub returns : goal.returns
returns g c =
    words_cause c.args.edition c.cause_of_words.result c.args.number c.args.text.now c.in-Some.field-0.now
    c.in-Some-read.field-0.now c.tokens.result.now
    (rw c.in-Some.is at c.first_line.ensures.behind)
    (subst (λ (words : List Token). first_line 8 c.args.text.now ≡ Some (words, c.in-Some-read.field-0.now))
    (sym c.tokens.ensures) c.in-Some-read.ensures)
    c.cause_of_words.ensures
