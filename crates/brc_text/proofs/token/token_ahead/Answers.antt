use Rattle.std.proofs.Common.{◌∙◌, ℕ, ap, sym}
use Rattle.brc_text.specs.declared.token.Token.TheVariants as tokens
use Rattle.brc_text.proofs.TokenLaws.{number_begins_token, place_found, keyword_begins_token, number_first}
use Rattle.brc_text.proofs.TokenLaws.{place_second, keyword_else}
use Rattle.brc_text.proofs.token.token_ahead.Goals as goal

pub returns-in-Some-clause-found : goal.returns-in-Some-clause-found
returns-in-Some-clause-found c = number_begins_token c.args.text.now c.in-Some.rest.now c.in-Some.number
    c.in-Some.ensures.found

pub returns-in-Some-clause-only : goal.returns-in-Some-clause-only
returns-in-Some-clause-only c word rest t whole ends reads =
    let is = number_first c.args.text.now word rest t whole reads (sym c.has_digit.ensures ∙ c.if-has_digit.true) in
    let found = c.in-Some.ensures.only word rest is.0 whole ends is.1 in
    (ap (λ (n : ℕ). tokens.Number n) found.0 ∙ is.2, found.1)

pub returns-in-None-clause-only : goal.returns-in-None-clause-only
returns-in-None-clause-only c word rest t whole ends reads =
    let is = number_first c.args.text.now word rest t whole reads (sym c.has_digit.ensures ∙ c.if-has_digit.true) in
    c.in-None.ensures.only word rest is.0 whole ends is.1

pub returns-then-has_digit-2-clause-found : goal.returns-then-has_digit-2-clause-found
returns-then-has_digit-2-clause-found c = place_found c.place_ahead.result (λ b. b.now) c.args.text.now
    c.place_ahead.ensures.found

pub returns-then-has_digit-2-clause-only : goal.returns-then-has_digit-2-clause-only
returns-then-has_digit-2-clause-only c word rest t whole ends reads =
    c.place_ahead.ensures.only word rest t whole ends
    (place_second c.args.text.now word rest t whole ends reads (sym c.has_digit.ensures ∙ c.if-has_digit.false)
    (sym c.has_digit-else-has_digit.ensures ∙ c.if-has_digit-2.true))

pub returns-in-Some-keyword_ahead-clause-found : goal.returns-in-Some-keyword_ahead-clause-found
returns-in-Some-keyword_ahead-clause-found c =
    keyword_begins_token c.args.text.now c.in-Some-keyword_ahead.rest.now c.in-Some-keyword_ahead.word
    c.in-Some-keyword_ahead.ensures.found

pub returns-in-Some-keyword_ahead-clause-only : goal.returns-in-Some-keyword_ahead-clause-only
returns-in-Some-keyword_ahead-clause-only c word rest t whole ends reads =
    let is = keyword_else c.args.text.now word rest t whole ends reads (sym c.has_digit.ensures ∙ c.if-has_digit.false)
    (sym c.has_digit-else-has_digit.ensures ∙ c.if-has_digit-2.false) in
    let found = c.in-Some-keyword_ahead.ensures.only word rest is.0 whole ends is.1 in
    (ap (λ k. tokens.Word k) found.0 ∙ is.2, found.1)

pub returns-in-None-keyword_ahead-clause-only : goal.returns-in-None-keyword_ahead-clause-only
returns-in-None-keyword_ahead-clause-only c word rest t whole ends reads =
    let is = keyword_else c.args.text.now word rest t whole ends reads (sym c.has_digit.ensures ∙ c.if-has_digit.false)
    (sym c.has_digit-else-has_digit.ensures ∙ c.if-has_digit-2.false) in
    c.in-None-keyword_ahead.ensures.only word rest is.0 whole ends is.1
