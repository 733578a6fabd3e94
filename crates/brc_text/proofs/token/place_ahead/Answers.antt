use Rattle.std.proofs.Common.{◌∙◌, ℕ, List, ap, sym, subst, arith}
use Rattle.std.proofs.lemmas.List.{take_rest}
use Rattle.brc_text.specs.declared.token.Token.TheVariants as tokens
use Rattle.brc_text.specs.Numbers.{number_at}
use Rattle.brc_text.specs.Words.{Begins}
use Rattle.brc_text.proofs.NumberLaws.{no_longer_none}
use Rattle.brc_text.proofs.KeywordLaws.{same_some}
use Rattle.brc_text.proofs.TokenLaws.{place_begins, place_parts}
use Rattle.brc_text.proofs.token.place_ahead.Goals as goal

pub returns-in_default-clause-only : goal.returns-in_default-clause-only
returns-in_default-clause-only c word rest t whole ends reads =
    let is = place_parts c.args.text.now word rest t whole reads in
    omega (arith, is.some, c.in_default.len_below)

pub returns-in_default-letter_of-clause-only : goal.returns-in_default-letter_of-clause-only
returns-in_default-letter_of-clause-only c word rest t whole ends reads =
    let is = place_parts c.args.text.now word rest t whole reads in
    no_longer_none _ _ is.first (sym c.in_default-letter_of.ensures)

pub returns-in-Some-number_ahead-clause-found : goal.returns-in-Some-number_ahead-clause-found
returns-in-Some-number_ahead-clause-found c =
    place_begins c.args.text.now c.in-Some-number_ahead.rest.now c.in-Some.letter c.in-Some-number_ahead.number
    c.in-len1-up.len_at_least (sym c.in-Some.ensures)
    (subst (λ (l : List ℕ). Begins number_at l c.in-Some-number_ahead.number c.in-Some-number_ahead.rest.now)
    (take_rest c.args.text.now 1) c.in-Some-number_ahead.ensures.found)

pub returns-in-Some-number_ahead-clause-only : goal.returns-in-Some-number_ahead-clause-only
returns-in-Some-number_ahead-clause-only c word rest t whole ends reads =
    let is = place_parts c.args.text.now word rest t whole reads in
    let found = c.in-Some-number_ahead.ensures.only is.digits_are rest is.number (take_rest c.args.text.now 1
    ∙ is.behind) ends is.reads in
    let letter = same_some (c.in-Some.ensures ∙ is.first) in (
      ap (λ l. tokens.Place l c.in-Some-number_ahead.number) letter
          ∙ ap (λ (n : ℕ). tokens.Place is.letter_is n) found.0
          ∙ is.is,
      found.1,
    )

pub returns-in-None-clause-only : goal.returns-in-None-clause-only
returns-in-None-clause-only c word rest t whole ends reads =
    let is = place_parts c.args.text.now word rest t whole reads in
    c.in-None.ensures.only is.digits_are rest is.number (take_rest c.args.text.now 1 ∙ is.behind) ends is.reads
