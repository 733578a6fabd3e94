use Rattle.std.proofs.Common.{◌≡◌, ◌∙◌, ◌≤◌, length, get_or, drop, ap, sym, subst, arith}
use Rattle.std.proofs.lemmas.List.{take_rest}
use Rattle.brc_text.specs.Keywords.{keyword, keyword_at, candidates_at}
use Rattle.brc_text.specs.Words.{Begins}
use Rattle.brc_text.proofs.NumberLaws.{no_longer_none}
use Rattle.brc_text.proofs.KeywordLaws.{are_bytes, sought_found, found_begins, found_within, behind_keyword}
use Rattle.brc_text.proofs.KeywordLaws.{no_first_word, same_some}
use Rattle.brc_text.proofs.keyword.keyword_ahead.Goals as goal

pub returns-in_default-clause-only : goal.returns-in_default-clause-only
returns-in_default-clause-only c word rest k whole ends spells =
    omega (arith, no_first_word c.args.text.now word rest k whole spells, c.in_default.len_below)

within : (c : goal.After-text) → length c.text.result.now ≤ length c.args.text.now
within c =
    let bytes = are_bytes c.args.text.now (λ i. (c.type_inv.text i).fits) in
    let within = found_within c.args.text.now (candidates_at (get_or c.args.text.now 0 0)) c.in-Some.word bytes
    (sym c.sought_by.ensures ∙ c.in-Some.is) in
    omega (arith, within, ap length c.text.ensures)

pub slice_bounds-result-count : goal.slice_bounds-result-count
slice_bounds-result-count c = within c

pub slice_bounds-result-start : goal.slice_bounds-result-start
slice_bounds-result-start c = within c

pub returns-in-Some-clause-found : goal.returns-in-Some-clause-found
returns-in-Some-clause-found c =
    let bytes = are_bytes c.args.text.now (λ i. (c.type_inv.text i).fits) in
    let begins = found_begins c.args.text.now (candidates_at (get_or c.args.text.now 0 0)) c.in-Some.word bytes
    (sym c.sought_by.ensures ∙ c.in-Some.is) in
    let behind = take_rest c.args.text.now (length c.text.result.now)
    ∙ ap (λ l. drop (length l) c.args.text.now) c.text.ensures in
    subst (Begins keyword_at c.args.text.now c.in-Some.word) (sym behind) begins

pub returns-in-Some-clause-only : goal.returns-in-Some-clause-only
returns-in-Some-clause-only c word rest k whole ends spells =
    let bytes = are_bytes c.args.text.now (λ i. (c.type_inv.text i).fits) in
    let same : c.in-Some.word ≡ k = same_some (sym c.in-Some.is ∙ c.sought_by.ensures
    ∙ sought_found c.args.text.now word rest k bytes whole ends spells) in
    let behind = take_rest c.args.text.now (length c.text.result.now)
    ∙ ap (λ l. drop (length l) c.args.text.now) c.text.ensures in (
      same,
      behind ∙ ap (λ word. drop (length (keyword word)) c.args.text.now) same
          ∙ behind_keyword c.args.text.now word rest k whole spells,
    )

pub returns-in-None-clause-only : goal.returns-in-None-clause-only
returns-in-None-clause-only c word rest k whole ends spells =
    let bytes = are_bytes c.args.text.now (λ i. (c.type_inv.text i).fits) in
    no_longer_none _ _ (sought_found c.args.text.now word rest k bytes whole ends spells) (sym c.sought_by.ensures
    ∙ c.in-None.is)
