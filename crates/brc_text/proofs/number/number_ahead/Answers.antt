use Rattle.std.proofs.Common.{◌≡◌, ◌∙◌, ◌<◌, ◌+◌, ◌*◌, ◌-◌, ◌^◌, ℕ, true≢false, get_or, ap, sym, subst, arith, inl, inr}
use Rattle.std.proofs.lemmas.Bool.{cases_lt, eqb-true, eq-eqb, and_parts, and_from}
use Rattle.std.proofs.lemmas.List.{take_rest, drop_all}
use Rattle.brc_text.specs.Numbers.{number_at}
use Rattle.brc_text.specs.Words.{Begins}
use Rattle.brc_text.proofs.NumberLaws.{HasRead, IsAhead, digit_in, digit_out, digit_again, digit_ahead, some_read}
use Rattle.brc_text.proofs.NumberLaws.{no_zero_ahead, one_more, not_too_large, number_found, number_begins}
use Rattle.brc_text.proofs.number.number_ahead.Goals as goal
use Rattle.brc_text.proofs.number.number_ahead.Goals.{then-not-has_digit-via-then-not-has_digit}
use Rattle.brc_text.proofs.number.number_ahead.Goals.{then-not-has_digit-via-else-not-has_digit+then-has_leading_zero}

pub returns-then-not-has_digit-clause-only : goal.returns-then-not-has_digit-clause-only
returns-then-not-has_digit-clause-only c word rest n whole ends spells =
    let is : IsAhead c.args.text.now word rest n = record { whole = whole; ends = ends; spells = spells } in
    elim c.then-not-has_digit.branch [
      | then-not-has_digit-via-then-not-has_digit w ↦
          digit_out _ (sym c.has_digit.ensures ∙ w.if-not-has_digit.true) (digit_ahead c.args.text.now word rest n is)
      | then-not-has_digit-via-else-not-has_digit+then-has_leading_zero w ↦
          let both = and_parts _ _ (sym w.has_leading_zero.ensures ∙ w.if-has_leading_zero.true) in
          no_zero_ahead c.args.text.now word rest n is (eqb-true _ _ both.0) (digit_in _ both.1)
    ]

pub returns-then-not-is_ascii_digit-clause-found : goal.returns-then-not-is_ascii_digit-clause-found
returns-then-not-is_ascii_digit-clause-found c =
    let first = digit_in _ (sym c.has_digit.ensures ∙ c.if-not-has_digit.false) in
    let some = some_read c.args.text.now c.loop-at.at first
    (λ within. digit_out _ (sym c.is_ascii_digit.ensures.value ∙ c.if-not-is_ascii_digit.true)) in
    subst (Begins number_at c.args.text.now c.loop-at.number) (sym (take_rest c.args.text.now c.loop-at.at))
    (number_begins c.args.text.now c.loop-at.at c.loop-at.number some (omega (arith, c.loop-at-test.true))
    c.loop-at.invariant
    (λ zero_first second. true≢false (sym (and_from _ _ (eq-eqb _ _ zero_first) (digit_again _ second))
    ∙ sym c.has_leading_zero.ensures ∙ c.if-has_leading_zero.false)))

pub returns-then-not-is_ascii_digit-clause-only : goal.returns-then-not-is_ascii_digit-clause-only
returns-then-not-is_ascii_digit-clause-only c word rest n whole ends spells =
    let is : IsAhead c.args.text.now word rest n = record { whole = whole; ends = ends; spells = spells } in
    let found = number_found c.args.text.now word rest n c.loop-at.at c.loop-at.number is c.loop-at.invariant
    (omega (arith, c.loop-at-test.true))
    (λ within. digit_out _ (sym c.is_ascii_digit.ensures.value ∙ c.if-not-is_ascii_digit.true)) in
    (found.same, take_rest c.args.text.now c.loop-at.at ∙ found.behind)

pub returns-in_default-clause-only : goal.returns-in_default-clause-only
returns-in_default-clause-only c word rest n whole ends spells =
    let is : IsAhead c.args.text.now word rest n = record { whole = whole; ends = ends; spells = spells } in
    not_too_large c.args.text.now word rest n c.loop-at.at c.loop-at.number is c.loop-at.invariant c.loop-at-test.true
    (digit_in _ (sym c.is_ascii_digit.ensures.value ∙ c.if-not-is_ascii_digit.false))
    (elim (cases_lt (c.loop-at.number * 10) (2 ^ 64)) [
      | inl lt ↦ absurd (c.in_default.ensures lt)
      | inr le ↦ omega (arith, le)
    ])

pub returns-in_default-checked_add-clause-only : goal.returns-in_default-checked_add-clause-only
returns-in_default-checked_add-clause-only c word rest n whole ends spells =
    let is : IsAhead c.args.text.now word rest n = record { whole = whole; ends = ends; spells = spells } in
    not_too_large c.args.text.now word rest n c.loop-at.at c.loop-at.number is c.loop-at.invariant c.loop-at-test.true
    (digit_in _ (sym c.is_ascii_digit.ensures.value ∙ c.if-not-is_ascii_digit.false))
    (elim (cases_lt (c.loop-at.number * 10 + (get_or c.args.text.now c.loop-at.at 0 - 48)) (2 ^ 64)) [
      | inl lt ↦ absurd (c.in_default-checked_add.ensures
          (subst (λ (n : ℕ). n + (get_or c.args.text.now c.loop-at.at 0 - 48) < 2 ^ 64) (sym c.in-Some.ensures.1) lt))
      | inr le ↦ le
    ])

pub loop-at-preserved : goal.loop-at-preserved
loop-at-preserved c =
    let digit = c.loop-at.number in
    let more : c.in-Some-checked_add.more ≡ c.loop-at.number * 10 + (get_or c.args.text.now c.loop-at.at 0 - 48) =
    c.in-Some-checked_add.ensures.1 ∙ ap (λ (n : ℕ). n + (get_or c.args.text.now c.loop-at.at 0 - 48))
    c.in-Some.ensures.1 in
    subst (HasRead c.args.text.now (c.loop-at.at + 1)) (sym more)
    (one_more c.args.text.now c.loop-at.at c.loop-at.number c.loop-at-test.true c.loop-at.invariant
    (digit_in _ (sym c.is_ascii_digit.ensures.value ∙ c.if-not-is_ascii_digit.false))
    (subst (λ (n : ℕ). n + (get_or c.args.text.now c.loop-at.at 0 - 48) < 2 ^ 64) c.in-Some.ensures.1
    c.in-Some-checked_add.ensures.0))

pub returns-clause-found : goal.returns-clause-found
returns-clause-found c =
    let first = digit_in _ (sym c.has_digit.ensures ∙ c.if-not-has_digit.false) in
    let some = some_read c.args.text.now c.loop-at.at first
    (λ within. absurd (omega (arith, within, c.loop-at-test.false))) in
    subst (Begins number_at c.args.text.now c.loop-at.number)
    (drop_all c.loop-at.at c.args.text.now (omega (arith, c.loop-at-test.false)))
    (number_begins c.args.text.now c.loop-at.at c.loop-at.number some (omega (arith, c.loop-at.auto.at-end))
    c.loop-at.invariant
    (λ zero_first second. true≢false (sym (and_from _ _ (eq-eqb _ _ zero_first) (digit_again _ second))
    ∙ sym c.has_leading_zero.ensures ∙ c.if-has_leading_zero.false)))

pub returns-clause-only : goal.returns-clause-only
returns-clause-only c word rest n whole ends spells =
    let is : IsAhead c.args.text.now word rest n = record { whole = whole; ends = ends; spells = spells } in
    let found = number_found c.args.text.now word rest n c.loop-at.at c.loop-at.number is c.loop-at.invariant
    (omega (arith, c.loop-at.auto.at-end))
    (λ within. absurd (omega (arith, within, c.loop-at-test.false))) in
    (found.same, sym (drop_all c.loop-at.at c.args.text.now (omega (arith, c.loop-at-test.false))) ∙ found.behind)
