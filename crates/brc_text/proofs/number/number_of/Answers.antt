use Rattle.std.proofs.Common.{◌∙◌, [], length, ap, sym, append-nil, arith}
use Rattle.std.proofs.lemmas.Bool.{eqb-true}
use Rattle.brc_text.proofs.NumberLaws.{above_zero, whole_number, no_whole_number, ends_nothing}
use Rattle.brc_text.proofs.number.number_of.Goals as goal

pub returns-in_default : goal.returns-in_default
returns-in_default c = sym
    (no_whole_number c.args.bytes.now (λ n spells. c.in_default.ensures.only c.args.bytes.now [] n
    (sym (append-nil c.args.bytes.now)) ends_nothing spells))

pub returns-then-is_empty : goal.returns-then-is_empty
returns-then-is_empty c =
    sym (whole_number c.args.bytes.now c.in-Some.rest.now c.in-Some.number c.in-Some.ensures.found
    (eqb-true _ _ (sym c.is_empty.ensures ∙ c.if-is_empty.true)))

pub returns-else-is_empty : goal.returns-else-is_empty
returns-else-is_empty c =
    sym (no_whole_number c.args.bytes.now (λ n spells.
    let same = (c.in-Some.ensures.only c.args.bytes.now [] n (sym (append-nil c.args.bytes.now)) ends_nothing
    spells).1 in
    omega (
      arith,
      ap length same,
      above_zero (length c.in-Some.rest.now) (sym c.is_empty.ensures
          ∙ c.if-is_empty.false),
    )))
