use Rattle.std.proofs.Common.{sym, ap, ◌∙◌}
use Rattle.brc_client.specs.Numbers.{uses_in}
use Rattle.brc_client.proofs.Marking.{scalar_unnumbered, marks_past, marks_more, marks_again}
use Rattle.brc_client.proofs.value_row.mark_each.Goals.{in-Object+else-number, in_default}
use Rattle.brc_client.proofs.value_row.mark_each.Goals as goal

pub returns-then-number-clause-again : goal.returns-then-number-clause-again
returns-then-number-clause-again g c below = marks_again (g.S.ValueRow.items c.args.values.now) c.loop-at.at c.in-Object.number
    c.args.numbers.now c.loop-at.numbers c.loop-at.invariant c.requires.spelled (c.in-Object._note, c.in-Object.ensures)
    (λ same. c.if-number.true (c.number.ensures.number ∙ same))

pub loop-at-preserved : goal.loop-at-preserved
loop-at-preserved g c = elim c.match-item.branch [
  | in-Object+else-number w ↦ rw w.numbers-is
      (marks_more (g.S.ValueRow.items c.args.values.now) c.loop-at.at w.in-Object.number c.args.numbers.now c.loop-at.numbers
      w.spend.new.self c.loop-at.invariant (w.in-Object._note, w.in-Object.ensures)
      (c.requires.spelled c.loop-at.at w.in-Object.number (w.in-Object._note, w.in-Object.ensures))
      (sym w.if-number.false ∙ w.number.ensures.number) (ap uses_in (sym w.if-number.false) ∙ w.number.ensures.uses)
      w.spend.ensures.stamp w.spend.ensures.of w.spend.ensures.uses w.spend.ensures.counted)
  | in_default w ↦ rw w.numbers-is
      (marks_past (g.S.ValueRow.items c.args.values.now) c.loop-at.at c.args.numbers.now c.loop-at.numbers c.loop-at.invariant
      (scalar_unnumbered (g.S.ValueRow.items c.args.values.now) c.loop-at.at w.in_default.field-0 w.in_default.ensures))
]
