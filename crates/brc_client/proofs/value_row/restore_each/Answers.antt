use Rattle.brc_client.proofs.Marking.{scalar_unnumbered, restores_past, restores_more}
use Rattle.brc_client.proofs.value_row.restore_each.Goals.{in-Object, in_default}
use Rattle.brc_client.proofs.value_row.restore_each.Goals as goal

pub loop-at-preserved : goal.loop-at-preserved
loop-at-preserved g c = elim c.match-item.branch [
  | in-Object w ↦ rw w.numbers-is
      (restores_more (g.S.ValueRow.items c.args.values.now) c.loop-at.at w.in-Object.number c.args.numbers.now c.loop-at.numbers
      w.restore.new.self c.loop-at.invariant (w.in-Object._note, w.in-Object.ensures)
      w.restore.ensures.stamp w.restore.ensures.of w.restore.ensures.uses w.restore.ensures.counted)
  | in_default w ↦ rw w.numbers-is
      (restores_past (g.S.ValueRow.items c.args.values.now) c.loop-at.at c.args.numbers.now c.loop-at.numbers c.loop-at.invariant
      (scalar_unnumbered (g.S.ValueRow.items c.args.values.now) c.loop-at.at w.in_default.field-0 w.in_default.ensures))
]
