use Rattle.std.proofs.Common.{arith, true}
use Rattle.std.proofs.lemmas.Bool.{true≢false}
use Rattle.brc_client.proofs.Marking.{scalar_unnumbered, named_past, named_more, all_named, all_apart}
use Rattle.brc_client.proofs.value_row.are_named.Goals.{in-Object+in_ok-_handle+then-not-widen, in-Object+in_ok-_handle+else-not-widen, in_default}
use Rattle.brc_client.proofs.value_row.are_named.Goals as goal

pub loop-at-preserved : goal.loop-at-preserved
loop-at-preserved g c = elim c.match-item.branch [
  | in-Object+in_ok-_handle+then-not-widen w ↦ rw (w.met-is, w.unsure-is)
      (named_more c.args.handles.now c.args.numbers.now (g.S.ValueRow.items c.args.values.now) c.loop-at.at w.in-Object.number
      c.loop-at.met w.widen.new.self c.loop-at.unsure true w.widen.result c.loop-at.invariant
      (w.in-Object._note, w.in-Object.ensures) (w.in_ok-_handle._handle.now, w.in_ok-_handle.ensures.named)
      w.widen.ensures.widened (λ off. absurd (true≢false off)))
  | in-Object+in_ok-_handle+else-not-widen w ↦ rw (w.met-is, w.unsure-is)
      (named_more c.args.handles.now c.args.numbers.now (g.S.ValueRow.items c.args.values.now) c.loop-at.at w.in-Object.number
      c.loop-at.met w.widen.new.self c.loop-at.unsure c.loop-at.unsure w.widen.result c.loop-at.invariant
      (w.in-Object._note, w.in-Object.ensures) (w.in_ok-_handle._handle.now, w.in_ok-_handle.ensures.named)
      w.widen.ensures.widened (λ off. (off, w.if-not-widen.false)))
  | in_default w ↦ rw (w.met-is, w.unsure-is)
      (named_past c.args.handles.now c.args.numbers.now (g.S.ValueRow.items c.args.values.now) c.loop-at.at
      c.loop-at.met c.loop-at.unsure c.loop-at.invariant
      (scalar_unnumbered (g.S.ValueRow.items c.args.values.now) c.loop-at.at w.in_default.field-0 w.in_default.ensures))
]

pub returns-clause-named : goal.returns-clause-named
returns-clause-named g c = all_named c.args.handles.now c.args.numbers.now (g.S.ValueRow.items c.args.values.now) c.loop-at.at
    c.loop-at.met c.loop-at.unsure c.loop-at.invariant
    (omega (arith, c.loop-at-test.false, c.loop-at.auto.at-end, c.len-at-end.ensures))

pub returns-clause-apart : goal.returns-clause-apart
returns-clause-apart g c = all_apart c.args.handles.now c.args.numbers.now (g.S.ValueRow.items c.args.values.now) c.loop-at.at
    c.loop-at.met c.loop-at.unsure c.loop-at.invariant
    (omega (arith, c.loop-at-test.false, c.loop-at.auto.at-end, c.len-at-end.ensures))
