use Rattle.std.proofs.Common.{refl, arith, length}
use Rattle.std.proofs.lemmas.Result.{err_from_is_err_and}
use Rattle.brc_trace.specs.Worlds.{object_text}
use Rattle.brc_trace.proofs.WorldLaws.{turns_begin, turn_puts, turn_fails, turns_end}
use Rattle.brc_trace.proofs.world_text.put_objects.Goals as goal

pub loop-cell-init : goal.loop-cell-init
loop-cell-init g c =
    turns_begin (g.W.Write.contents c.args.writer.now) (object_text c.args.world.now) (0)
    (length c.args.world.now.cells)

pub returns-in_err-put_object : goal.returns-in_err-put_object
returns-in_err-put_object g c =
    let p = err_from_is_err_and c.from_residual.result c.from_residual.ensures.1 in
    let short = turn_fails (object_text c.args.world.now c.loop-cell.cell) c.loop-cell.invariant
    (omega (arith, c.loop-cell-test.true, c.cells-cell-end.ensures)) (refl) c.in_err-put_object.ensures.2 in
    rw (p.1, p.2) (c.in_err-put_object.ensures.0, short.0, short.1)

pub loop-cell-preserved : goal.loop-cell-preserved
loop-cell-preserved g c =
    turn_puts _ (object_text c.args.world.now c.loop-cell.cell) c.loop-cell.invariant
    (omega (arith, c.loop-cell-test.true, c.cells-cell-end.ensures)) (refl) c.in_ok-put_object.ensures

pub returns : goal.returns
returns g c = turns_end c.loop-cell.invariant (omega (arith, c.loop-cell-test.false, c.cells-cell-end.ensures))
