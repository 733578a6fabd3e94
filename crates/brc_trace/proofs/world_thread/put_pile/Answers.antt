use Rattle.std.proofs.Common.{◌∙◌, refl, sym, arith, length}
use Rattle.std.proofs.lemmas.Result.{err_from_is_err_and}
use Rattle.brc_trace.specs.Worlds.{lying_text}
use Rattle.brc_trace.proofs.WorldLaws.{empty_pile, nothing_puts, turns_begin, turn_puts, turn_fails, turns_end}
use Rattle.brc_trace.proofs.world_thread.put_pile.Goals as goal

pub returns-then-is_empty_pile : goal.returns-then-is_empty_pile
returns-then-is_empty_pile g c =
    let empty = empty_pile c.args.world.now c.args.thread c.args.pile (sym c.is_empty_pile.ensures
    ∙ c.if-is_empty_pile.true) in
    nothing_puts (g.W.Write.contents c.args.writer.now) empty

pub loop-cell-init : goal.loop-cell-init
loop-cell-init g c =
    turns_begin (g.W.Write.contents c.args.writer.now) (lying_text c.args.world.now c.args.thread c.args.pile) (0)
    (length c.args.world.now.cells)

pub returns-in_err-put_lying : goal.returns-in_err-put_lying
returns-in_err-put_lying g c =
    let p = err_from_is_err_and c.from_residual.result c.from_residual.ensures.1 in
    let short = turn_fails (lying_text c.args.world.now c.args.thread c.args.pile c.loop-cell.cell)
    c.loop-cell.invariant (omega (arith, c.loop-cell-test.true, c.cells-cell-end.ensures))
    (refl) c.in_err-put_lying.ensures.2 in
    rw (p.1, p.2) (c.in_err-put_lying.ensures.0, short.0, short.1)

pub loop-cell-preserved : goal.loop-cell-preserved
loop-cell-preserved g c =
    turn_puts _ (lying_text c.args.world.now c.args.thread c.args.pile c.loop-cell.cell) c.loop-cell.invariant
    (omega (arith, c.loop-cell-test.true, c.cells-cell-end.ensures)) (refl) c.in_ok-put_lying.ensures

pub returns : goal.returns
returns g c = turns_end c.loop-cell.invariant (omega (arith, c.loop-cell-test.false, c.cells-cell-end.ensures))
