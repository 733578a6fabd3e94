use Rattle.std.proofs.Common.{refl, arith, length}
use Rattle.std.proofs.lemmas.Result.{err_from_is_err_and}
use Rattle.brc_trace.specs.Worlds.{entry_line}
use Rattle.brc_trace.proofs.WorldLaws.{turns_begin, turn_puts, turn_fails, turns_end}
use Rattle.brc_trace.proofs.world_text.put_list.Goals as goal

pub loop-index-init : goal.loop-index-init
loop-index-init g c =
    turns_begin (g.W.Write.contents c.args.writer.now) (entry_line c.args.cell c.args.entries.now) (0)
    (length c.args.entries.now)

pub returns-in_err-put_line : goal.returns-in_err-put_line
returns-in_err-put_line g c =
    let p = err_from_is_err_and c.from_residual.result c.from_residual.ensures.1 in
    let short = turn_fails (entry_line c.args.cell c.args.entries.now c.loop-index.index) c.loop-index.invariant
    (omega (arith, c.loop-index-test.true)) (refl) c.in_err-put_line.ensures.2 in
    rw (p.1, p.2) (c.in_err-put_line.ensures.0, short.0, short.1)

pub loop-index-preserved : goal.loop-index-preserved
loop-index-preserved g c =
    turn_puts _ (entry_line c.args.cell c.args.entries.now c.loop-index.index) c.loop-index.invariant
    (omega (arith, c.loop-index-test.true)) (refl) c.in_ok-put_line.ensures

pub returns : goal.returns
returns g c = turns_end c.loop-index.invariant (omega (arith, c.loop-index-test.false))
