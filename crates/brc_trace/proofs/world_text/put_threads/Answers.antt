use Rattle.std.proofs.Common.{refl, arith, ◌+◌, ◌-◌, length}
use Rattle.std.proofs.lemmas.Result.{err_from_is_err_and}
use Rattle.brc_trace.specs.Worlds.{thread_text}
use Rattle.brc_trace.proofs.WorldLaws.{turns_begin, turn_puts, turn_fails, turns_end}
use Rattle.brc_trace.proofs.world_text.put_threads.Goals as goal

pub loop-before-init : goal.loop-before-init
loop-before-init g c =
    turns_begin (g.W.Write.contents c.args.writer.now) (thread_text c.args.world.now) (1)
    (length c.args.world.now.rows - 1)

pub returns-in_err-put_thread : goal.returns-in_err-put_thread
returns-in_err-put_thread g c =
    let p = err_from_is_err_and c.from_residual.result c.from_residual.ensures.1 in
    let short = turn_fails (thread_text c.args.world.now (c.loop-before.before + 1)) c.loop-before.invariant
    (omega (arith, c.loop-before-test.true, c.registered-before-end.ensures)) (refl) c.in_err-put_thread.ensures.2 in
    rw (p.1, p.2) (c.in_err-put_thread.ensures.0, short.0, short.1)

pub loop-before-preserved : goal.loop-before-preserved
loop-before-preserved g c =
    turn_puts _ (thread_text c.args.world.now (c.loop-before.before + 1)) c.loop-before.invariant
    (omega (arith, c.loop-before-test.true, c.registered-before-end.ensures)) (refl) c.in_ok-put_thread.ensures

pub returns : goal.returns
returns g c = turns_end c.loop-before.invariant
    (omega (arith, c.loop-before-test.false, c.registered-before-end.ensures))
