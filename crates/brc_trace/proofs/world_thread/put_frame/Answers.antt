use Rattle.std.proofs.Common.{sym, ap, arith, length}
use Rattle.std.proofs.lemmas.Result.{err_from_is_err_and}
use Rattle.law.specs.world.Heap.{frame_at}
use Rattle.brc_text.specs.declared.keyword.Keyword.TheVariants as words
use Rattle.brc_trace.specs.Worlds.{frame_text, place_text}
use Rattle.brc_trace.proofs.WorldLaws.{turns_begin, turn_puts, turn_fails, turns_end}
use Rattle.brc_trace.proofs.world_thread.put_frame.Goals as goal

pub loop-place-init : goal.loop-place-init
loop-place-init g c =
    turns_begin (g.W.Write.contents c.args.writer.now) (frame_text c.args.world.now c.args.thread) (0)
    (length (frame_at c.args.world.now c.args.thread))

pub returns-in_err-put_place : goal.returns-in_err-put_place
returns-in_err-put_place g c =
    let p = err_from_is_err_and c.from_residual.result c.from_residual.ensures.1 in
    let short = turn_fails (place_text words.Frame c.args.thread c.loop-place.place c.place.result)
    c.loop-place.invariant (omega (arith, c.loop-place-test.true, c.places-place-end.ensures))
    (ap (place_text words.Frame c.args.thread c.loop-place.place) (sym c.place.ensures)) c.in_err-put_place.ensures.2 in
    rw (p.1, p.2) (c.in_err-put_place.ensures.0, short.0, short.1)

pub loop-place-preserved : goal.loop-place-preserved
loop-place-preserved g c =
    turn_puts _ (place_text words.Frame c.args.thread c.loop-place.place c.place.result) c.loop-place.invariant
    (omega (arith, c.loop-place-test.true, c.places-place-end.ensures))
    (ap (place_text words.Frame c.args.thread c.loop-place.place) (sym c.place.ensures)) c.in_ok-put_place.ensures

pub returns : goal.returns
returns g c = turns_end c.loop-place.invariant (omega (arith, c.loop-place-test.false, c.places-place-end.ensures))
