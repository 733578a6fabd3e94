use Rattle.std.proofs.Common.{ℕ, List, ap, subst}
use Rattle.std.specs.Prelude.{nat_lt}
use Rattle.std.proofs.lemmas.Result.{err_from_is_err_and}
use Rattle.brc_trace.specs.Replaying.{IsReplayed, LeadsNowhere}
use Rattle.brc_trace.proofs.ReplayLaws.{carried, stopped, not_read, not_written}
use Rattle.brc_trace.proofs.replaying.run_replay.Goals as goal

pub returns-in_err-input : goal.returns-in_err-input
returns-in_err-input g c =
    let p = err_from_is_err_and c.from_residual.result c.from_residual.ensures.1 in
    rw (p.1, p.2) (not_read (g.R.Read.remaining c.args.reader) (g.W.Write.contents c.args.writer.now)
    c.in_err-input.field-0.0 c.in_err-input.ensures.refused)

pub returns-in_err-world : goal.returns-in_err-world
returns-in_err-world g c =
    let p = err_from_is_err_and c.from_residual-in_err-world.result c.from_residual-in_err-world.ensures.1 in
    rw (p.1, p.2) (
    stopped (g.R.Read.remaining c.args.reader) (g.W.Write.contents c.args.writer.now) c.in_ok-input.input.items
    c.in_err-world.field-0.0 c.in_ok-input.ensures.bytes
    (subst (λ (b : List ℕ). LeadsNowhere c.in_err-world.field-0.0 b) c.as_slice.ensures.value c.in_err-world.ensures)
    )

pub returns-in_err-write_world : goal.returns-in_err-write_world
returns-in_err-write_world g c =
    let p = err_from_is_err_and c.from_residual-in_err-write_world.result
    c.from_residual-in_err-write_world.ensures.1 in
    rw (p.1, p.2) (
    not_written (g.R.Read.remaining c.args.reader) (g.W.Write.contents c.args.writer.now)
    (g.W.Write.contents c.write_world.new.writer) c.in_ok-input.input.items
    c.in_err-write_world.ensures.1 c.in_ok-world.world c.in_err-write_world.field-0.0 c.in_ok-input.ensures.bytes
    (subst (λ (b : List ℕ). IsReplayed b c.in_ok-world.world) c.as_slice.ensures.value c.in_ok-world.ensures)
    c.in_err-write_world.ensures.0 c.in_err-write_world.ensures.2
    )

pub returns : goal.returns
returns g c = record {
  world = c.in_ok-world.world;
  replayed = carried (g.R.Read.remaining c.args.reader) c.in_ok-input.input.items c.in_ok-world.world
      c.in_ok-input.ensures.bytes
      (subst (λ (b : List ℕ). IsReplayed b c.in_ok-world.world) c.as_slice.ensures.value c.in_ok-world.ensures);
  written = c.in_ok-write_world.ensures;
  lives = ap (nat_lt 0) c.live.ensures.live;
}
