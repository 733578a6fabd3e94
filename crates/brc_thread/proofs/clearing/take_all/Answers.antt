use Rattle.std.proofs.Common.{refl, subst, ◌∙◌, Ok}
use Rattle.brc_count.proofs.Owning.{keeps_all, keeps_on}
use Rattle.brc_thread.specs.Clearing.{TakesGlobal, HandsSome, NoTake}
use Rattle.brc_thread.proofs.Takes.{take_keeps, took_on, same_cell_on}
use Rattle.brc_thread.proofs.clearing.take_all.Goals as goal

pub loop-init : goal.loop-init
loop-init g c = (keeps_all c.args.frame.now, c.requires.unlocked, refl, NoTake)

pub loop-preserved : goal.loop-preserved
loop-preserved g c =
    let was = c.loop.invariant in
    let k = c.args.handle.now.place in
    let given = c.in-Some.given in
    let takes = subst (λ o. TakesGlobal c.loop.frame c.take_last.new.frame k (Ok o)) c.in-Some.is
    c.in_ok-take_last.ensures.takes in
    let gains = subst (λ o. HandsSome c.loop.frame c.take_last.new.frame (Ok o)) c.in-Some.is
    c.in_ok-take_last.ensures.hands in
    let apart = gains.apart c.args.handle.now (was.0.owns c.args.handle.now c.requires.owned) in (
      keeps_on was.0 (take_keeps gains c.release.ensures.loses),
      c.release.ensures.unlocked,
      same_cell_on c.loop.frame c.take_last.new.frame c.release.new.self k given apart takes
          c.release.ensures.released ∙ was.2,
      took_on c.args.frame.now c.loop.frame c.take_last.new.frame c.release.new.self k c.loop.counter given was.3 takes
          c.release.ensures.released,
    )
