use Rattle.std.proofs.Common.{rules, ◌≡◌, ◌-◌, ◌<◌, arith, subst}
use Rattle.brc_count.specs.Closing.{TurnsLeaving, NoTurn}
use Rattle.brc_count.proofs.Changes.{kept, kept_on}
use Rattle.brc_count.proofs.Leaving.{one_more_turn}
use Rattle.brc_count.proofs.closed.ClosedFrame.work.Goals as goal

pub loop-left-init : goal.loop-left-init
loop-left-init g c =
    let none : 0 ≡ c.args.budget - c.args.budget = omega arith in
    (omega arith, subst (λ m. TurnsLeaving c.args.self.now m c.args.self.now) none NoTurn, kept c.args.self.now)

pub loop-left-preserved : goal.loop-left-preserved
loop-left-preserved g c =
    let some : 0 < c.loop-left.left = search rules in (
      omega (arith, some, c.loop-left.invariant.0),
      one_more_turn c.args.self.now c.loop-left.self c.turn.new.self c.args.budget c.loop-left.left some
          c.loop-left.invariant.0 c.loop-left.invariant.1 (c.turn.ensures.turned (search rules)),
      kept_on c.loop-left.invariant.2 c.turn.ensures.keeps,
    )
