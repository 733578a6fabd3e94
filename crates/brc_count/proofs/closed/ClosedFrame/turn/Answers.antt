use Rattle.std.proofs.Common.{subst}
use Rattle.brc_count.specs.Frames.{FrameSeen}
use Rattle.brc_count.specs.Closing.{TurnedLeaving, EntryDealt, BlockTurned}
use Rattle.brc_count.proofs.closed.ClosedFrame.turn.Goals as goal

pub returns-in_default-clause-turned : goal.returns-in_default-clause-turned
returns-in_default-clause-turned g c = λ is.
    subst (λ (f : FrameSeen g.row.A.Denot). TurnedLeaving f c.turn.new.self) c.self.view_is
    (BlockTurned c.in_default.ensures.none (c.turn.ensures.turned is))

pub returns-clause-turned : goal.returns-clause-turned
returns-clause-turned g c = λ is.
    subst (λ (f : FrameSeen g.row.A.Denot). TurnedLeaving f c.settle_lowest.new.self) c.self.view_is
    (EntryDealt c.settle_lowest.result c.settle_lowest.ensures.popped c.settle_lowest.ensures.counts)
