use Rattle.std.proofs.Common.{subst, sym}
use Rattle.brc_count.specs.Frames.{FrameSeen, Owns}
use Rattle.brc_count.proofs.Framings.{framing_on}
use Rattle.brc_count.proofs.Owning.{release_loses}
use Rattle.brc_count.proofs.frame.Frame.release.Goals as goal

pub invariant_of-self : goal.invariant_of-self
invariant_of-self g c =
    framing_on c.self.inside.holdings c.release.new.self c.self.inside.thread c.self.invariant c.release.ensures.seat.1
    c.release.ensures.rest c.release.ensures.popped

pub returns-clause-loses : goal.returns-clause-loses
returns-clause-loses g c =
    let owned = subst (λ (f : FrameSeen g.row.A.Denot). Owns f c.args.handle) (sym c.self.view_is) c.requires.owned in
    rw (← c.self.view_is) (release_loses c.self.inside.holdings c.release.new.self c.args.handle c.release.ensures.heap
    c.release.ensures.seat.1 c.release.ensures.len owned (rw c.into_place.ensures at c.release.ensures.released))
