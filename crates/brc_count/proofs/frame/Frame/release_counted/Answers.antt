use Rattle.std.proofs.Common.{subst, sym}
use Rattle.brc_count.specs.Frames.{FrameSeen, Owns}
use Rattle.brc_count.proofs.Owning.{release_loses}
use Rattle.brc_count.proofs.frame.Frame.release_counted.Goals as goal
use Rattle.brc_count.proofs.frame.Frame.release_counted.Goals.{then-release_counted, else-release_counted}

pub returns-clause-counts : goal.returns-clause-counts
returns-clause-counts g c = elim c.if-release_counted.branch [
  | then-release_counted w ↦ rw w.result-is (rw (← c.self.view_is, ← c.handle.view_is)
      (c.release_counted.ensures.counts w.if-release_counted.true))
  | else-release_counted w ↦ rw w.result-is tt
]

pub returns-clause-loses : goal.returns-clause-loses
returns-clause-loses g c = elim c.if-release_counted.branch [
  | then-release_counted w ↦
      let owned = subst (λ (f : FrameSeen g.row.A.Denot). Owns f c.args.handle) (sym c.self.view_is) c.requires.owned in
      rw w.result-is (rw (← c.self.view_is, ← c.handle.view_is) (release_loses c.self.inside.holdings
      c.release_counted.new.self _ c.release_counted.ensures.heap c.release_counted.ensures.seat.1
      (c.release_counted.ensures.len w.if-release_counted.true) (rw (← c.handle.view_is) at owned)
      (c.release_counted.ensures.released w.if-release_counted.true)))
  | else-release_counted w ↦ rw w.result-is tt
]

pub returns-clause-told : goal.returns-clause-told
returns-clause-told g c = elim c.if-release_counted.branch [
  | then-release_counted w ↦ rw w.result-is (rw (← c.self.view_is, ← c.handle.view_is)
      (c.release_counted.ensures.told w.if-release_counted.true))
  | else-release_counted w ↦ rw w.result-is tt
]
