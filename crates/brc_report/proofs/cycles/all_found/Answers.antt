use Rattle.std.proofs.Common.{ap, subst}
use Rattle.brc_report.specs.declared.content.Remain.{Remain}
use Rattle.brc_report.specs.Tables.{at, sees}
use Rattle.brc_report.specs.Cycles.{holder_in}
use Rattle.brc_report.specs.Walking.{IsKept}
use Rattle.brc_report.proofs.Searching.{known_kept, settled_more, get_or_within}
use Rattle.brc_report.proofs.cycles.all_found.Goals as goal

pub loop-remain-preserved : goal.loop-remain-preserved
loop-remain-preserved g c = (
  known_kept (holder_in c.args.remains.now) (sees c.loop-remain.seen) (sees c.walk.new.seen) (at c.loop-remain.found)
      (at c.keep.new.found) _ c.in_ok-path.path.items c.in_ok-path.end c.loop-remain.invariant.0 c.in_ok-path.ensures
      (subst (λ w. IsKept w c.in_ok-path.end (at c.loop-remain.found) (at c.keep.new.found)) c.as_slice.ensures.value
      c.in_ok-keep.ensures),
  settled_more (holder_in c.args.remains.now) (sees c.loop-remain.seen) (sees c.walk.new.seen) _
      c.in_ok-path.path.items c.in_ok-path.end c.args.remains.now c.loop-remain.remain-index c.in_ok-path.ensures
      (λ d. ap (λ (remain : Remain). remain.cell)
      (get_or_within c.args.remains.now c.loop-remain.remain-index d _ c.loop-remain-test.true))
      c.loop-remain.invariant.1,
)
