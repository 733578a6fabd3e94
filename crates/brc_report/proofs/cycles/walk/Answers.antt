use Rattle.std.proofs.Common.{◌==◌, is_some, ap, sym, ◌∙◌}
use Rattle.std.specs.Option.{option_copied}
use Rattle.brc_report.specs.Tables.{at, sees}
use Rattle.brc_report.specs.Cycles.{holder_in}
use Rattle.brc_report.proofs.Searching.{walk_goes_on, fewer, seen_more}
use Rattle.brc_report.proofs.cycles.walk.Goals as goal

pub loop-next-smaller : goal.loop-next-smaller
loop-next-smaller g c =
    fewer (sees c.loop-next.seen) (sees c.put.new.self) c.args.remains.now c.loop-next.cell c.in-Some.next.now
    (λ other. ap is_some (c.in_ok-put.ensures other)
    ∙ seen_more (c.loop-next.cell == other) _ (at c.loop-next.seen other))
    (sym c.has.ensures ∙ c.loop-next-test.true)
    (sym (c.requires c.loop-next.cell) ∙ (sym c.get.ensures ∙ ap option_copied c.in-Some.is))

pub loop-next-preserved : goal.loop-next-preserved
loop-next-preserved g c =
    rw c.in_ok-push.ensures.items
    (walk_goes_on (holder_in c.args.remains.now) (sees c.args.seen.now) (sees c.loop-next.seen) (sees c.put.new.self)
    c.args.from c.loop-next.path.items c.loop-next.cell c.in-Some.next.now c.loop-next.invariant
    (sym c.has.ensures ∙ c.loop-next-test.true)
    (sym (c.requires c.loop-next.cell) ∙ (sym c.get.ensures ∙ ap option_copied c.in-Some.is))
    (λ other. ap is_some (c.in_ok-put.ensures other)
    ∙ seen_more (c.loop-next.cell == other) _ (at c.loop-next.seen other)))
