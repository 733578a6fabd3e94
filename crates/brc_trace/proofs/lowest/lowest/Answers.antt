use Rattle.std.proofs.Common.{◌∙◌, sym, ap}
use Rattle.brc_trace.specs.Lowest.{lowest}
use Rattle.brc_trace.proofs.LowestLaws.{search_begins, search_goes_on, search_finds}
use Rattle.brc_trace.proofs.lowest.lowest.Goals as goal

pub loop-number-init : goal.loop-number-init
loop-number-init g c = search_begins c.args.world.now c.args.thread c.args.sought

pub returns-then-is_sought : goal.returns-then-is_sought
returns-then-is_sought g c =
    search_finds c.args.world.now c.args.thread c.args.sought c.loop-number.number c.end_of-end.result
    c.loop-number.invariant c.loop-number-test.true (sym c.is_sought.ensures ∙ c.if-is_sought.true)
    ∙ ap (lowest c.args.world.now c.args.thread c.args.sought) c.end_of-end.ensures

pub loop-number-preserved : goal.loop-number-preserved
loop-number-preserved g c =
    search_goes_on c.args.world.now c.args.thread c.args.sought c.loop-number.number c.loop-number.invariant
    (sym c.is_sought.ensures ∙ c.if-is_sought.false)
