use Rattle.std.proofs.Common.{ap, sym, ◌∙◌}
use Rattle.std.specs.Option.{option_copied}
use Rattle.brc_report.proofs.Remaining.{skips, takes, fails}
use Rattle.brc_report.proofs.holders.find_remains.Goals as goal
use Rattle.brc_report.proofs.holders.find_remains.Goals.{then-content-ge-FIRST_MORTAL+in-Some+in_ok-push}
use Rattle.brc_report.proofs.holders.find_remains.Goals.{else-content-ge-FIRST_MORTAL}

pub returns-in_default-clause-remains : goal.returns-in_default-clause-remains
returns-in_default-clause-remains g c =
    fails c.args.contents.now c.loop-content.content-index c.content-item.result c.loop-content.remains.items _
    c.loop-content-test.true c.content-item.is c.if-content-ge-FIRST_MORTAL.true
    (sym (c.in_ok-holders.ensures c.content-item.result.cell) ∙ (sym c.get.ensures ∙ ap option_copied c.in_default.is))
    c.loop-content.invariant

pub loop-content-preserved : goal.loop-content-preserved
loop-content-preserved g c =
    elim c.if-content-ge-FIRST_MORTAL.branch [
      | then-content-ge-FIRST_MORTAL+in-Some+in_ok-push w ↦
          takes c.args.contents.now c.loop-content.content-index c.content-item.result w.in-Some.holder.now
          c.loop-content.remains.items _ _
          c.loop-content-test.true c.content-item.is w.if-content-ge-FIRST_MORTAL.true
          (sym (c.in_ok-holders.ensures c.content-item.result.cell)
          ∙ (sym w.get.ensures ∙ ap option_copied w.in-Some.is))
          (ap (λ v. v.items) w.remains-is ∙ w.in_ok-push.ensures.items) c.loop-content.invariant
      | else-content-ge-FIRST_MORTAL w ↦
          skips c.args.contents.now c.loop-content.content-index c.content-item.result c.loop-content.remains.items _ _
          c.loop-content-test.true c.content-item.is w.if-content-ge-FIRST_MORTAL.false
          (ap (λ v. v.items) w.remains-is) c.loop-content.invariant
    ]
