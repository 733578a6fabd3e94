use Rattle.std.proofs.Common.{refl, sym, ◌∙◌}
use Rattle.brc_things.proofs.Locked.{stood}
use Rattle.brc_things.proofs.Still_Law.{still_sets, finds_other}
use Rattle.brc_things.proofs.swap_if.swap_entry_if.Goals as goal

pub returns-then-not-stands_still-clause-swapped : goal.returns-then-not-stands_still-clause-swapped
returns-then-not-stands_still-clause-swapped g c = λ look call finds sets before k since. (
  refl,
  refl,
  finds_other before c.args.frame.now c.end_keep.new.self k c.args.block c.args.expected c.args.entry look call
      (sym c.stands_still.ensures ∙ c.if-not-stands_still.true) finds (stood before c.args.frame.now k c.args.block since)
      c.end_keep.ensures.ended,
)

pub returns-in-Ok-clause-swapped : goal.returns-in-Ok-clause-swapped
returns-in-Ok-clause-swapped g c = λ look call finds sets.
    c.in-Ok.ensures.swapped _
    (still_sets c.args.block.1 c.args.index c.args.expected c.args.entry look call
    (sym c.stands_still.ensures ∙ c.if-not-stands_still.false) finds sets)

pub returns-in-Err-clause-refused : goal.returns-in-Err-clause-refused
returns-in-Err-clause-refused g c = λ look call finds sets.
    c.in-Err.ensures.refused _
    (still_sets c.args.block.1 c.args.index c.args.expected c.args.entry look call
    (sym c.stands_still.ensures ∙ c.if-not-stands_still.false) finds sets)
