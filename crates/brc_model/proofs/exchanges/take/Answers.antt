use Rattle.brc_model.specs.Facts.{entries_in}
use Rattle.brc_model.proofs.Exchanging.{Same-take_immortal, Same-take_mortal, entry_missing}
use Rattle.brc_model.proofs.exchanges.take.Goals as goal

pub returns-then-cell-lt-FIRST_MORTAL : goal.returns-then-cell-lt-FIRST_MORTAL
returns-then-cell-lt-FIRST_MORTAL g c =
    let there = rw c.deref.ensures.value at c.in-Some.ensures.there in
    rw c.remove.ensures.items
    (Same-take_immortal c.args.facts.now.items c.args.container c.args.thread c.args.index c.args.to c.args.cell
    c.in-Some.place c.if-cell-lt-FIRST_MORTAL.true there)

pub returns-else-cell-lt-FIRST_MORTAL : goal.returns-else-cell-lt-FIRST_MORTAL
returns-else-cell-lt-FIRST_MORTAL g c =
    let there = rw c.deref.ensures.value at c.in-Some.ensures.there in
    Same-take_mortal c.args.facts.now.items c.args.container c.args.thread c.args.index c.args.to c.args.cell
    c.in-Some.place c.if-cell-lt-FIRST_MORTAL.false there

-- the entry stands, so it is found
pub returns-in_default : goal.returns-in_default
returns-in_default g c =
    let short = rw c.deref.ensures.value at c.in_default.ensures.none in
    entry_missing (entries_in c.args.facts.now.items c.args.container) c.args.index c.args.cell short c.requires
