use Rattle.brc_model.specs.Facts.{entries_in}
use Rattle.brc_model.proofs.Exchanging.{Same-swap, entry_missing}
use Rattle.brc_model.proofs.exchanges.swap.Goals as goal

pub returns-in-Some-clause-swapped : goal.returns-in-Some-clause-swapped
returns-in-Some-clause-swapped g c =
    let there = rw (c.deref.ensures.value, c.in_ok-reserve.ensures.items) at c.in-Some.ensures.there in
    rw (c.arrive.ensures, c.leave.ensures.left, c.in_ok-reserve.ensures.items)
    (Same-swap c.args.facts.now.items c.args.container c.args.thread c.args.index c.args.at c.args.cell c.args.old
    c.in-Some.place there)

-- the entry stands, so it is found
pub returns-in_default-clause-swapped : goal.returns-in_default-clause-swapped
returns-in_default-clause-swapped g c =
    let short = rw (c.deref.ensures.value, c.in_ok-reserve.ensures.items) at c.in_default.ensures.none in
    entry_missing (entries_in c.args.facts.now.items c.args.container) c.args.index c.args.old short c.requires
