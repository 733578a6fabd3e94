use Rattle.brc_model.proofs.Exchanging.{Same-cut, Same-let_go}
use Rattle.brc_model.proofs.exchanges.let_it_go.Goals as goal

pub returns-in-Some : goal.returns-in-Some
returns-in-Some g c =
    let allowed = rw c.in-Entry.is at c.requires in
    let there = rw c.deref.ensures.value at c.in-Some.ensures.there in
    rw (c.remove.ensures.items, c.in-Entry.is)
    (Same-cut c.args.facts.now.items c.args.object c.in-Entry.cell c.in-Entry.index c.in-Some.place allowed there)

pub returns-in_default : goal.returns-in_default
returns-in_default g c =
    rw c.forget.ensures.kept (Same-let_go c.args.facts.now.items c.args.object c.args.holder.now c.in_default.not-Entry)
