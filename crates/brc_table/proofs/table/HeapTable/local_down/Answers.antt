use Rattle.std.proofs.Common.{ℕ, ◌<◌, ◌-◌, sym, subst}
use Rattle.law.specs.declared.known.word.Word.TheVariants.{NotifyWord}
use Rattle.law.specs.declared.rule.told.Moved.TheVariants.{Nothing}
use Rattle.law.specs.declared.rule.told.LogItem.TheVariants.{Stepped}
use Rattle.law.specs.steps.Owing.{MayLower}
use Rattle.law.specs.declared.world.event.Step.TheVariants.{LocalDown}
use Rattle.brc_table.specs.Machine.{MayTell}
use Rattle.brc_table.specs.Seated.{SeatSeen}
use Rattle.brc_table.specs.Shown.{shows}
use Rattle.brc_table.proofs.Own_Counts.{lowers}
use Rattle.brc_table.proofs.table.HeapTable.local_down.Goals as goal

pub tell-requires-clause-allowed : goal.tell-requires-clause-allowed
tell-requires-clause-allowed g c =
    let n : ℕ = c.args.self.now.cells in let limit : ℕ = c.args.self.now.local_limit in let place =
    c.seat.inside.place in let is = c.seat.invariant in
    let some_thread : 0 < place.me.0.thread = subst (λ t. 0 < t) (sym is.1) is.2 in
    let owes : MayLower n place.me.0.log c.args.drop c.args.cell c.args.count =
    subst (λ (z : SeatSeen g.row.A.Denot). MayLower n z.log c.args.drop c.args.cell c.args.count)
    (sym c.seat.view_is) c.requires.lowers in
    subst (λ count. MayTell shows n limit place.id place.me (NotifyWord 0) (λ there. there)
    (λ _. Stepped (LocalDown c.args.drop) (count - 1) Nothing)) (sym c.from.ensures)
    (lowers shows n limit place.id place.me.0 place.me.1 c.args.drop c.args.cell c.args.count is.0 some_thread owes)
