use Rattle.std.proofs.Common.{ℕ, ◌<◌, sym, subst}
use Rattle.brc_table.specs.Seated.{SeatSeen}
use Rattle.brc_table.specs.Shown.{shows}
use Rattle.law.specs.steps.Owing.{UntiesPopped}
use Rattle.law.proofs.steps.Untying_Steps.{unties_popped}
use Rattle.brc_table.proofs.table.HeapTable.untie_popped.Goals as goal

pub store-requires-clause-allowed : goal.store-requires-clause-allowed
store-requires-clause-allowed g c =
    let n : ℕ = c.args.self.now.cells in let place = c.seat.inside.place in let is = c.seat.invariant in
    let some_thread : 0 < place.me.0.thread = subst (λ t. 0 < t) (sym is.1) is.2 in
    let owes : UntiesPopped n place.me.0.log c.args.cell c.args.shared =
    subst (λ (z : SeatSeen g.row.A.Denot). UntiesPopped n z.log c.args.cell c.args.shared)
    (sym c.seat.view_is) c.requires.unties in
    unties_popped shows n c.args.self.now.local_limit place.id place.me.0 place.me.1 c.args.cell c.args.shared is.0
    some_thread c.requires.inside owes
