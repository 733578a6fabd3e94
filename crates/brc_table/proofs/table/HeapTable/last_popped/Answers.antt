use Rattle.std.proofs.Common.{ℕ, ◌<◌, sym, subst}
use Rattle.brc_table.specs.Seated.{SeatSeen}
use Rattle.brc_table.specs.Shown.{shows}
use Rattle.law.specs.steps.Owing.{EndsPopped}
use Rattle.law.proofs.steps.Last_Steps.{ends_popped}
use Rattle.brc_table.proofs.table.HeapTable.last_popped.Goals as goal

pub end_by_sub-requires-clause-allowed : goal.end_by_sub-requires-clause-allowed
end_by_sub-requires-clause-allowed g c =
    let n : ℕ = c.args.self.now.cells in let limit : ℕ = c.args.self.now.local_limit in let place =
    c.seat.inside.place in let is = c.seat.invariant in
    let some_thread : 0 < place.me.0.thread = subst (λ t. 0 < t) (sym is.1) is.2 in
    let owes : EndsPopped n place.me.0.log c.args.cell c.args.shared =
    subst (λ (z : SeatSeen g.row.A.Denot). EndsPopped n z.log c.args.cell c.args.shared)
    (sym c.seat.view_is) c.requires.ends in
    ends_popped shows n limit place.id place.me.0 place.me.1 c.args.cell c.args.shared is.0 some_thread
    c.requires.inside owes
