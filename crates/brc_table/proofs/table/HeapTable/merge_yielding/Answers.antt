use Rattle.std.proofs.Common.{ℕ, ◌<◌, ◌+◌, ◌*◌, ◌%◌, ◌^◌, sym, subst}
use Rattle.law.specs.declared.world.event.Step.TheVariants.{MergeAdd}
use Rattle.brc_table.specs.Moving.{MayEndAt}
use Rattle.brc_table.specs.Seated.{SeatSeen}
use Rattle.brc_table.specs.Shown.{shows}
use Rattle.law.specs.steps.Owing.{MayYield}
use Rattle.law.proofs.steps.Adding_Steps.{yields_local}
use Rattle.brc_table.proofs.table.HeapTable.merge_yielding.Goals as goal

pub end_by_add-requires-clause-allowed : goal.end_by_add-requires-clause-allowed
end_by_add-requires-clause-allowed g c =
    let n : ℕ = c.args.self.now.cells in let limit : ℕ = c.args.self.now.local_limit in let place =
    c.seat.inside.place in let is = c.seat.invariant in
    let some_thread : 0 < place.me.0.thread = subst (λ t. 0 < t) (sym is.1) is.2 in
    let owes : MayYield n place.me.0.log c.args.cell c.args.local =
    subst (λ (z : SeatSeen g.row.A.Denot). MayYield n z.log c.args.cell c.args.local)
    (sym c.seat.view_is) c.requires.yields in
    let step : ℕ → ℕ → ℕ = λ local there. (there + (local * 4 + 1)) % 2 ^ 64 in
    subst (λ local. MayEndAt n limit place.id place.me c.args.cell (step local) (step local) n (MergeAdd c.args.cell)
    c.args.cell) (sym c.from.ensures)
    (yields_local shows n limit place.id place.me.0 place.me.1 c.args.cell c.args.local is.0 some_thread
    c.requires.inside owes)
