use Rattle.std.proofs.Common.{ℕ, ◌<◌, sym, subst}
use Rattle.law.specs.declared.world.event.Step.TheVariants.{SeeZero}
use Rattle.brc_table.specs.Seated.{SeatSeen}
use Rattle.brc_table.specs.Shown.{shows}
use Rattle.law.specs.steps.Owing.{MayCarry}
use Rattle.law.proofs.steps.Ending_Steps.{ends_at_zero}
use Rattle.brc_table.proofs.table.HeapTable.see_zero.Goals as goal

-- said by hand, so that a step that isn't allowed is refused at once and not after a long search
pub end_by_load-requires-clause-allowed : goal.end_by_load-requires-clause-allowed
end_by_load-requires-clause-allowed g c =
    let n : ℕ = c.args.self.now.cells in let place = c.seat.inside.place in let is = c.seat.invariant in
    let some_thread : 0 < place.me.0.thread = subst (λ t. 0 < t) (sym is.1) is.2 in
    let owes : MayCarry n place.me.0.log (SeeZero c.args.cell) c.args.cell =
    subst (λ (z : SeatSeen g.row.A.Denot). MayCarry n z.log (SeeZero c.args.cell) c.args.cell)
    (sym c.seat.view_is) c.requires.carries in
    ends_at_zero shows n c.args.self.now.local_limit place.id place.me.0 place.me.1 c.args.cell is.0 some_thread
    c.requires.inside owes
