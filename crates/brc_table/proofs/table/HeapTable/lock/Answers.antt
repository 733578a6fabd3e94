use Rattle.std.proofs.Common.{ℕ, ◌<◌, sym, ◌∙◌, subst}
use Rattle.law.specs.declared.world.event.Step.TheVariants.{Lock}
use Rattle.brc_table.specs.Moving.{MayLock}
use Rattle.brc_table.specs.Seated.{SeatSeen}
use Rattle.brc_table.specs.Shown.{shows}
use Rattle.law.specs.steps.Owing.{MayCarry}
use Rattle.law.proofs.steps.Locking_Steps.{locks_cell}
use Rattle.brc_table.proofs.table.HeapTable.lock.Goals as goal

pub lock_by-found-requires-clause-allowed : goal.lock_by-found-requires-clause-allowed
lock_by-found-requires-clause-allowed g c =
    let n : ℕ = c.args.self.now.cells in let limit : ℕ = c.args.self.now.local_limit in let place =
    c.seat.inside.place in let is = c.seat.invariant in
    let some_thread : 0 < place.me.0.thread = subst (λ t. 0 < t) (sym is.1) is.2 in
    let owes : MayCarry n place.me.0.log (Lock c.args.place) c.args.cell =
    subst (λ (z : SeatSeen g.row.A.Denot). MayCarry n z.log (Lock c.args.place) c.args.cell)
    (sym c.seat.view_is) c.requires.carries in
    subst (λ t. MayLock n limit place.id place.me c.args.cell t n c.args.place c.args.cell) (is.1 ∙ sym c.from.ensures)
    (locks_cell shows n limit place.id place.me.0 place.me.1 c.args.place c.args.cell is.0 some_thread
    c.requires.inside owes)
