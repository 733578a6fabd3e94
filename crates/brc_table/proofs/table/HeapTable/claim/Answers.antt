use Rattle.std.proofs.Common.{ℕ, ◌<◌, sym, subst}
use Rattle.brc_table.specs.Moving.{MayClaim}
use Rattle.brc_table.specs.Seated.{SeatSeen}
use Rattle.brc_table.specs.Shown.{shows}
use Rattle.law.specs.steps.Owing.{MayClaimCell}
use Rattle.law.proofs.steps.Making_Steps.{claims_cell}
use Rattle.brc_table.proofs.table.HeapTable.claim.Goals as goal

pub claim_by-found-requires-clause-allowed : goal.claim_by-found-requires-clause-allowed
claim_by-found-requires-clause-allowed g c =
    let n : ℕ = c.args.self.now.cells in let limit : ℕ = c.args.self.now.local_limit in let place =
    c.seat.inside.place in let is = c.seat.invariant in
    let some_thread : 0 < place.me.0.thread = subst (λ t. 0 < t) (sym is.1) is.2 in
    let owes : MayClaimCell n place.me.0.log c.args.cell = subst
    (λ (z : SeatSeen g.row.A.Denot). MayClaimCell n z.log c.args.cell)
    (sym c.seat.view_is) c.requires.claims in
    subst (λ mask. MayClaim n limit place.id place.me c.args.cell mask n c.args.cell) (sym c.all_but-mask.ensures)
    (claims_cell shows n limit place.id place.me.0 place.me.1 c.args.cell is.0 some_thread c.requires.inside owes)
