use Rattle.std.proofs.Common.{◌≡◌, ℕ, ◌/◌, ◌<◌, ◌∷◌, None, sym, subst}
use Rattle.std.specs.Prelude.{bit_or}
use Rattle.atomic_table.specs.Table.{rest}
use Rattle.law.specs.declared.world.event.Step.TheVariants.{Free}
use Rattle.law.specs.declared.known.word.Word.TheVariants.{FreeWord}
use Rattle.law.specs.declared.rule.told.LogItem.TheVariants.{Stepped}
use Rattle.brc_table.specs.Moving.{MayGiveBy, put_home}
use Rattle.brc_table.specs.Seated.{SeatSeen}
use Rattle.brc_table.specs.Shown.{shows}
use Rattle.law.specs.steps.Owing.{MayCarry}
use Rattle.law.proofs.steps.Making_Steps.{frees_cell}
use Rattle.brc_table.proofs.table.HeapTable.free.Goals as goal

pub give_bit-requires-clause-allowed : goal.give_bit-requires-clause-allowed
give_bit-requires-clause-allowed g c =
    let n : ℕ = c.args.self.now.cells in let limit : ℕ = c.args.self.now.local_limit in let place =
    c.seat.inside.place in let is = c.seat.invariant in
    let some_thread : 0 < place.me.0.thread = subst (λ t. 0 < t) (sym is.1) is.2 in
    let owes : MayCarry n place.me.0.log (Free c.args.cell) c.args.cell =
    subst (λ (z : SeatSeen g.row.A.Denot). MayCarry n z.log (Free c.args.cell) c.args.cell)
    (sym c.seat.view_is) c.requires.carries in
    let out : place.me.1 ≡ (c.args.cell, None) ∷ rest place.me.1 =
    subst (λ (z : SeatSeen g.row.A.Denot). z.slots ≡ (c.args.cell, None) ∷ rest z.slots)
    (sym c.seat.view_is) c.requires.slot in
    subst (λ slots. MayGiveBy n limit place.id (place.me.0, slots) (FreeWord (c.args.cell / 64))
    (λ there. bit_or there c.bit-bits.result) (λ there. Stepped (Free c.args.cell) there (put_home slots))) (sym out)
    (subst (λ bits. MayGiveBy n limit place.id (place.me.0, (c.args.cell, None) ∷ rest place.me.1)
    (FreeWord (c.args.cell / 64)) (λ there. bit_or there bits)
    (λ there. Stepped (Free c.args.cell) there (put_home ((c.args.cell, None) ∷ rest place.me.1))))
    (sym c.bit-bits.ensures)
    (frees_cell shows n limit place.id place.me.0 (rest place.me.1) c.args.cell is.0 some_thread
    c.requires.inside owes))
