use Rattle.std.proofs.Common.{ℕ, ◌<◌, ◌/◌, sym, subst, bit_or}
use Rattle.law.specs.declared.world.event.Step.TheVariants.{Enqueue}
use Rattle.law.specs.declared.known.word.Word.TheVariants.{Queue}
use Rattle.law.specs.declared.rule.told.Moved.TheVariants.{Nothing}
use Rattle.law.specs.declared.rule.told.LogItem.TheVariants.{Stepped}
use Rattle.brc_table.specs.Machine.{MayTell}
use Rattle.brc_table.specs.Seated.{SeatSeen}
use Rattle.brc_table.specs.Shown.{shows}
use Rattle.law.specs.steps.Owing.{Enqueues}
use Rattle.law.proofs.steps.Queueing_Steps.{enqueues}
use Rattle.brc_table.proofs.table.HeapTable.enqueue_word.Goals as goal

pub or-requires-clause-allowed : goal.or-requires-clause-allowed
or-requires-clause-allowed g c =
    let n : ℕ = c.args.self.now.cells in let place = c.seat.inside.place in let is = c.seat.invariant in
    let some_thread : 0 < place.me.0.thread = subst (λ t. 0 < t) (sym is.1) is.2 in
    let owes : Enqueues n place.me.0.log c.args.cell c.args.owner =
    subst (λ (z : SeatSeen g.row.A.Denot). Enqueues n z.log c.args.cell c.args.owner)
    (sym c.seat.view_is) c.requires.enqueues in
    subst (λ b. MayTell shows n c.args.self.now.local_limit place.id place.me (Queue c.args.owner (c.args.cell / 32))
    (λ there. bit_or there b) (λ there. Stepped (Enqueue c.args.cell) there Nothing)) (sym c.bit-bits.ensures)
    (enqueues shows n c.args.self.now.local_limit place.id place.me.0 place.me.1 c.args.cell c.args.owner is.0
    some_thread c.requires.inside owes)
