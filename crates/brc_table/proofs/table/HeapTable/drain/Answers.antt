use Rattle.std.proofs.Common.{ℕ, ◌<◌, ◌≤◌, sym, subst}
use Rattle.law.specs.declared.rule.told.Moved.TheVariants.{Nothing}
use Rattle.law.specs.declared.rule.told.LogItem.TheVariants.{Stepped}
use Rattle.law.specs.declared.world.event.Step.TheVariants.{Drain}
use Rattle.law.specs.declared.known.word.Word.TheVariants.{Queue}
use Rattle.brc_table.specs.Machine.{MayTake}
use Rattle.brc_table.specs.Seated.{SeatSeen}
use Rattle.brc_table.specs.Shown.{shows}
use Rattle.law.specs.steps.Owing.{MayStep}
use Rattle.law.proofs.steps.Queue_Steps.{drains}
use Rattle.brc_table.proofs.table.HeapTable.drain.Goals as goal

pub take_bits-requires-clause-allowed : goal.take_bits-requires-clause-allowed
take_bits-requires-clause-allowed g c =
    let n : ℕ = c.args.self.now.cells in let place = c.seat.inside.place in let is = c.seat.invariant in
    let some_thread : 0 < place.me.0.thread = subst (λ t. 0 < t) (sym is.1) is.2 in
    let owes : MayStep n place.me.0.log (Drain c.args.word) =
    subst (λ (z : SeatSeen g.row.A.Denot). MayStep n z.log (Drain c.args.word))
    (sym c.seat.view_is) c.requires.allowed in
    let few : place.me.0.thread ≤ 64 = subst (λ t. t ≤ 64) (sym is.1) is.3 in
    subst (λ t. MayTake shows n c.args.self.now.local_limit place.id place.me (Queue t c.args.word) (λ _. 0)
    (λ there. Stepped (Drain c.args.word) there Nothing) n c.args.word) is.1
    (drains shows n c.args.self.now.local_limit place.id place.me.0 place.me.1 c.args.word is.0 some_thread few
    c.requires.inside owes)
