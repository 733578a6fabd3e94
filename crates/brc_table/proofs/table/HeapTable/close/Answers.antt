use Rattle.std.proofs.Common.{ℕ, ◌<◌, ◌≤◌, sym, subst, bit_or}
use Rattle.law.specs.declared.rule.told.Moved.TheVariants.{Nothing}
use Rattle.law.specs.declared.rule.told.LogItem.TheVariants.{Stepped}
use Rattle.law.specs.declared.world.event.Step.TheVariants.{Close}
use Rattle.law.specs.declared.known.word.Word.TheVariants.{Queue}
use Rattle.brc_table.specs.Machine.{MayTake}
use Rattle.brc_table.specs.Seated.{SeatSeen}
use Rattle.brc_table.specs.Shown.{shows}
use Rattle.law.specs.steps.Owing.{MayClose}
use Rattle.law.proofs.steps.Queue_Steps.{closes}
use Rattle.brc_table.proofs.table.HeapTable.close.Goals as goal

pub take_and_close-requires-clause-allowed : goal.take_and_close-requires-clause-allowed
take_and_close-requires-clause-allowed g c =
    let n : ℕ = c.args.self.now.cells in let place = c.seat.inside.place in let is = c.seat.invariant in
    let some_thread : 0 < place.me.0.thread = subst (λ t. 0 < t) (sym is.1) is.2 in
    let owes : MayClose n place.me.0.log c.args.word =
    subst (λ (z : SeatSeen g.row.A.Denot). MayClose n z.log c.args.word)
    (sym c.seat.view_is) c.requires.closes in
    let few : place.me.0.thread ≤ 64 = subst (λ t. t ≤ 64) (sym is.1) is.3 in
    subst (λ t. MayTake shows n c.args.self.now.local_limit place.id place.me (Queue t c.args.word)
    (λ there. bit_or there 9223372036854775808) (λ there. Stepped (Close c.args.word) there Nothing) n c.args.word) is.1
    (closes shows n c.args.self.now.local_limit place.id place.me.0 place.me.1 c.args.word is.0 some_thread few
    c.requires.inside owes)
