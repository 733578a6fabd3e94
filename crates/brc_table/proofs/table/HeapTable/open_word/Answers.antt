use Rattle.std.proofs.Common.{ℕ, ◌<◌, ◌≤◌, sym, subst}
use Rattle.law.specs.declared.rule.told.Moved.TheVariants.{Nothing}
use Rattle.law.specs.declared.rule.told.LogItem.TheVariants.{Stepped}
use Rattle.law.specs.declared.world.event.Step.TheVariants.{Reopen}
use Rattle.law.specs.declared.known.word.Word.TheVariants.{Queue}
use Rattle.brc_table.specs.Machine.{MayTell}
use Rattle.brc_table.specs.Seated.{SeatSeen}
use Rattle.brc_table.specs.Shown.{shows}
use Rattle.law.specs.steps.Owing.{MayStep}
use Rattle.law.proofs.steps.Queue_Steps.{reopens}
use Rattle.brc_table.proofs.table.HeapTable.open_word.Goals as goal

pub store-requires-clause-allowed : goal.store-requires-clause-allowed
store-requires-clause-allowed g c =
    let n : ℕ = c.args.self.now.cells in let place = c.seat.inside.place in let is = c.seat.invariant in
    let some_thread : 0 < place.me.0.thread = subst (λ t. 0 < t) (sym is.1) is.2 in
    let owes : MayStep n place.me.0.log (Reopen c.args.word) =
    subst (λ (z : SeatSeen g.row.A.Denot). MayStep n z.log (Reopen c.args.word))
    (sym c.seat.view_is) c.requires.allowed in
    let few : place.me.0.thread ≤ 64 = subst (λ t. t ≤ 64) (sym is.1) is.3 in
    subst (λ t. MayTell shows n c.args.self.now.local_limit place.id place.me (Queue t c.args.word)
    (λ _. 0) (λ _. Stepped (Reopen c.args.word) 0 Nothing)) is.1
    (reopens shows n c.args.self.now.local_limit place.id place.me.0 place.me.1 c.args.word is.0 some_thread few
    c.requires.inside owes)
