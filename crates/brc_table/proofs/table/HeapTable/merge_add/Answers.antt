use Rattle.std.proofs.Common.{ℕ, ◌<◌, ◌+◌, ◌*◌, ◌%◌, ◌^◌, sym, subst}
use Rattle.law.specs.declared.known.word.Field.TheVariants.{Shared}
use Rattle.law.specs.declared.known.word.Word.TheVariants.{Of}
use Rattle.law.specs.declared.rule.told.Moved.TheVariants.{Nothing}
use Rattle.law.specs.declared.rule.told.LogItem.TheVariants.{Stepped}
use Rattle.law.specs.declared.world.event.Step.TheVariants.{MergeAdd}
use Rattle.brc_table.specs.Machine.{MaySum}
use Rattle.brc_table.specs.Seated.{SeatSeen}
use Rattle.brc_table.specs.Shown.{shows}
use Rattle.law.specs.steps.Owing.{AddsLocal}
use Rattle.law.proofs.steps.Adding_Steps.{adds_local}
use Rattle.brc_table.proofs.table.HeapTable.merge_add.Goals as goal

pub add_up-requires-clause-allowed : goal.add_up-requires-clause-allowed
add_up-requires-clause-allowed g c =
    let n : ℕ = c.args.self.now.cells in let place = c.seat.inside.place in let is = c.seat.invariant in
    let some_thread : 0 < place.me.0.thread = subst (λ t. 0 < t) (sym is.1) is.2 in
    let owes : AddsLocal n place.me.0.log c.args.cell c.args.local =
    subst (λ (z : SeatSeen g.row.A.Denot). AddsLocal n z.log c.args.cell c.args.local)
    (sym c.seat.view_is) c.requires.adds in
    let step : ℕ → ℕ → ℕ = λ local there. (there + (local * 4 + 1)) % 2 ^ 64 in
    subst (λ local. MaySum shows n c.args.self.now.local_limit place.id place.me (Of Shared c.args.cell) (step local)
    (λ there. Stepped (MergeAdd c.args.cell) (step local there) Nothing) (local * 4 + 1)) (sym c.from.ensures)
    (adds_local shows n c.args.self.now.local_limit place.id place.me.0 place.me.1 c.args.cell c.args.local is.0
    some_thread c.requires.inside owes)
