use Rattle.std.proofs.Common.{◌≡◌, ℕ, ◌<◌, ◌∷◌, Option, Some, sym, ◌∙◌, ap, subst}
use Rattle.atomic_table.specs.Table.{Me, rest}
use Rattle.brc_block.specs.declared.payload.Payload.{Payload}
use Rattle.law.specs.declared.world.event.Step.TheVariants.{Birth}
use Rattle.law.specs.declared.known.word.Field.TheVariants.{Owner}
use Rattle.law.specs.declared.known.word.Word.TheVariants.{Of}
use Rattle.law.specs.declared.rule.told.LogItem.TheVariants.{Stepped}
use Rattle.law.specs.declared.rule.view.View.{View}
use Rattle.brc_table.specs.Moving.{MayGive, put_home}
use Rattle.brc_table.specs.Seated.{SeatSeen}
use Rattle.brc_table.specs.Shown.{shows}
use Rattle.law.specs.steps.Owing.{MayBear}
use Rattle.law.proofs.steps.Making_Steps.{bears_object}
use Rattle.brc_table.proofs.table.HeapTable.birth.Goals as goal

pub give_unless_there-requires-clause-allowed : goal.give_unless_there-requires-clause-allowed
give_unless_there-requires-clause-allowed g c =
    let n : ℕ = c.args.self.now.cells in let limit : ℕ = c.args.self.now.local_limit in let place =
    c.seat.inside.place in let is = c.seat.invariant in
    let block = c.args.block in
    let some_thread : 0 < place.me.0.thread = subst (λ t. 0 < t) (sym is.1) is.2 in
    let owes : MayBear n place.me.0.log (shows block) c.args.kind c.args.place block.0 =
    subst (λ (z : SeatSeen g.row.A.Denot). MayBear n z.log (shows block) c.args.kind c.args.place block.0)
    (sym c.seat.view_is) c.requires.bears in
    let filled : c.put_in.new.seat.me ≡ (place.me.0, (block.0, Some block) ∷ rest place.me.1) =
    c.put_in.ensures.now ∙ ap (λ d. (place.me.0, (d, Some block) ∷ rest place.me.1)) c.cell-cell.ensures in
    subst (λ (z : ℕ × (ℕ × (ℕ × Me (Option (ℕ × Payload g.row.A.Denot)) View))). MayGive n limit z.0 z.1.1.1
    (Of Owner z.1.0) z.1.1.0 (Stepped (Birth z.1.0 c.args.kind c.args.place) z.1.1.0 (put_home z.1.1.1.1)))
    (λ i. (sym c.put_in.ensures.same.1 i, (sym c.cell-cell.ensures i, ((is.1 ∙ sym c.from.ensures) i, sym filled i))))
    (bears_object shows n limit place.id place.me.0 (rest place.me.1) block c.args.kind c.args.place block.0 is.0
    some_thread c.requires.inside owes)
