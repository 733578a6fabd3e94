use Rattle.std.proofs.Common.{ℕ, ◌<◌, ◌≤◌, sym, subst, bit_or}
use Rattle.law.specs.declared.world.event.Step.TheVariants.{Nudge}
use Rattle.law.specs.declared.known.word.Word.TheVariants.{NotifyWord}
use Rattle.brc_table.proofs.Placing.{notify_bit, told_inside}
use Rattle.law.specs.declared.rule.told.Moved.TheVariants.{Nothing}
use Rattle.law.specs.declared.rule.told.LogItem.TheVariants.{Stepped}
use Rattle.brc_table.specs.Machine.{MayTell}
use Rattle.brc_words.specs.declared.limits.TheConstants.{MOST_CELLS}
use Rattle.brc_table.specs.Seated.{TableSeen, SeatSeen}
use Rattle.brc_table.specs.Shown.{shows}
use Rattle.law.specs.steps.Owing.{MayNudge}
use Rattle.law.proofs.steps.Queue_Steps.{nudges}
use Rattle.brc_table.proofs.table.HeapTable.nudge.Goals as goal

pub bit-bits-requires : goal.bit-bits-requires
bit-bits-requires g c = notify_bit c.args.self.now.cells _ c.args.thread c.args.word
    (subst (λ (z : TableSeen). z.cells ≤ MOST_CELLS) c.self.view_is c.self.invariant.few_cells) c.requires.tells

pub or-requires-clause-inside : goal.or-requires-clause-inside
or-requires-clause-inside g c = told_inside c.args.self.now.cells _ c.args.thread c.args.word c.requires.tells

pub or-requires-clause-allowed : goal.or-requires-clause-allowed
or-requires-clause-allowed g c =
    let n : ℕ = c.args.self.now.cells in let place = c.seat.inside.place in let is = c.seat.invariant in
    let some_thread : 0 < place.me.0.thread = subst (λ t. 0 < t) (sym is.1) is.2 in
    let owes : MayNudge n place.me.0.log c.args.thread c.args.word =
    subst (λ (z : SeatSeen g.row.A.Denot). MayNudge n z.log c.args.thread c.args.word)
    (sym c.seat.view_is) c.requires.tells in
    subst (λ b. MayTell shows n c.args.self.now.local_limit place.id place.me (NotifyWord c.args.thread)
    (λ there. bit_or there b) (λ there. Stepped (Nudge c.args.thread c.args.word) there Nothing))
    (sym c.bit-bits.ensures)
    (nudges shows n c.args.self.now.local_limit place.id place.me.0 place.me.1 c.args.thread c.args.word is.0
    some_thread owes)
