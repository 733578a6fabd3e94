use Rattle.std.proofs.Common.{◌∙◌, ap, sym, arith, ◌∷◌, Option, Some}
use Rattle.atomic_table.specs.Table as tables
use Rattle.brc_count.specs.table.Seated.{RootSeen}
use Rattle.brc_heap.specs.declared.desk.Visitor.{Visitor}
use Rattle.brc_heap.proofs.desk.Desk.take.Goals as goal

pub exchange-requires : goal.exchange-requires
exchange-requires c =
    let taken = c.swap_new_seat-found.ensures.1.taken (omega (arith, c.if-found-ne0.false)) in
    let there = ap (λ (me : tables.Me (Option RootSeen) Visitor). me.1) taken.1 in (
      c.swap_new_seat-found.ensures.0,
      (Some taken.0, there ∙ ap (λ others. (0, Some taken.0) ∷ others) (sym (ap tables.rest there))),
    )
