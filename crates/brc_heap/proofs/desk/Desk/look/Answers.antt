use Rattle.std.proofs.Common.{◌∙◌, ap, arith, Option}
use Rattle.atomic_table.specs.Table as tables
use Rattle.brc_count.specs.table.Seated.{RootSeen}
use Rattle.brc_heap.specs.declared.desk.Visit.TheVariants as visits
use Rattle.brc_heap.specs.declared.desk.Visitor.{Visitor}
use Rattle.brc_heap.specs.Desk.{ClerkSeen, visitor}
use Rattle.brc_heap.proofs.At_Desk.{looks_out}
use Rattle.brc_heap.proofs.desk.Desk.look.Goals as goal

pub split_seat-seat-requires : goal.split_seat-seat-requires
split_seat-seat-requires c = (
  ap (λ (k : ClerkSeen). k.desk) c.clerk.view_is ∙ c.requires.desk,
  omega (arith, c.args.self.now.one.0),
  looks_out c.args.self.now.table.shared.key c.clerk.inside.seat.id c.args.clerk.now c.clerk.inside.seat.me.0
      (ap (λ (m : tables.Me (Option RootSeen) Visitor). m.0) c.clerk.invariant
      ∙ ap (λ (k : ClerkSeen). visitor k.heap (visits.Has k.found)) c.clerk.view_is) c.requires.heap.0,
)
