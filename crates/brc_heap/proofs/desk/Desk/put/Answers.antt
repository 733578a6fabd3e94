use Rattle.std.proofs.Common.{◌≡◌, ◌∙◌, ap, sym, arith, [], ◌∷◌, Option, Some, None}
use Rattle.atomic_table.specs.Table as tables
use Rattle.brc_count.specs.table.Seated.{RootSeen}
use Rattle.brc_heap.specs.declared.desk.Visit.TheVariants as visits
use Rattle.brc_heap.specs.declared.desk.Visitor.{Visitor}
use Rattle.brc_heap.specs.Desk.{ClerkSeen, visitor}
use Rattle.brc_heap.proofs.At_Desk.{at_desk, puts}
use Rattle.brc_heap.proofs.desk.Desk.put.Goals as goal

pub store-requires : goal.store-requires
store-requires c =
    let shared = c.args.self.now.table.shared in
    let was = c.clerk.invariant ∙ ap (λ (k : ClerkSeen). at_desk k None) c.clerk.view_is in
    let me = c.exchange.ensures.3 ∙ ap
    (λ (m : tables.Me (Option RootSeen) Visitor). (m.0, (0, Some c.args.root) ∷ tables.rest m.1)) was in (
      c.exchange.ensures.0 ∙ ap (λ (k : ClerkSeen). k.desk) c.clerk.view_is ∙ c.requires.desk,
      omega (arith, c.args.self.now.one.0),
      puts shared.key shared.table_id.slots c.exchange.new.seat.id c.args.clerk c.args.root c.exchange.new.seat.me me
          c.requires.heap c.requires.of_heap c.requires.grows,
    )

pub into_badge-requires : goal.into_badge-requires
into_badge-requires c =
    let me = c.exchange.ensures.3 ∙ ap
    (λ (m : tables.Me (Option RootSeen) Visitor). (m.0, (0, Some c.args.root) ∷ tables.rest m.1)) c.clerk.invariant in
    ap (λ (m : tables.Me (Option RootSeen) Visitor). m.1)
    (c.store.ensures.2.did c.clerk.inside.heap.value c.clerk.inside.found.value c.args.root me)

pub new-requires : goal.new-requires
new-requires c =
    let me = c.exchange.ensures.3 ∙ ap
    (λ (m : tables.Me (Option RootSeen) Visitor). (m.0, (0, Some c.args.root) ∷ tables.rest m.1)) c.clerk.invariant in
    let did = c.store.ensures.2.did c.clerk.inside.heap.value c.clerk.inside.found.value c.args.root me in record {
      knows = c.into_badge.ensures.2 ∙ ap (λ (m : tables.Me (Option RootSeen) Visitor). m.0 ∷ []) did ∙ ap
          (λ (r : RootSeen). visitor c.clerk.inside.heap.value (visits.Did c.clerk.inside.found.value r) ∷ [])
          (sym c.of-left.ensures);
    }
