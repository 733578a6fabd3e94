use Rattle.std.proofs.Common.{ap, sym, subst, ◌∙◌}
use Rattle.brc_count.specs.law.declared.rule.view.View.{View}
use Rattle.brc_count.specs.table.Seated.{view_of}
use Rattle.brc_thread.specs.Counting.{Counts}
use Rattle.brc_thread.proofs.Counted.{counts_gathered}
use Rattle.brc_thread.proofs.root.Root.gather.Goals as goal

pub invariant_of-self : goal.invariant_of-self
invariant_of-self g c =
    let old = c.self.inside in
    let told = c.join.ensures.told in
    let seat = c.retired.inside.seat in (
      ap (λ (v : View). v.active) told ∙ c.self.invariant.0,
      ap (λ (v : View). v.thread) told ∙ c.self.invariant.1,
      subst (λ (v : View). Counts v old.registered c.saturating_add-self-inside.result
          (record { allocs = c.saturating_add.result; frees = c.saturating_add-2.result }))
          (sym told)
          (counts_gathered old.seat.view (view_of seat) old.registered old.gathered old.ledger c.retired.inside.cells
          c.saturating_add-self-inside.result c.saturating_add.result c.saturating_add-2.result c.retired.inside.ledger
          c.self.invariant.2 c.retired.invariant.counted c.saturating_add-self-inside.ensures c.saturating_add.ensures
          c.saturating_add-2.ensures),
    )
