use Rattle.std.proofs.Common.{◌+◌, arith, ap, sym, subst, ◌∙◌}
use Rattle.brc_count.specs.law.declared.rule.view.View.{View}
use Rattle.brc_thread.specs.Counting.{Counts}
use Rattle.brc_thread.proofs.Counted.{counts_registered}
use Rattle.brc_thread.proofs.root.Root.register.Goals as goal

pub overflow_add-self : goal.overflow_add-self
overflow_add-self g c = omega (arith, c.self.invariant.2.few)

pub invariant_of-self : goal.invariant_of-self
invariant_of-self g c =
    let old = c.self.inside in
    let told = c.in-Ok.ensures.root in (
      ap (λ (v : View). v.active) told ∙ c.self.invariant.0,
      ap (λ (v : View). v.thread) told ∙ c.self.invariant.1,
      subst (λ (v : View). Counts v (old.registered + 1) old.gathered old.ledger) (sym told)
          (counts_registered old.seat.view old.registered old.gathered old.ledger c.self.invariant.2
          (omega (arith, c.self.invariant.2.all_registered))),
    )
