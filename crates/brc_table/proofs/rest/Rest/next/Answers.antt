use Rattle.std.proofs.Common.{rules, ◌∙◌, ◌+◌, sym, ap, drop, subst, ◌∷◌, Some, get_or, false, ◌<◌}
use Rattle.std.specs.Mem.Slots.{slots_items}
use Rattle.brc_table.specs.Rest.{from_block}
use Rattle.brc_table.proofs.Remaining.{passes, meets, left_filled, gone_empty}
use Rattle.brc_table.proofs.rest.Rest.next.Goals as goal

pub returns-in-Some-clause-gives : goal.returns-in-Some-clause-gives
returns-in-Some-clause-gives g c =
    let items = slots_items c.loop-at.closed.slots in
    let others = c.take-slot.ensures.others in
    c.loop-at.invariant.3 ∙ meets items c.loop-at.at c.in-Some.block (search rules)
    ∙ ap (λ z. Some c.in-Some.block ∷ drop (c.loop-at.at + 1) z) (sym others.0)

pub loop-at-preserved : goal.loop-at-preserved
loop-at-preserved g c =
    let items = slots_items c.loop-at.closed.slots in
    let others = c.take-slot.ensures.others in (
      search rules,
      (λ k from_it low. (ap (λ z. get_or z k false) others.1)
          ∙ left_filled _ c.loop-at.at _ c.loop-at.invariant.1 k from_it (subst (λ m. k < m) others.2 low)),
      (λ k low. (ap (λ z. get_or z k false) others.1) ∙ gone_empty _ c.loop-at.at c.loop-at.invariant.2 k low),
      c.loop-at.invariant.3 ∙ passes items c.loop-at.at (search rules)
          ∙ ap (λ z. from_block (drop (c.loop-at.at + 1) z)) (sym others.0),
    )
