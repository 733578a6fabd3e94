use Rattle.std.proofs.Common.{rules, arith, ◌≡◌, ◌∷◌, [], ◌+◌, sym, subst, ap, ◌∙◌, if◌then◌else◌}
use Rattle.std.proofs.lemmas.Bool.{eq-eqb, ne_eqb}
use Rattle.law.specs.declared.world.event.Step.TheVariants.{Register}
use Rattle.law.specs.known.Root.{marks_of, rows_of}
use Rattle.law.specs.declared.rule.told.Moved.TheVariants as moves
use Rattle.law.specs.declared.rule.told.LogItem.{LogItem}
use Rattle.law.specs.declared.rule.told.LogItem.TheVariants.{Stepped}
use Rattle.law.specs.rule.Logs.{log_items}
use Rattle.brc_table.specs.Numbers.{AreFree}
use Rattle.brc_table.proofs.Numbering.{taken_number, taken_rows}
use Rattle.brc_table.proofs.table.HeapTable.split.Goals as goal

pub invariant_of-root : goal.invariant_of-root
invariant_of-root g c =
    let before = c.root.inside.place.me.0.log in
    let told : c.split_seat-place.new.seat.me.0.log ≡ Stepped (Register c.next-thread.result) 0 moves.Nothing ∷ before
    = search rules in
    let free = c.root.invariant.3 in (
      search rules,
      search rules,
      search rules,
      subst (λ log. AreFree c.without-root-inside.result (marks_of (log_items log))) (sym told)
          (taken_number c.root.inside.free c.without-root-inside.result c.next-thread.result 0 [] (log_items before)
          free (search rules) (search rules) c.without-root-inside.ensures),
      sym (ap (λ log. rows_of (log_items log)) told
          ∙ taken_rows c.next-thread.result c.root.inside.rows 0 [] (log_items before) c.root.invariant.4 (search rules)
          ∙ ap (λ b. if b then c.next-thread.result + 1 else c.root.inside.rows)
          (eq-eqb c.next-thread.result c.root.inside.rows c.if-thread-root.true)),
    )

pub invariant_of-root-else-thread-root : goal.invariant_of-root-else-thread-root
invariant_of-root-else-thread-root g c =
    let before = c.root.inside.place.me.0.log in
    let told : c.split_seat-place.new.seat.me.0.log ≡ Stepped (Register c.next-thread.result) 0 moves.Nothing ∷ before
    = search rules in
    let free = c.root.invariant.3 in (
      search rules,
      search rules,
      search rules,
      subst (λ log. AreFree c.without-root-inside.result (marks_of (log_items log))) (sym told)
          (taken_number c.root.inside.free c.without-root-inside.result c.next-thread.result 0 [] (log_items before)
          free (search rules) (search rules) c.without-root-inside.ensures),
      sym (ap (λ log. rows_of (log_items log)) told
          ∙ taken_rows c.next-thread.result c.root.inside.rows 0 [] (log_items before) c.root.invariant.4 (search rules)
          ∙ ap (λ b. if b then c.next-thread.result + 1 else c.root.inside.rows)
          (ne_eqb c.next-thread.result c.root.inside.rows c.if-thread-root.false)),
    )
