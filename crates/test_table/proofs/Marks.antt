-- The mark of a dead object whose block a call answers is set.
use Rattle.std.proofs.Common.{◌≡◌, ℕ, ◌<◌, true, false, if◌then◌else◌, List, set, Option, Some, None, IfSome, sym, ◌∙◌}
use Rattle.std.proofs.Common.{ap, subst}
use Rattle.brc_block.specs.declared.payload.Payload.{Payload}
use Rattle.law.specs.world.Lists.{is_marked}
use Rattle.law.proofs.world.Changes.{read_here}
use Rattle.law.specs.declared.rule.told.LogItem.{LogItem}
use Rattle.law.specs.rule.Seen.{part_seen}
use Rattle.brc_table.specs.Moving.{is_there}
use Rattle.brc_biased.proofs.Marking.{marks_wide}

module _ {A : Type 0} where
  pub marked_after : (n : ℕ) (before log : List LogItem) (c : ℕ) (block : Option (ℕ × Payload A))
      → (part_seen n log).worklist
      ≡ (if is_there block then set (part_seen n before).worklist c true else (part_seen n before).worklist) → c < n
      → IfSome block (λ there. is_marked (part_seen n log).worklist c ≡ true)
  marked_after n before log c None now low = tt
  marked_after n before log c (Some there) now low =
      ap (λ marks. is_marked marks c) now ∙ read_here (part_seen n before).worklist c true false
      (subst (λ m. c < m) (sym (marks_wide n before)) low)
