-- What a table leaves.
use Rattle.std.proofs.Common.{set, ◌<◌, ◌≢◌, Bool, true, false, get_or, inl, inr, ◌≡◌, ℕ, zero, suc, ◌+◌, ◌≤◌, List, []}
use Rattle.std.proofs.Common.{◌∷◌, drop, length, Option, Some, None, refl, sym, ◌∙◌, ap, subst, arith}
use Rattle.std.proofs.lemmas.Bool.{cases_eq}
use mathlib.Core.Option.{some}
use lib.ListN.{get_elem?}
use Rattle.atomic_table.specs.Table.{Final, Seen}
use Rattle.atomic_table.proofs.Lists.{drop_at}
use Rattle.brc_block.specs.declared.payload.Payload.{Payload}
use Rattle.law.specs.declared.rule.view.View.{View}
use Rattle.law.specs.rule.Rule.{Kept}
use Rattle.brc_table.specs.Rest.{from_block, Remains}
use Rattle.brc_table.specs.Shown.{shows}

-- ---- marks of what is filled

read_other : (filled : List Bool) (at k : ℕ) → k ≢ at → get_or (set filled at false) k false ≡ get_or filled k false
read_other [] at k other = refl
read_other (x ∷ filled) zero zero other = absurd (other refl)
read_other (x ∷ filled) zero (suc k) other = refl
read_other (x ∷ filled) (suc at) zero other = refl
read_other (x ∷ filled) (suc at) (suc k) other = read_other filled at k (λ e. other (ap suc e))

read_set : (filled : List Bool) (at : ℕ) → get_or (set filled at false) at false ≡ false
read_set [] at = refl
read_set (x ∷ filled) zero = refl
read_set (x ∷ filled) (suc at) = read_set filled at

module _ {A : Type 0} where
  -- the last state, at the table's sizes
  pub remains : (n limit cells most id : ℕ) (root : View) (words : List ℕ) (slots : List (Option (ℕ × Payload A)))
      → cells ≡ n → most ≡ limit
      → Final (Seen (Kept shows cells most) id root) words slots → Remains n limit id root slots
  remains n limit cells most id root words slots same_cells same_most last = record {
    state = last.0;
    kept = subst (λ (z : ℕ × ℕ). Kept shows z.0 z.1 last.0) (λ i. (same_cells i, same_most i)) last.1.0;
    seen = last.1.1;
    deep = last.3;
    each_home = last.4;
  }

  -- an empty slot is passed over
  pub passes : (slots : List (Option (ℕ × Payload A))) (at : ℕ) → get_elem? slots at ≡ some None
      → from_block (drop at slots) ≡ from_block (drop (at + 1) slots)
  passes slots at there = let next : suc at ≡ at + 1 = omega arith in ap from_block (drop_at slots at None there)
      ∙ ap (λ k. from_block (drop k slots)) next

  -- a block is next
  pub meets : (slots : List (Option (ℕ × Payload A))) (at : ℕ) (block : ℕ × Payload A)
      → get_elem? slots at ≡ some (Some block) → from_block (drop at slots) ≡ Some block ∷ drop (at + 1) slots
  meets slots at block there = let next : suc at ≡ at + 1 = omega arith in
      ap from_block (drop_at slots at (Some block) there) ∙ ap (λ k. Some block ∷ drop k slots) next

  -- nothing is past the end
  pub ends_so : (slots : List (Option (ℕ × Payload A))) (at : ℕ) → length slots ≤ at → from_block (drop at slots) ≡ []
  ends_so [] zero past = refl
  ends_so [] (suc at) past = refl
  ends_so (x ∷ slots) zero past = absurd (omega (arith, past))
  ends_so (x ∷ slots) (suc at) past = ends_so slots at (omega (arith, past))

-- one place less is filled
pub left_filled : (filled : List Bool) (at wide : ℕ) → ((k : ℕ) → at ≤ k → k < wide → get_or filled k false ≡ true)
    → (k : ℕ) → at + 1 ≤ k → k < wide → get_or (set filled at false) k false ≡ true
left_filled filled at wide full k from_it low = read_other filled at k (omega (arith, from_it))
    ∙ full k (omega (arith, from_it)) low

pub gone_empty : (filled : List Bool) (at : ℕ) → ((k : ℕ) → k < at → get_or filled k false ≡ false) → (k : ℕ)
    → k < at + 1 → get_or (set filled at false) k false ≡ false
gone_empty filled at empty k low = elim (cases_eq k at) [
  | inl same ↦ subst (λ j. get_or (set filled at false) j false ≡ false) (sym same) (read_set filled at)
  | inr other ↦ read_other filled at k other ∙ empty k (omega (arith, low, other))
]
