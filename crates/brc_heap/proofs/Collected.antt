-- What blocks show, collected one after the other.
use Rattle.std.proofs.Common.{◌≡◌, ◌+◌, ◌++◌, ℕ, zero, suc, List, [], ◌∷◌, Option, Some, None, sym, ◌∙◌, ap, IfSome}
use Rattle.std.proofs.Common.{append_assoc, add-one, take, slice_get}
use Rattle.std.specs.Prelude.{IsSomeAnd}
use Rattle.std.proofs.lemmas.List.{append-nil}
use Rattle.brc_count.specs.block.declared.payload.Payload.{Payload}
use Rattle.brc_report.specs.declared.content.Content.{Content}
use Rattle.brc_count.specs.table.Rest.{from_block}
use Rattle.brc_thread.specs.Emptied.{blocks_in}
use Rattle.brc_thread.proofs.At_Home.{gives_next, gives_none}
use Rattle.brc_heap.specs.Contents.{shown_in, contents_in}

-- one entry more of those in front
one_more : {X : Type 0} (xs : List X) (i : ℕ) (x : X) → slice_get xs i ≡ Some x → take (suc i) xs ≡ take i xs ++ x ∷ []
one_more [] i x at = cc
one_more (y ∷ xs) zero x at = let same : y ≡ x = cc in ap (λ z. z ∷ []) same
one_more (y ∷ xs) (suc i) x at = ap (λ ys. y ∷ ys) (one_more xs i x at)

pub taken_more : {X : Type 0} (items new xs : List X) (i : ℕ) (x : X) → items ≡ take i xs → new ≡ items ++ x ∷ []
    → slice_get xs i ≡ Some x → new ≡ take (i + 1) xs
taken_more items new xs i x so_far more at =
    more ∙ ap (λ ys. ys ++ x ∷ []) so_far ∙ sym (one_more xs i x at) ∙ ap (λ n. take n xs) (sym (add-one i))

module _ {V A : Type 0} (items : V → List (Content A)) (all : List (Content A)) where
  -- one block more
  pub collected_on : (found after : Option V) (rest later : List (Option (ℕ × Payload A))) (block : ℕ × Payload A)
      → from_block rest ≡ Some block ∷ later
      → IfSome after (λ new. IsSomeAnd found (λ old. items new ≡ items old ++ shown_in block))
      → IfSome found (λ old. items old ++ contents_in (blocks_in rest) ≡ all)
      → IfSome after (λ new. items new ++ contents_in (blocks_in later) ≡ all)
  collected_on found None rest later block gives more so_far = tt
  collected_on None (Some new) rest later block gives more so_far = absurd more
  collected_on (Some old) (Some new) rest later block gives more so_far =
      ap (λ xs. xs ++ contents_in (blocks_in later)) more
      ∙ append_assoc (items old) (shown_in block) (contents_in (blocks_in later))
      ∙ ap (λ blocks. items old ++ contents_in blocks) (sym (gives_next rest later block gives))
      ∙ so_far

  -- no block more
  pub collected_all : (found : Option V) (rest : List (Option (ℕ × Payload A))) → from_block rest ≡ []
      → IfSome found (λ old. items old ++ contents_in (blocks_in rest) ≡ all) → IfSome found (λ old. items old ≡ all)
  collected_all None rest none so_far = tt
  collected_all (Some old) rest none so_far =
      sym (append-nil (items old)) ∙ ap (λ blocks. items old ++ contents_in blocks)
      (sym (gives_none rest none)) ∙ so_far
