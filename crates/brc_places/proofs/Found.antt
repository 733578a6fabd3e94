-- What is found in places of which one was emptied, and filled again.
use Rattle.std.proofs.Common.{arith, ◌≡◌, ◌≢◌, ℕ, zero, suc, List, [], ◌∷◌, Option, Some, None, slice_set}
use Rattle.std.proofs.Common.{refl, ap, sym, ◌∙◌, inl, inr}
use Rattle.std.proofs.lemmas.Bool.{cases_eq}
use Rattle.std.proofs.lemmas.Grind.{common_steps}
use Rattle.brc_count.specs.Frames.{HandleSeen}
use Rattle.brc_handles.specs.Handles.{slot}

-- what was found there, said the other way round
pub was_there : (hs : List (Option HandleSeen)) (i : ℕ) (h : HandleSeen) → Some h ≡ slot hs i → slot hs i ≡ Some h
was_there hs i h is = sym is

set_again : (hs : List (Option HandleSeen)) (i : ℕ) (x y : Option HandleSeen)
    → slice_set (slice_set hs i x) i y ≡ slice_set hs i y
set_again [] i x y = refl
set_again (h ∷ hs) zero x y = refl
set_again (h ∷ hs) (suc i) x y = ap (λ (l : List (Option HandleSeen)). h ∷ l) (set_again hs i x y)

set_same : (hs : List (Option HandleSeen)) (i : ℕ) (h : HandleSeen) → Some h ≡ slot hs i → slice_set hs i (Some h) ≡ hs
set_same [] i h is = refl
set_same (x ∷ hs) zero h is = ap (λ (o : Option HandleSeen). o ∷ hs) is
set_same (x ∷ hs) (suc i) h is = ap (λ (l : List (Option HandleSeen)). x ∷ l) (set_same hs i h is)

-- a place that was emptied, and has another handle now, or the one that it had
pub filled_again : (before mid after : List (Option HandleSeen)) (i : ℕ) (x : Option HandleSeen)
    → mid ≡ slice_set before i None → after ≡ slice_set mid i x → after ≡ slice_set before i x
filled_again before mid after i x emptied set = set ∙ ap (λ (l : List (Option HandleSeen)). slice_set l i x) emptied
    ∙ set_again before i None x

pub back_again : (before mid after : List (Option HandleSeen)) (i : ℕ) (given back : HandleSeen) → Some given ≡ slot before i
    → mid ≡ slice_set before i None → after ≡ slice_set mid i (Some back) → back ≡ given → after ≡ before
back_again before mid after i given back was emptied set same =
    filled_again before mid after i (Some back) emptied set
    ∙ ap (λ (h : HandleSeen). slice_set before i (Some h)) same ∙ set_same before i given was

set_else : (hs : List (Option HandleSeen)) (i k : ℕ) → k ≢ i → slot (slice_set hs i None) k ≡ slot hs k
set_else hs i k other = grind (arith, common_steps)

set_here : (hs : List (Option HandleSeen)) (i : ℕ) → slot (slice_set hs i None) i ≡ None
set_here hs i = grind (arith, common_steps)

-- what is found beside a place that was emptied is of another place, and was there before
pub found_beside : (before mid : List (Option HandleSeen)) (i k : ℕ) (object : HandleSeen) → mid ≡ slice_set before i None
    → Some object ≡ slot mid k → (k ≢ i) × (slot before k ≡ Some object)
found_beside before mid i k object emptied is =
    let there : Some object ≡ slot (slice_set before i None) k = is ∙ ap (λ (l : List (Option HandleSeen)). slot l k) emptied
    in elim (cases_eq k i) [
      | inl same ↦
          let none : Some object ≡ None
          = there ∙ ap (slot (slice_set before i None)) same ∙ set_here before i in
          absurd (let no : ⊥ = cc in no)
      | inr other ↦ (other, sym (there ∙ set_else before i k other))
    ]
