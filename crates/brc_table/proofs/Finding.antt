-- A store that is left out where the word has the number already: a load that finds the number is the event, and any
-- other load is none.
use Rattle.std.proofs.Common.{◌≡◌, ◌≢◌, ℕ, List, get_or, refl, sym, subst, inl, inr}
use Rattle.std.proofs.lemmas.Bool.{cases_eq}
use lib.Seq.{set-get_or}
use Rattle.atomic_table.specs.Table.{State, Me, Allows, keeps, stepped}
use Rattle.atomic_table.proofs.Lists.{set_again}

module _ {S V : Type 0} where
  pub found_allowed : (holds : State S V → Type 0) (n id : ℕ) (me : Me S V) (i new : ℕ) (told : ℕ → Me S V → Type 0)
      → Allows holds n id me i (λ _. new) told
      → Allows holds n id me i (λ there. there)
      (λ there after. (there ≡ new → told there after) × (there ≢ new → after ≡ me))
  found_allowed holds n id me i new told allowed s kept deep at small = elim (cases_eq (get_or s.words i 0) new) [
    | inl same ↦
        let done = allowed s kept deep at small in (
          done.0,
          done.1,
          done.2,
          subst (λ m. holds (stepped s i m id me.1 done.0 done.1)) (sym same) done.3,
          ((λ _. done.4), (λ other. absurd (other same))),
        )
    | inr other ↦ (
      me.0,
      keeps,
      tt,
      subst (λ (z : List ℕ × List V). holds (record { words = z.0; homes = s.homes; views = z.1 }))
          (λ k. (sym (set-get_or s.words i 0) k, sym (set_again s.views id me.0 at) k)) kept,
      ((λ same. absurd (other same)), (λ _. refl)),
    )
  ]
