-- Look-ups by a key among pairs, whose keys are the same exactly where they are equal.
use Rattle.std.proofs.Common.{◌≡◌, ◌≢◌, ℕ, ◌+◌, ◌≤◌, zero, suc, Bool, true, false, cond, List, [], ◌∷◌, get_or, take}
use Rattle.std.proofs.Common.{slice_get, slice_set, position, All, Option, Some, None, is_some, IfSome, IfNone, refl}
use Rattle.std.proofs.Common.{sym, ◌∙◌, ap, subst, arith, true≢false}
use Rattle.std.specs.Map.{lookup}
use Rattle.std.proofs.lemmas.Option.{slice_get-get_or}
use Rattle.std.proofs.lemmas.List.Elements.{All-nil, All-more}
use Rattle.std.proofs.lemmas.List.Quantifiers.{position-Some}
use Rattle.indexmap.specs.IndexMap.{set_value_at}
use Rattle.brc_words.specs.declared.key.Key.{Key}
use Rattle.brc_words.specs.Keys.{same_key, same_key-exact, same_key-itself}
use Rattle.brc_words.specs.declared.entry.Entry.{Entry}
use Rattle.brc_block.specs.Pairs.{keys_in, noted_in}

-- another value beside the key at a place is another entry at that place
pub noted-set_value_at : {K : Type 0} (pairs : List (K × Entry)) (i : ℕ) (entry : Entry)
    → noted_in (set_value_at pairs i entry) ≡ slice_set (noted_in pairs) i entry
noted-set_value_at [] i entry = refl
noted-set_value_at (pair ∷ pairs) zero entry = refl
noted-set_value_at (pair ∷ pairs) (suc i) entry = ap (λ rest. pair.1 ∷ rest) (noted-set_value_at pairs i entry)

some_is_none : {X : Type 0} {x : X} → Some x ≡ None → ⊥
some_is_none told = true≢false (ap is_some told)

apart : {X : Type 0} (b : Bool) (x : X) (rest : Option X) → cond b (Some x) rest ≡ None → (b ≡ false) × (rest ≡ None)
apart true x rest none = absurd (some_is_none none)
apart false x rest none = (refl, none)

none_from_test : {X : Type 0} (found : Option X) → is_some found ≡ false → found ≡ None
none_from_test None told = refl
none_from_test (Some x) told = absurd (true≢false told)

module _ {A : Type 0} (key : Key A) where
  other_from_false : (other : Key A) → same_key key other ≡ false → other ≢ key
  other_from_false other told is = true≢false (sym (same_key-itself key) ∙ ap (same_key key) (sym is) ∙ told)

  false_from_other : (other : Key A) → other ≢ key → same_key key other ≡ false
  false_from_other other else = by (same_key key other) refl
    where
      by : (b : Bool) → same_key key other ≡ b → same_key key other ≡ false
      by true told = absurd (else (sym (same_key-exact key other told)))
      by false told = told

  -- ---- what stands at the place that is found, and before it

  pub found_key : (keys : List (Key A)) (place : Option ℕ) → place ≡ position (same_key key) keys
      → IfSome place (λ i. slice_get keys i ≡ Some key)
  found_key keys None is = tt
  found_key keys (Some i) is =
      let p = position-Some (same_key key) keys i key (sym is) in
      slice_get-get_or keys i key p.0 ∙ ap Some (sym (same_key-exact key (get_or keys i key) p.1))

  pub before_key : (keys : List (Key A)) (place : Option ℕ) → place ≡ position (same_key key) keys
      → IfSome place (λ i. All (λ other. other ≢ key) (take i keys))
  before_key keys None is = tt
  before_key keys (Some i) is = upto i (omega arith)
    where
      upto : (n : ℕ) → n ≤ i → All (λ other. other ≢ key) (take n keys)
      upto zero low = All-nil (λ other. other ≢ key)
      upto (suc n) low =
          let p = position-Some (same_key key) keys i key (sym is) in
          let more : n + 1 ≡ suc n = omega arith in
          subst (λ m. All (λ other. other ≢ key) (take m keys)) more
          (All-more (λ other. other ≢ key) keys n key (omega (arith, low, p.0)) (upto n (omega (arith, low)))
          (other_from_false (get_or keys n key) (p.2 n (omega (arith, low)))))

  -- ---- a key that isn't there

  nowhere : (pairs : List (Key A × Entry)) → lookup (same_key key) pairs ≡ None → All (λ other. other ≢ key) (keys_in pairs)
  nowhere [] none k d below = absurd (omega arith)
  nowhere (pair ∷ pairs) none zero d below =
      other_from_false pair.0 (apart (same_key key pair.0) pair.1 (lookup (same_key key) pairs) none).0
  nowhere (pair ∷ pairs) none (suc k) d below =
      nowhere pairs (apart (same_key key pair.0) pair.1 (lookup (same_key key) pairs) none).1 k d (omega arith)

  pub absent_key : (pairs : List (Key A × Entry)) (place : Option ℕ) → is_some place ≡ is_some (lookup (same_key key) pairs)
      → IfNone place (All (λ other. other ≢ key) (keys_in pairs))
  absent_key pairs (Some i) is = tt
  absent_key pairs None is = nowhere pairs (none_from_test (lookup (same_key key) pairs) (sym is))

  pub none_there : (pairs : List (Key A × Entry)) → All (λ other. other ≢ key) (keys_in pairs)
      → lookup (same_key key) pairs ≡ None
  none_there [] none = refl
  none_there (pair ∷ pairs) none =
      ap (λ b. cond b (Some pair.1) (lookup (same_key key) pairs))
      (false_from_other pair.0 (none 0 pair.0 (omega arith)))
      ∙ none_there pairs (λ k d below. none (suc k) d (omega arith))
