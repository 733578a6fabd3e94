-- The calls of dictionaries commute with a map of their values.
use Rattle.std.proofs.Common.{◌≡◌, ◌∙◌, refl, sym, ap, ℕ, Bool, true, false, cond, ltb, List, [], ◌∷◌, ◌++◌, map}
use Rattle.std.proofs.Common.{length, Option, Some, None, Result, Ok, Err}
use Rattle.std.specs.Option.{option_map}
use Rattle.std.proofs.lemmas.List.{map-append, length-map}
use Rattle.brc_words.specs.declared.fault.Fault.{Fault}
use Rattle.brc_words.specs.declared.fault.Fault.TheVariants as faults
use Rattle.brc_words.specs.declared.key.Key.{Key}
use Rattle.brc_words.specs.Keys.{same_key}
use Rattle.brc_words.specs.declared.limits.TheConstants.{MOST_ENTRIES}
use Rattle.brc_plain.specs.Outcomes.{or_fault, leaving}
use Rattle.brc_plain.specs.Dicts as dicts
use Rattle.brc_plain.specs.Dicts.{value_at, replaced, without}
use Rattle.law_isolation.proofs.Mapped_Lists.{outcome_mapped, answer_mapped, or_fault_mapped, leaving_mapped}

module _ {X Y : Type 0} (f : X → Y) where
  some_if : (b : Bool) (x : X) (o : Option X) → cond b (Some (f x)) (option_map f o) ≡ option_map f (cond b (Some x) o)
  some_if true x o = refl
  some_if false x o = refl

module _ {A X Y : Type 0} (f : X → Y) where
  -- the key stays, and its value is mapped
  abbrev pub beside : Key A × X → Key A × Y
  beside pair = (pair.0, f pair.1)

  abbrev pub values_mapped : List (Key A × X) → List (Key A × Y)
  values_mapped pairs = map beside pairs

  pub value_mapped : (key : Key A) (pairs : List (Key A × X)) → value_at key (values_mapped pairs) ≡ option_map f
      (value_at key pairs)
  value_mapped key [] = refl
  value_mapped key (pair ∷ pairs) =
      ap (cond (same_key pair.0 key) (Some (f pair.1))) (value_mapped key pairs)
      ∙ some_if f (same_key pair.0 key) pair.1 (value_at key pairs)

  pairs_if : (b : Bool) (one other : List (Key A × X)) → cond b (values_mapped one) (values_mapped other)
      ≡ values_mapped (cond b one other)
  pairs_if true one other = refl
  pairs_if false one other = refl

  pub replaced_mapped : (key : Key A) (value : X) (pairs : List (Key A × X))
      → replaced key (f value) (values_mapped pairs) ≡ values_mapped (replaced key value pairs)
  replaced_mapped key value [] = refl
  replaced_mapped key value (pair ∷ pairs) =
      ap (λ (rest : List (Key A × Y)). cond (same_key pair.0 key) ((pair.0, f value) ∷ values_mapped pairs)
      (beside pair ∷ rest)) (replaced_mapped key value pairs)
      ∙ pairs_if (same_key pair.0 key) ((pair.0, value) ∷ pairs) (pair ∷ replaced key value pairs)

  pub without_mapped : (key : Key A) (pairs : List (Key A × X)) → without key (values_mapped pairs) ≡ values_mapped
      (without key pairs)
  without_mapped key [] = refl
  without_mapped key (pair ∷ pairs) =
      ap (λ (rest : List (Key A × Y)). cond (same_key pair.0 key) (values_mapped pairs) (beside pair ∷ rest))
      (without_mapped key pairs)
      ∙ pairs_if (same_key pair.0 key) pairs (pair ∷ without key pairs)

  put_if : (b : Bool) (key : Key A) (value : X) (pairs : List (Key A × X))
      → cond b (Ok (None, values_mapped pairs ++ (key, f value) ∷ [])) (Err faults.Full)
      ≡ outcome_mapped (option_map f) values_mapped (cond b (Ok (None, pairs ++ (key, value) ∷ [])) (Err faults.Full))
  put_if true key value pairs = ap (λ (rest : List (Key A × Y)). Ok (None, rest))
      (sym (map-append beside pairs ((key, value) ∷ [])))
  put_if false key value pairs = refl

  -- by what stands beside the key
  put_by : (key : Key A) (value : X) (pairs : List (Key A × X)) (o : Option X)
      → (elim (option_map f o) as (λ _. Result (Option Y × List (Key A × Y)) Fault) [
        | Some old ↦ Ok (Some old, replaced key (f value) (values_mapped pairs))
        | None ↦ cond (ltb (length (values_mapped pairs)) MOST_ENTRIES)
            (Ok (None, values_mapped pairs ++ (key, f value) ∷ [])) (Err faults.Full)
      ])
      ≡ outcome_mapped (option_map f) values_mapped (elim o as (λ _. Result (Option X × List (Key A × X)) Fault) [
        | Some old ↦ Ok (Some old, replaced key value pairs)
        | None ↦ cond (ltb (length pairs) MOST_ENTRIES) (Ok (None, pairs ++ (key, value) ∷ [])) (Err faults.Full)
      ])
  put_by key value pairs (Some old) = ap (λ (rest : List (Key A × Y)). Ok (Some (f old), rest))
      (replaced_mapped key value pairs)
  put_by key value pairs None =
      ap (λ (len : ℕ). cond (ltb len MOST_ENTRIES) (Ok (None, values_mapped pairs ++ (key, f value) ∷ []))
      (Err faults.Full)) (length-map pairs beside)
      ∙ put_if (ltb (length pairs) MOST_ENTRIES) key value pairs

  pub put_mapped : (key : Key A) (value : X) (pairs : List (Key A × X))
      → dicts.put (values_mapped pairs) key (f value) ≡ outcome_mapped (option_map f) values_mapped
      (dicts.put pairs key value)
  put_mapped key value pairs =
      ap (λ (o : Option Y). elim o as (λ _. Result (Option Y × List (Key A × Y)) Fault) [
        | Some old ↦ Ok (Some old, replaced key (f value) (values_mapped pairs))
        | None ↦ cond (ltb (length (values_mapped pairs)) MOST_ENTRIES)
            (Ok (None, values_mapped pairs ++ (key, f value) ∷ [])) (Err faults.Full)
      ]) (value_mapped key pairs)
      ∙ put_by key value pairs (value_at key pairs)

  pub find_mapped : (key : Key A) (pairs : List (Key A × X)) → dicts.find (values_mapped pairs) key ≡ answer_mapped f
      (dicts.find pairs key)
  find_mapped key pairs = ap (or_fault faults.NoSuchKey) (value_mapped key pairs)
      ∙ or_fault_mapped f faults.NoSuchKey (value_at key pairs)

  pub delete_mapped : (key : Key A) (pairs : List (Key A × X))
      → dicts.delete (values_mapped pairs) key ≡ outcome_mapped f values_mapped (dicts.delete pairs key)
  delete_mapped key pairs =
      ap (λ (rest : List (Key A × Y)). leaving rest (dicts.find (values_mapped pairs) key)) (without_mapped key pairs)
      ∙ ap (leaving (values_mapped (without key pairs))) (find_mapped key pairs)
      ∙ leaving_mapped f values_mapped (without key pairs) (dicts.find pairs key)
