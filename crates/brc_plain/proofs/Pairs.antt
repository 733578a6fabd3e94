-- The pairs of a dictionary: where a key stands, what stands beside it, and that no key stands twice.
use Rattle.std.proofs.Common.{◌≡◌, ◌<◌, ◌≤◌, ◌+◌, ◌++◌, ℕ, zero, suc, List, [], ◌∷◌, true, false, if◌then◌else◌, Some}
use Rattle.std.proofs.Common.{None, Ok, Err, refl, subst, sym, ◌∙◌, ap, arith, length, get_or, set}
use Rattle.std.specs.List.{position, position_from, remove}
use Rattle.std.proofs.lemmas.List.Quantifiers.{position-Some}
use Rattle.std.proofs.lemmas.Iterator.Adapters.{position_from-zero}
use Rattle.std.proofs.lemmas.Bool.{lt-ltb, le-ltb}
use Rattle.std.proofs.lemmas.Bool.Decides.{Decides-int_eq}
use Rattle.std.proofs.lemmas.Slice.Eq.{bytes_eq-Decides}
use Rattle.brc_words.specs.declared.key.Key.{Key}
use Rattle.brc_words.specs.declared.key.Key.TheVariants.{Int, Text}
use Rattle.brc_words.specs.Keys.{same_key}
use Rattle.brc_plain.specs.Dicts.{value_at, IsFirstAt, HasNoKeyTwice, replaced, without, put, delete}
use Rattle.brc_plain.specs.Outcomes.{Does, DoesIfRoom}
use Rattle.brc_words.specs.declared.fault.Fault.TheVariants as faults
use Rattle.brc_words.specs.declared.limits.TheConstants.{MOST_ENTRIES}

module _ {A : Type 0} where
  -- two keys that aren't the same aren't so the other way round
  pub apart_turned : (key other : Key A) → same_key key other ≡ false → same_key other key ≡ false
  apart_turned (Int number) (Int other) h = grind (arith, Decides-int_eq)
  apart_turned (Int number) (Text other) h = refl
  apart_turned (Text bytes) (Int other) h = refl
  apart_turned (Text bytes) (Text others) h = grind (arith, bytes_eq-Decides)

module _ {A E : Type 0} where
  -- the first place that passes is where the key stands
  pub stands_at_first : (key : Key A) (pairs : List (Key A × E)) (place : ℕ) (d : Key A × E) → place < length pairs
      → same_key (get_or pairs place d).0 key ≡ true
      → ((k : ℕ) → k < place → same_key (get_or pairs k d).0 key ≡ false) → IsFirstAt key pairs place
  stands_at_first key [] place d within here before = absurd (omega arith)
  stands_at_first key (pair ∷ pairs) zero d within here before = here
  stands_at_first key (pair ∷ pairs) (suc place) d within here before = (
    before 0 (omega arith),
    stands_at_first key pairs place d (omega arith) here
        (λ k below. before (suc k) (omega arith)),
  )

  -- nothing stands beside a key that is found nowhere
  pub none_from : (key : Key A) (pairs : List (Key A × E)) (i : ℕ)
      → position_from (λ pair. same_key pair.0 key) i pairs ≡ None → value_at key pairs ≡ None
  none_from key [] i h = refl
  none_from key (pair ∷ pairs) i h = grind (arith, none_from key pairs (i + 1))

  -- the place that is found is where the key stands
  pub found_there : (key : Key A) (pairs : List (Key A × E)) (place : ℕ)
      → position (λ pair. same_key pair.0 key) pairs ≡ Some place
      → (place < length pairs) × IsFirstAt key pairs place
  found_there key [] place h = absurd (cc)
  found_there key (pair ∷ pairs) place h =
      let all : List (Key A × E) = pair ∷ pairs in
      let told : (place < length all) × (same_key (get_or all place pair).0 key ≡ true)
      × ((k : ℕ) → k < place → same_key (get_or all k pair).0 key ≡ false) =
      position-Some (λ (w : Key A × E). same_key w.0 key) all place pair h
      in (told.0, stands_at_first key all place pair told.0 told.1 told.2)

  pub found_nowhere : (key : Key A) (pairs : List (Key A × E))
      → position (λ pair. same_key pair.0 key) pairs ≡ None → value_at key pairs ≡ None
  found_nowhere key pairs h =
      none_from key pairs 0 (sym (position_from-zero (λ (w : Key A × E). same_key w.0 key) pairs) ∙ h)

  pub value_there : (key : Key A) (pairs : List (Key A × E)) (place : ℕ) (d : Key A × E)
      → IsFirstAt key pairs place → value_at key pairs ≡ Some (get_or pairs place d).1
  value_there key [] place d h = absurd h
  value_there key (pair ∷ pairs) zero d h = rw h refl
  value_there key (pair ∷ pairs) (suc place) d h = rw h.0 (value_there key pairs place d h.1)

  pub replaced_there : (key : Key A) (value : E) (pairs : List (Key A × E)) (place : ℕ) (d : Key A × E)
      → IsFirstAt key pairs place → replaced key value pairs ≡ set pairs place ((get_or pairs place d).0, value)
  replaced_there key value [] place d h = absurd h
  replaced_there key value (pair ∷ pairs) zero d h = rw h refl
  replaced_there key value (pair ∷ pairs) (suc place) d h =
      rw h.0 (ap (λ (rest : List (Key A × E)). pair ∷ rest) (replaced_there key value pairs place d h.1))

  pub without_there : (key : Key A) (pairs : List (Key A × E)) (place : ℕ)
      → IsFirstAt key pairs place → without key pairs ≡ remove pairs place
  without_there key [] place h = absurd h
  without_there key (pair ∷ pairs) zero h = rw h refl
  without_there key (pair ∷ pairs) (suc place) h =
      rw h.0 (ap (λ (rest : List (Key A × E)). pair ∷ rest) (without_there key pairs place h.1))

  -- a key that isn't among the pairs is not that of the first, nor among the rest
  pub none_apart : (key : Key A) (pair : Key A × E) (pairs : List (Key A × E)) → value_at key (pair ∷ pairs) ≡ None
      → (same_key pair.0 key ≡ false) × (value_at key pairs ≡ None)
  none_apart key pair pairs h = (grind arith, grind arith)

  -- a key that isn't there isn't there either once another value stands beside some key
  pub none_replaced : (key other : Key A) (value : E) (pairs : List (Key A × E))
      → value_at key pairs ≡ None → value_at key (replaced other value pairs) ≡ None
  none_replaced key other value [] h = refl
  none_replaced key other value (pair ∷ pairs) h = grind (arith, none_replaced key other value pairs)

  pub none_without : (key other : Key A) (pairs : List (Key A × E))
      → value_at key pairs ≡ None → value_at key (without other pairs) ≡ None
  none_without key other [] h = refl
  none_without key other (pair ∷ pairs) h = grind (arith, none_without key other pairs)

  pub none_more : (key other : Key A) (value : E) (pairs : List (Key A × E)) → same_key other key ≡ false
      → value_at key pairs ≡ None → value_at key (pairs ++ (other, value) ∷ []) ≡ None
  none_more key other value [] apart h = rw apart refl
  none_more key other value (pair ∷ pairs) apart h = grind (arith, none_more key other value pairs apart)

  -- where no key stands twice, none does after another value stands beside some key
  pub distinct_replaced : (key : Key A) (value : E) (pairs : List (Key A × E))
      → HasNoKeyTwice pairs → HasNoKeyTwice (replaced key value pairs)
  distinct_replaced key value [] h = h
  distinct_replaced key value (pair ∷ pairs) h =
      let P : List (Key A × E) → Type 0 = HasNoKeyTwice in
      let rest : HasNoKeyTwice (replaced key value pairs) = distinct_replaced key value pairs h.1 in
      let none : value_at pair.0 (replaced key value pairs) ≡ None = none_replaced pair.0 key value pairs h.0 in
      elim (same_key pair.0 key) as (λ b. P (if b then (pair.0, value) ∷ pairs else pair ∷ replaced key value pairs))
      [ true ↦ h | false ↦ (none, rest) ]

  pub distinct_without : (key : Key A) (pairs : List (Key A × E))
      → HasNoKeyTwice pairs → HasNoKeyTwice (without key pairs)
  distinct_without key [] h = h
  distinct_without key (pair ∷ pairs) h =
      let P : List (Key A × E) → Type 0 = HasNoKeyTwice in
      let rest : HasNoKeyTwice (without key pairs) = distinct_without key pairs h.1 in
      let none : value_at pair.0 (without key pairs) ≡ None = none_without pair.0 key pairs h.0 in
      elim (same_key pair.0 key) as (λ b. P (if b then pairs else pair ∷ without key pairs))
      [ true ↦ h.1 | false ↦ (none, rest) ]

  -- one more pair, of a key that isn't there
  pub distinct_more : (key : Key A) (value : E) (pairs : List (Key A × E)) → value_at key pairs ≡ None
      → HasNoKeyTwice pairs → HasNoKeyTwice (pairs ++ (key, value) ∷ [])
  distinct_more key value [] absent h = (refl, tt)
  distinct_more key value (pair ∷ pairs) absent h =
      let split : (same_key pair.0 key ≡ false) × (value_at key pairs ≡ None) = none_apart key pair pairs absent in (
        none_more pair.0 key value pairs (apart_turned pair.0 key split.0) h.0,
        distinct_more key value pairs split.1 h.1,
      )

  -- what the calls come to where the key stands at a place, and where it stands at none
  pub put_there : (key : Key A) (value : E) (pairs new : List (Key A × E)) (place : ℕ) (d : Key A × E) (old : E)
      → IsFirstAt key pairs place → d ≡ get_or pairs place d → old ≡ d.1 → new ≡ set pairs place (d.0, value)
      → DoesIfRoom (Ok (Some old)) pairs new (put pairs key value)
  put_there key value pairs new place d old h here was becomes =
      rw (DoesIfRoom, value_there key pairs place d h) (
        ap Some (was ∙ ap (λ (w : Key A × E). w.1) here),
        becomes ∙ ap (λ (w : Key A × E). set pairs place (w.0, value)) here
            ∙ sym (replaced_there key value pairs place d h),
      )

  pub delete_there : (key : Key A) (pairs : List (Key A × E)) (place : ℕ) (d : Key A × E) → IsFirstAt key pairs place
      → Does (Ok (get_or pairs place d).1) pairs (remove pairs place) (delete pairs key)
  delete_there key pairs place d h =
      rw (value_there key pairs place d h) (refl, sym (without_there key pairs place h))

  pub put_more : (key : Key A) (value : E) (pairs new : List (Key A × E)) → value_at key pairs ≡ None
      → length pairs < MOST_ENTRIES → new ≡ pairs ++ (key, value) ∷ []
      → DoesIfRoom (Ok None) pairs new (put pairs key value)
  put_more key value pairs new absent room becomes =
      rw (DoesIfRoom, absent, lt-ltb (length pairs) MOST_ENTRIES room) (refl, becomes)

  pub put_refused : (key : Key A) (value : E) (pairs new : List (Key A × E)) → value_at key pairs ≡ None
      → length pairs < MOST_ENTRIES → new ≡ pairs
      → DoesIfRoom (Err faults.OutOfMemory) pairs new (put pairs key value)
  put_refused key value pairs new absent room becomes =
      rw (DoesIfRoom, absent, lt-ltb (length pairs) MOST_ENTRIES room) (refl, becomes)

  pub put_full : (key : Key A) (value : E) (pairs : List (Key A × E)) → value_at key pairs ≡ None
      → MOST_ENTRIES ≤ length pairs → DoesIfRoom (Err faults.Full) pairs pairs (put pairs key value)
  put_full key value pairs absent full =
      rw (DoesIfRoom, absent, le-ltb (length pairs) MOST_ENTRIES full) (refl, refl)

  -- another value beside a key: no key stands twice, and there are as many pairs
  pub distinct_set : (key : Key A) (value : E) (pairs : List (Key A × E)) (place : ℕ) (d : Key A × E)
      → IsFirstAt key pairs place → HasNoKeyTwice pairs
      → HasNoKeyTwice (set pairs place ((get_or pairs place d).0, value))
  distinct_set key value pairs place d there h =
      let P : List (Key A × E) → Type 0 = HasNoKeyTwice in
      subst P (replaced_there key value pairs place d there) (distinct_replaced key value pairs h)

  pub distinct_remove : (key : Key A) (pairs : List (Key A × E)) (place : ℕ)
      → IsFirstAt key pairs place → HasNoKeyTwice pairs → HasNoKeyTwice (remove pairs place)
  distinct_remove key pairs place there h =
      let P : List (Key A × E) → Type 0 = HasNoKeyTwice in
      subst P (without_there key pairs place there) (distinct_without key pairs h)
