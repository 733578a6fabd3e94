-- Where a key stands among pairs, and what the plain calls make of them, by their keys and their cells.
use Rattle.std.proofs.Common.{◌≡◌, ◌≢◌, ℕ, zero, suc, Bool, true, false, List, [], ◌∷◌, All, Some, None, refl, sym, ◌∙◌}
use Rattle.std.proofs.Common.{ap, subst, arith, take, slice_get, slice_set, remove, true≢false}
use Rattle.brc_words.specs.declared.entry.Entry.{Entry}
use Rattle.brc_words.specs.declared.key.Key.{Key}
use Rattle.brc_words.specs.Keys.{same_key, same_key-exact, same_key-itself}
use Rattle.brc_count.specs.block.Pairs.{keys_in, noted_in}
use Rattle.brc_count.proofs.block.Columns.{map-remove}
use Rattle.brc_plain.specs.Dicts.{value_at, IsFirstAt, replaced, without}
use Rattle.brc_plain.proofs.Pairs.{none_apart, without_there}

module _ {A : Type 0} where
  never_same : (other key : Key A) → other ≢ key → same_key other key ≡ false
  never_same other key else = by (same_key other key) refl
    where
      by : (b : Bool) → same_key other key ≡ b → same_key other key ≡ false
      by true told = absurd (else (same_key-exact other key told))
      by false told = told

  -- the first index with the key is where it stands, and a key that is at no index stands beside nothing
  pub first_stands : (key : Key A) (pairs : List (Key A × Entry)) (index : ℕ) → slice_get (keys_in pairs) index ≡ Some key
      → All (λ other. other ≢ key) (take index (keys_in pairs)) → IsFirstAt key pairs index
  first_stands key [] index at before = cc
  first_stands key (pair ∷ pairs) zero at before =
      let same : key ≡ pair.0 = cc in
      subst (λ k. same_key pair.0 k ≡ true) (sym same) (same_key-itself pair.0)
  first_stands key (pair ∷ pairs) (suc index) at before = (
    never_same pair.0 key (before 0 pair.0 (omega arith)),
    first_stands key pairs index at (λ k d below. before (suc k) d (omega arith)),
  )

  pub none_stands : (key : Key A) (pairs : List (Key A × Entry)) → All (λ other. other ≢ key) (keys_in pairs)
      → value_at key pairs ≡ None
  none_stands key [] none = refl
  none_stands key (pair ∷ pairs) none =
      rw (never_same pair.0 key (none 0 pair.0 (omega arith)))
      (none_stands key pairs (λ k d below. none (suc k) d (omega arith)))

  -- where nothing stands beside the key, each key is another
  pub others_than : (key : Key A) (pairs : List (Key A × Entry)) → value_at key pairs ≡ None
      → All (λ other. other ≢ key) (keys_in pairs)
  others_than key [] none k d below = absurd (omega arith)
  others_than key (pair ∷ pairs) none zero d below = λ same.
      true≢false (sym (subst (λ k. same_key pair.0 k ≡ true) same (same_key-itself pair.0))
      ∙ (none_apart key pair pairs none).0)
  others_than key (pair ∷ pairs) none (suc k) d below = others_than key pairs (none_apart key pair pairs none).1 k d
      (omega arith)

  -- beside each key there is a cell
  pub cell_beside : (key : Key A) (pairs : List (Key A × Entry)) (index : ℕ) → slice_get (keys_in pairs) index ≡ Some key
      → slice_get (noted_in pairs) index ≡ None → ⊥
  cell_beside key [] index at none = cc
  cell_beside key (pair ∷ pairs) zero at none = cc
  cell_beside key (pair ∷ pairs) (suc index) at none = cell_beside key pairs index at none

  -- ---- what stands there, and what is left

  pub beside_is : (key : Key A) (pairs : List (Key A × Entry)) (index : ℕ) (cell : Entry) → IsFirstAt key pairs index
      → slice_get (noted_in pairs) index ≡ Some cell → value_at key pairs ≡ Some cell
  beside_is key [] index cell there beside = absurd there
  beside_is key (pair ∷ pairs) zero cell there beside = rw there beside
  beside_is key (pair ∷ pairs) (suc index) cell there beside =
      rw there.0 (beside_is key pairs index cell there.1 beside)

  pub replaced_keys : (key : Key A) (value : Entry) (pairs : List (Key A × Entry)) (index : ℕ) → IsFirstAt key pairs index
      → keys_in (replaced key value pairs) ≡ keys_in pairs
  replaced_keys key value [] index there = absurd there
  replaced_keys key value (pair ∷ pairs) zero there = rw there refl
  replaced_keys key value (pair ∷ pairs) (suc index) there =
      rw there.0 (ap (λ ks. pair.0 ∷ ks) (replaced_keys key value pairs index there.1))

  pub replaced_cells : (key : Key A) (value : Entry) (pairs : List (Key A × Entry)) (index : ℕ) → IsFirstAt key pairs index
      → noted_in (replaced key value pairs) ≡ slice_set (noted_in pairs) index value
  replaced_cells key value [] index there = absurd there
  replaced_cells key value (pair ∷ pairs) zero there = rw there refl
  replaced_cells key value (pair ∷ pairs) (suc index) there =
      rw there.0 (ap (λ cs. pair.1 ∷ cs) (replaced_cells key value pairs index there.1))

  pub without_keys : (key : Key A) (pairs : List (Key A × Entry)) (index : ℕ) → IsFirstAt key pairs index
      → keys_in (without key pairs) ≡ remove (keys_in pairs) index
  without_keys key pairs index there = ap keys_in (without_there key pairs index there)
      ∙ map-remove (λ pair. pair.0) pairs index

  pub without_cells : (key : Key A) (pairs : List (Key A × Entry)) (index : ℕ) → IsFirstAt key pairs index
      → noted_in (without key pairs) ≡ remove (noted_in pairs) index
  without_cells key pairs index there = ap noted_in (without_there key pairs index there)
      ∙ map-remove (λ pair. pair.1) pairs index

-- ---- pairs are told by their keys and their cells

same_pair : {K : Type 0} (x y : K × Entry) → x.0 ≡ y.0 → x.1 ≡ y.1 → x ≡ y
same_pair x y keys cells = ap (λ k. (k, x.1)) keys ∙ ap (λ c. (y.0, c)) cells

pub same_columns : {K : Type 0} (xs ys : List (K × Entry)) → keys_in xs ≡ keys_in ys → noted_in xs ≡ noted_in ys → xs ≡ ys
same_columns [] [] keys cells = refl
same_columns [] (y ∷ ys) keys cells = cc
same_columns (x ∷ xs) [] keys cells = cc
same_columns {K} (x ∷ xs) (y ∷ ys) keys cells =
    let first : x ≡ y = same_pair x y (cc) (cc) in
    let rest : xs ≡ ys = same_columns xs ys (cc) (cc) in
    ap (λ p. p ∷ xs) first ∙ ap (λ ps. y ∷ ps) rest
