-- Contents of an edited payload: its kind stays, and its entries are those of a plain list that is edited so.
use Rattle.std.proofs.Common.{◌≡◌, ◌≢◌, All, ℕ, List, [], ◌∷◌, ◌++◌, Option, Some, None, map, refl, sym, ◌∙◌, ap, subst}
use Rattle.std.proofs.Common.{slice_get, slice_set, remove, zero, suc, length, ◌<◌, arith}
use Rattle.std.proofs.lemmas.List.Elements.{All-map}
use Rattle.brc_words.specs.declared.entry.Entry.{Entry}
use Rattle.brc_words.specs.Notes.{cells_of}
use Rattle.brc_words.proofs.Cells.{cells_put, cells_set, cells_removed}
use Rattle.brc_words.specs.declared.key.Key.{Key}
use Rattle.brc_count.specs.block.Pairs.{keys_in as pair_keys, noted_in as pair_entries}
use Rattle.brc_count.specs.block.Payload.{noted_of, entries_of}
use Rattle.brc_count.proofs.block.Columns.{map-remove}
use Rattle.brc_count.specs.block.declared.payload.Payload.{Payload}
use Rattle.brc_count.specs.block.declared.payload.Payload.TheVariants as payloads
use Rattle.brc_count.specs.law.declared.rule.contents.PlainKey.{PlainKey}
use Rattle.brc_count.specs.law.declared.rule.contents.Contents.{Contents}
use Rattle.brc_count.specs.law.declared.rule.contents.Contents.TheVariants.{Nothing, Truth, Int, Text, «List» as Cells, Dict}
use Rattle.brc_count.specs.law.declared.rule.contents.Contents.TheVariants.{Mailbox}
use Rattle.brc_count.specs.law.rule.Keys.{keys_in, KeyPut}
use Rattle.brc_count.specs.law.rule.Logs.{noted_in, entries_in}
use Rattle.brc_count.specs.table.Shown.{contents_of, plain_key}
use Rattle.brc_lock.specs.Edits.{with_value, with_last, without, replaced, KeyFits}

first_same : {X : Type 0} {x y : X} {xs ys : List X} → x ∷ xs ≡ y ∷ ys → x ≡ y
first_same e = cc

rest_same : {X : Type 0} {x y : X} {xs ys : List X} → x ∷ xs ≡ y ∷ ys → xs ≡ ys
rest_same e = cc

joined : {X : Type 0} {x y : X} {xs ys : List X} → x ≡ y → xs ≡ ys → x ∷ xs ≡ y ∷ ys
joined {y = y} {xs = xs} first rest = ap (λ v. v ∷ xs) first ∙ ap (λ vs. y ∷ vs) rest

-- ---- pairs

module _ {A : Type 0} where
  abbrev pub plain : Key A × Entry → PlainKey × Entry
  plain pair = (plain_key pair.0, pair.1)

  values_of : (pairs : List (Key A × Entry)) → map (λ (p : PlainKey × Entry). p.1) (map plain pairs) ≡ pair_entries pairs
  values_of [] = refl
  values_of (pair ∷ pairs) = ap (λ xs. pair.1 ∷ xs) (values_of pairs)

  pub plain_put : (pairs : List (Key A × Entry)) (key : Key A) (cell : Entry)
      → map plain (pairs ++ (key, cell) ∷ []) ≡ map plain pairs ++ (plain_key key, cell) ∷ []
  plain_put [] key cell = refl
  plain_put (pair ∷ pairs) key cell = ap (λ xs. plain pair ∷ xs) (plain_put pairs key cell)

  pub plain_remove : (pairs : List (Key A × Entry)) (index : ℕ)
      → map plain (remove pairs index) ≡ remove (map plain pairs) index
  plain_remove [] zero = refl
  plain_remove [] (suc index) = refl
  plain_remove (pair ∷ pairs) zero = refl
  plain_remove (pair ∷ pairs) (suc index) = ap (λ xs. plain pair ∷ xs) (plain_remove pairs index)

  -- a key that isn't among the plain ones isn't among the keys
  pub absent_plainly : (pairs : List (Key A × Entry)) (key : Key A) → All (λ (pair : PlainKey × Entry). pair.0 ≢ plain_key key)
      (map plain pairs)
      → All (λ other. other ≢ key) (pair_keys pairs)
  absent_plainly [] key none k d below = absurd (omega arith)
  absent_plainly (pair ∷ pairs) key none zero d below = λ same. none 0 (plain pair) (omega arith) (ap plain_key same)
  absent_plainly (pair ∷ pairs) key none (suc k) d below = absent_plainly pairs key
      (λ j e low. none (suc j) e (omega arith)) k d (omega arith)

  same_pair : (a p : Key A × Entry) (cell : Entry) → a.0 ≡ p.0 → a.1 ≡ cell → plain a ≡ (plain_key p.0, cell)
  same_pair a p cell key value = ap (λ k. (plain_key k, a.1)) key ∙ ap (λ v. (plain_key p.0, v)) value

  -- pairs with the same keys and cells
  same_pairs : (after pairs : List (Key A × Entry)) → pair_keys after ≡ pair_keys pairs → pair_entries after ≡ pair_entries pairs
      → map plain after ≡ map plain pairs
  same_pairs [] [] keys cells = refl
  same_pairs [] (pair ∷ pairs) keys cells = absurd (cc)
  same_pairs (a ∷ after) [] keys cells = absurd (cc)
  same_pairs (a ∷ after) (pair ∷ pairs) keys cells =
      joined (same_pair a pair pair.1 (first_same keys) (first_same cells))
      (same_pairs after pairs (rest_same keys) (rest_same cells))

  -- the pairs after it have the same keys, and the cells with one exchanged
  pub plain_set : (pairs after : List (Key A × Entry)) (index : ℕ) (cell : Entry) → pair_keys after ≡ pair_keys pairs
      → pair_entries after ≡ slice_set (pair_entries pairs) index cell
      → map plain after ≡ with_value (map plain pairs) index cell
  plain_set [] [] index cell keys cells = refl
  plain_set [] (a ∷ after) index cell keys cells = absurd (cc)
  plain_set (pair ∷ pairs) [] index cell keys cells = absurd (cc)
  plain_set (pair ∷ pairs) (a ∷ after) zero cell keys cells =
      joined (same_pair a pair cell (first_same keys) (first_same cells))
      (same_pairs after pairs (rest_same keys) (rest_same cells))
  plain_set (pair ∷ pairs) (a ∷ after) (suc index) cell keys cells =
      joined (same_pair a pair pair.1 (first_same keys) (first_same cells))
      (plain_set pairs after index cell (rest_same keys) (rest_same cells))

-- ---- what a payload shows

pub noted_have : {A : Type 0} (payload : Payload A) → noted_in (contents_of payload) ≡ noted_of payload
noted_have (payloads.Int number) = refl
noted_have (payloads.Text text) = refl
noted_have (payloads.«List» cells) = refl
noted_have (payloads.Dict pairs) = values_of pairs.items
noted_have (payloads.Mailbox letters) = refl
noted_have payloads.Nothing = refl
noted_have (payloads.Truth truth) = refl

pub contents_have : {A : Type 0} (payload : Payload A) → entries_in (contents_of payload) ≡ entries_of payload
contents_have payload = ap cells_of (noted_have payload)

-- ---- contents

removed_values : (pairs : List (PlainKey × Entry)) (index : ℕ) → map (λ (p : PlainKey × Entry). p.1) (remove pairs index)
    ≡ remove (map (λ (p : PlainKey × Entry). p.1) pairs) index
removed_values [] zero = refl
removed_values [] (suc index) = refl
removed_values (pair ∷ pairs) zero = refl
removed_values (pair ∷ pairs) (suc index) = ap (λ xs. pair.1 ∷ xs) (removed_values pairs index)

set_values : (pairs : List (PlainKey × Entry)) (index : ℕ) (cell : Entry)
    → map (λ (p : PlainKey × Entry). p.1) (with_value pairs index cell) ≡ slice_set (map (λ (p : PlainKey × Entry). p.1) pairs)
    index cell
set_values [] index cell = refl
set_values (pair ∷ pairs) zero cell = refl
set_values (pair ∷ pairs) (suc index) cell = ap (λ xs. pair.1 ∷ xs) (set_values pairs index cell)

none_removed : (index : ℕ) → [] ≡ remove {X = ℕ} [] index
none_removed zero = refl
none_removed (suc index) = refl

put_values : (pairs : List (PlainKey × Entry)) (key : PlainKey) (cell : Entry)
    → map (λ (p : PlainKey × Entry). p.1) (pairs ++ (key, cell) ∷ []) ≡ map (λ (p : PlainKey × Entry). p.1) pairs ++ cell ∷ []
put_values [] key cell = refl
put_values (pair ∷ pairs) key cell = ap (λ xs. pair.1 ∷ xs) (put_values pairs key cell)

-- one entry more
with_entry : {A : Type 0} (found : Contents) (key : Option (Key A)) (cell : Entry) → KeyFits found key
    → entries_in (with_last found key cell) ≡ entries_in found ++ cell.cell ∷ []
with_entry (Cells cells) None cell fits = cells_put cells cell
with_entry (Mailbox letters) None cell fits = cells_put letters cell
with_entry (Dict pairs) (Some key) cell fits =
    ap cells_of (put_values pairs (plain_key key) cell) ∙ cells_put (noted_in (Dict pairs)) cell
with_entry (Cells cells) (Some key) cell fits = absurd fits
with_entry (Mailbox letters) (Some key) cell fits = absurd fits
with_entry (Dict pairs) None cell fits = absurd fits
with_entry Nothing key cell fits = absurd fits
with_entry (Truth truth) key cell fits = absurd fits
with_entry (Int number) key cell fits = absurd fits
with_entry (Text text) key cell fits = absurd fits

-- one entry fewer
pub without_entry : (found : Contents) (index : ℕ) → entries_in (without found index) ≡ remove (entries_in found) index
without_entry (Cells cells) index = cells_removed cells index
without_entry (Mailbox letters) index = cells_removed letters index
without_entry (Dict pairs) index =
    ap cells_of (removed_values pairs index) ∙ cells_removed (noted_in (Dict pairs)) index
without_entry Nothing index = none_removed index
without_entry (Truth truth) index = none_removed index
without_entry (Int number) index = none_removed index
without_entry (Text text) index = none_removed index

-- one exchanged
pub replaced_entry : (found : Contents) (index : ℕ) (cell : Entry)
    → entries_in (replaced found index cell) ≡ slice_set (entries_in found) index cell.cell
replaced_entry (Cells cells) index cell = cells_set cells index cell
replaced_entry (Mailbox letters) index cell = cells_set letters index cell
replaced_entry (Dict pairs) index cell =
    ap cells_of (set_values pairs index cell) ∙ cells_set (noted_in (Dict pairs)) index cell
replaced_entry Nothing index cell = refl
replaced_entry (Truth truth) index cell = refl
replaced_entry (Int number) index cell = refl
replaced_entry (Text text) index cell = refl

-- ---- keys

put_keys : (pairs : List (PlainKey × Entry)) (key : PlainKey) (cell : Entry)
    → map (λ (p : PlainKey × Entry). p.0) (pairs ++ (key, cell) ∷ []) ≡ map (λ (p : PlainKey × Entry). p.0) pairs ++ key ∷ []
put_keys [] key cell = refl
put_keys (pair ∷ pairs) key cell = ap (λ ks. pair.0 ∷ ks) (put_keys pairs key cell)

set_keys : (pairs : List (PlainKey × Entry)) (index : ℕ) (cell : Entry)
    → map (λ (p : PlainKey × Entry). p.0) (with_value pairs index cell) ≡ map (λ (p : PlainKey × Entry). p.0) pairs
set_keys [] index cell = refl
set_keys (pair ∷ pairs) zero cell = refl
set_keys (pair ∷ pairs) (suc index) cell = ap (λ ks. pair.0 ∷ ks) (set_keys pairs index cell)

no_key_removed : (index : ℕ) → [] ≡ remove {X = PlainKey} [] index
no_key_removed zero = refl
no_key_removed (suc index) = refl

-- one key more, in a dictionary
with_key : {A : Type 0} (found : Contents) (key : Option (Key A)) (cell : Entry) → KeyFits found key
    → KeyPut found (with_last found key cell)
with_key (Cells cells) None cell fits = refl
with_key (Mailbox letters) None cell fits = refl
with_key (Dict pairs) (Some key) cell fits = record {
  key = plain_key key;
  absent = All-map (λ other. other ≢ plain_key key) (λ (p : PlainKey × Entry). p.0) pairs fits;
  last = put_keys pairs (plain_key key) cell;
}
with_key (Cells cells) (Some key) cell fits = absurd fits
with_key (Mailbox letters) (Some key) cell fits = absurd fits
with_key (Dict pairs) None cell fits = absurd fits
with_key Nothing key cell fits = absurd fits
with_key (Truth truth) key cell fits = absurd fits
with_key (Int number) key cell fits = absurd fits
with_key (Text text) key cell fits = absurd fits

-- one key fewer
without_key : (found : Contents) (index : ℕ) → keys_in (without found index) ≡ remove (keys_in found) index
without_key (Dict pairs) index = map-remove (λ (p : PlainKey × Entry). p.0) pairs index
without_key (Cells cells) index = no_key_removed index
without_key (Mailbox letters) index = no_key_removed index
without_key Nothing index = no_key_removed index
without_key (Truth truth) index = no_key_removed index
without_key (Int number) index = no_key_removed index
without_key (Text text) index = no_key_removed index

-- the same keys
replaced_key : (found : Contents) (index : ℕ) (cell : Entry) → keys_in (replaced found index cell) ≡ keys_in found
replaced_key (Dict pairs) index cell = set_keys pairs index cell
replaced_key (Cells cells) index cell = refl
replaced_key (Mailbox letters) index cell = refl
replaced_key Nothing index cell = refl
replaced_key (Truth truth) index cell = refl
replaced_key (Int number) index cell = refl
replaced_key (Text text) index cell = refl

-- ---- an entry

pub plain_get : {A : Type 0} (pairs : List (Key A × Entry)) (index : ℕ) (pair : Key A × Entry)
    → slice_get pairs index ≡ Some pair
    → slice_get (map (λ (p : PlainKey × Entry). p.1) (map plain pairs)) index ≡ Some pair.1
plain_get [] index pair there = absurd (cc)
plain_get (p ∷ pairs) zero pair there = ap (λ o. elim o [ Some x ↦ Some x.1 | None ↦ None ]) there
plain_get (p ∷ pairs) (suc index) pair there = plain_get pairs index pair there

-- what stands there is in the list
pub some_inside : (xs : List ℕ) (index x : ℕ) → slice_get xs index ≡ Some x → index < length xs
some_inside [] index x there = absurd (cc)
some_inside (y ∷ xs) zero x there = omega (arith)
some_inside (y ∷ xs) (suc index) x there = omega (arith, some_inside xs index x there)

module _ {A : Type 0} where
  -- an entry of the payload is one of what was found
  pub found_entry : (p q : Payload A) (found : Contents) (index : ℕ) (o : Option ℕ) → contents_of p ≡ found → q ≡ p
      → o ≡ slice_get (entries_of q) index
      → slice_get (entries_in found) index ≡ o
  found_entry p q found index o is same at =
      sym (at ∙ ap (λ x. slice_get (entries_of x) index) same
      ∙ sym (ap (λ entries. slice_get entries index) (contents_have p)) ∙ ap (λ f. slice_get (entries_in f) index) is)

  -- the payload's entries after an edit, by those that were found
  pub put_found : (p q after : Payload A) (found : Contents) (key : Option (Key A)) (cell : Entry) (value : ℕ)
      → contents_of p ≡ found → q ≡ p
      → KeyFits (contents_of p) key → contents_of after ≡ with_last (contents_of q) key cell → cell.cell ≡ value
      → entries_in (contents_of after) ≡ entries_in found ++ value ∷ []
  put_found p q after found key cell value is same fits put here =
      ap entries_in put ∙ ap (λ x. entries_in (with_last (contents_of x) key cell)) same
      ∙ with_entry (contents_of p) key cell fits
      ∙ ap (λ f. entries_in f ++ cell.cell ∷ []) is ∙ ap (λ v. entries_in found ++ v ∷ []) here

  pub without_found : (p q after : Payload A) (found : Contents) (index : ℕ) → contents_of p ≡ found → q ≡ p
      → contents_of after ≡ without (contents_of q) index
      → entries_in (contents_of after) ≡ remove (entries_in found) index
  without_found p q after found index is same left =
      ap entries_in left ∙ without_entry (contents_of q) index
      ∙ ap (λ x. remove (entries_in (contents_of x)) index) same ∙ ap (λ f. remove (entries_in f) index) is

  pub replaced_found : (p q after : Payload A) (found : Contents) (index : ℕ) (cell : Entry) → contents_of p ≡ found → q ≡ p
      → contents_of after ≡ replaced (contents_of q) index cell
      → entries_in (contents_of after) ≡ slice_set (entries_in found) index cell.cell
  replaced_found p q after found index cell is same set =
      ap entries_in set ∙ replaced_entry (contents_of q) index cell
      ∙ ap (λ x. slice_set (entries_in (contents_of x)) index cell.cell) same
      ∙ ap (λ f. slice_set (entries_in f) index cell.cell) is

  -- and its keys, by those that were found
  pub key_put_found : (p q after : Payload A) (found : Contents) (key : Option (Key A)) (cell : Entry)
      → contents_of p ≡ found → q ≡ p
      → KeyFits (contents_of p) key → contents_of after ≡ with_last (contents_of q) key cell
      → KeyPut found (contents_of after)
  key_put_found p q after found key cell is same fits put =
      subst (λ f. KeyPut f (contents_of after)) is
      (subst (KeyPut (contents_of p)) (sym (put ∙ ap (λ x. with_last (contents_of x) key cell) same))
      (with_key (contents_of p) key cell fits))

  pub key_left_found : (p q after : Payload A) (found : Contents) (index : ℕ) → contents_of p ≡ found → q ≡ p
      → contents_of after ≡ without (contents_of q) index
      → keys_in (contents_of after) ≡ remove (keys_in found) index
  key_left_found p q after found index is same left =
      ap keys_in left ∙ without_key (contents_of q) index ∙ ap (λ x. remove (keys_in (contents_of x)) index) same
      ∙ ap (λ f. remove (keys_in f) index) is

  pub keys_found_again : (p q after : Payload A) (found : Contents) (index : ℕ) (cell : Entry) → contents_of p ≡ found → q ≡ p
      → contents_of after ≡ replaced (contents_of q) index cell
      → keys_in (contents_of after) ≡ keys_in found
  keys_found_again p q after found index cell is same set =
      ap keys_in set ∙ replaced_key (contents_of q) index cell ∙ ap (λ x. keys_in (contents_of x)) same ∙ ap keys_in is

pub some_same : (a b : ℕ) → Some a ≡ Some b → a ≡ b
some_same a b e = cc
