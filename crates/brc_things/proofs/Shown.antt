-- A dictionary's block as its contents, and what the plain calls answer on them.
use Rattle.std.proofs.Common.{◌≡◌, ◌≢◌, ◌<◌, ◌≤◌, ◌++◌, ℕ, true, false, List, [], ◌∷◌, Some, None, Ok, Err, refl, sym}
use Rattle.std.proofs.Common.{◌∙◌, ap, subst, length, map, slice_get, slice_set, remove}
use Rattle.std.proofs.lemmas.Bool.{lt-ltb, le-ltb}
use Rattle.std.proofs.lemmas.List.{map-append, length-map}
use Rattle.std.proofs.lemmas.Option.{slice_get_within}
use Rattle.brc_plain.specs.Outcomes.{leaving}
use Rattle.std.specs.Result.{is_ok}
use Rattle.brc_words.specs.declared.entry.Entry.{Entry}
use Rattle.brc_words.specs.Notes.{cells_of}
use Rattle.brc_words.proofs.Cells.{cells_long, cells_there}
use Rattle.brc_words.specs.declared.fault.Fault.TheVariants as faults
use Rattle.brc_words.specs.declared.key.Key.{Key}
use Rattle.brc_words.specs.declared.key.Key.TheVariants as keys
use Rattle.brc_words.specs.declared.kind.Kind.TheVariants as kinds
use Rattle.brc_words.specs.declared.limits.TheConstants.{MOST_ENTRIES}
use Rattle.brc_count.specs.block.Row.{RowSeen}
use Rattle.brc_count.specs.block.Pairs.{keys_in, noted_in}
use Rattle.brc_count.specs.block.Payload.{kind_of, noted_of, entries_of, keys_of}
use Rattle.brc_count.specs.block.declared.payload.Payload.{Payload}
use Rattle.brc_count.specs.block.declared.payload.Payload.TheVariants as payloads
use Rattle.brc_plain.specs.Dicts as dicts
use Rattle.brc_plain.specs.Dicts.{value_at, replaced, without}
use Rattle.brc_count.specs.law.rule.Logs.{kind_in, entries_in, noted_in as noted_in_contents}
use Rattle.brc_count.specs.table.Shown.{contents_of, plain_key}
use Rattle.brc_things.specs.Plain_Dicts.{key_of, pairs_of, dict_of, leaving_dict, plain_put, plain_find, plain_del}
use Rattle.brc_things.specs.Seeking.{HasKeyAt, IsAbsent}
use Rattle.brc_things.proofs.Standing.{beside_is, replaced_keys, replaced_cells, without_keys, without_cells}
use Rattle.brc_things.proofs.Standing.{same_columns}

-- ---- kinds and entries

values_of : {K L E : Type 0} (f : K → L) (pairs : List (K × E))
    → map (λ (p : L × E). p.1) (map (λ (pair : K × E). (f pair.0, pair.1)) pairs) ≡ map (λ (p : K × E). p.1) pairs
values_of f [] = refl
values_of f (pair ∷ pairs) = ap (λ xs. pair.1 ∷ xs) (values_of f pairs)

module _ {A : Type 0} where
  pub noted_shown : (payload : Payload A) → noted_in_contents (contents_of payload) ≡ noted_of payload
  noted_shown (payloads.Dict pairs) = values_of plain_key pairs.items
  noted_shown _ = refl

  pub entries_shown : (payload : Payload A) → entries_in (contents_of payload) ≡ entries_of payload
  entries_shown payload = ap cells_of (noted_shown payload)

  pub kind_shown : (payload : Payload A) → kind_in (contents_of payload) ≡ kind_of payload
  kind_shown (payloads.Truth true) = refl
  kind_shown (payloads.Truth false) = refl
  kind_shown _ = refl

  -- what has a dictionary's kind is one
  pub dict_is : (payload : Payload A) → kind_of payload ≡ kinds.Dict
      → (pairs : RowSeen (Key A × Entry)) × (payload ≡ payloads.Dict pairs)
  dict_is (payloads.Dict pairs) kind = (pairs, refl)
  dict_is (payloads.Truth true) kind = cc
  dict_is (payloads.Truth false) kind = cc
  dict_is _ kind = cc

  -- ---- pairs and their contents

  key_back : (key : Key A) → key_of (plain_key key) ≡ key
  key_back (keys.Int number) = refl
  key_back (keys.Text text) = refl

  pub pairs_back : (pairs : List (Key A × Entry))
      → pairs_of (map (λ (pair : Key A × Entry). (plain_key pair.0, pair.1)) pairs) ≡ pairs
  pairs_back [] = refl
  pairs_back (pair ∷ pairs) = ap (λ k. (k, pair.1) ∷ pairs_of (map (λ (p : Key A × Entry). (plain_key p.0, p.1)) pairs))
      (key_back pair.0)
      ∙ ap (λ ps. pair ∷ ps) (pairs_back pairs)

  -- ---- what the calls answer on pairs

  replaces : (key : Key A) (value old : Entry) (pairs : List (Key A × Entry)) → value_at key pairs ≡ Some old
      → dicts.put pairs key value ≡ Ok (Some old, replaced key value pairs)
  replaces key value old pairs there = rw (there, dicts.put) refl

  appends : (key : Key A) (value : Entry) (pairs : List (Key A × Entry)) → value_at key pairs ≡ None
      → length pairs < MOST_ENTRIES
      → dicts.put pairs key value ≡ Ok (None, pairs ++ (key, value) ∷ [])
  appends key value pairs none few = rw (dicts.put, none, lt-ltb (length pairs) MOST_ENTRIES few) refl

  fills : (key : Key A) (value : Entry) (pairs : List (Key A × Entry)) → value_at key pairs ≡ None → MOST_ENTRIES ≤ length pairs
      → dicts.put pairs key value ≡ Err faults.Full
  fills key value pairs none full = rw (dicts.put, none, le-ltb (length pairs) MOST_ENTRIES full) refl

  finds : (key : Key A) (old : Entry) (pairs : List (Key A × Entry)) → value_at key pairs ≡ Some old
      → dicts.find pairs key ≡ Ok old
  finds key old pairs there = rw there refl

  misses : (key : Key A) (pairs : List (Key A × Entry)) → value_at key pairs ≡ None
      → dicts.find pairs key ≡ Err faults.NoSuchKey
  misses key pairs none = rw none refl

  deletes : (key : Key A) (old : Entry) (pairs : List (Key A × Entry)) → value_at key pairs ≡ Some old
      → dicts.delete pairs key ≡ Ok (old, without key pairs)
  deletes key old pairs there = rw there refl

  deletes_none : (key : Key A) (pairs : List (Key A × Entry)) → value_at key pairs ≡ None
      → dicts.delete pairs key ≡ Err faults.NoSuchKey
  deletes_none key pairs none = rw none refl

  -- ---- what the calls answer on a block

  plain_put_is : (key : Key A) (value : Entry) (pairs : RowSeen (Key A × Entry))
      → plain_put key value (contents_of (payloads.Dict pairs)) ≡ leaving_dict (dicts.put pairs.items key value)
  plain_put_is key value pairs = ap (λ ps. leaving_dict (dicts.put ps key value)) (pairs_back pairs.items)

  pairs_long : (old : Payload A) (pairs : RowSeen (Key A × Entry)) → old ≡ payloads.Dict pairs
      → length (entries_of old) ≡ length pairs.items
  pairs_long old pairs is = ap (λ p. length (entries_of p)) is ∙ cells_long (noted_in pairs.items)
      ∙ length-map pairs.items (λ (pair : Key A × Entry). pair.1)

  -- two dictionaries with the same keys and cells show the same
  same_shown : (pairs left : List (Key A × Entry)) → keys_in pairs ≡ keys_in left → noted_in pairs ≡ noted_in left
      → dict_of left ≡ dict_of pairs
  same_shown pairs left keys cells = ap dict_of (sym (same_columns pairs left keys cells))

  -- a dictionary with the same keys and cells shows the same
  pub shown_again : (old new : Payload A) → kind_of old ≡ kinds.Dict → kind_of new ≡ kind_of old
      → keys_of new ≡ keys_of old
      → noted_of new ≡ noted_of old → contents_of new ≡ contents_of old
  shown_again old new dict kind keys entries =
      let (before, was) = dict_is old dict in
      let (after, is) = dict_is new (kind ∙ dict) in
      let same_keys : keys_in before.items ≡ keys_in after.items = sym (ap keys_of (sym is) ∙ keys ∙ ap keys_of was) in
      let same_cells : noted_in before.items ≡ noted_in after.items = sym (ap noted_of (sym is) ∙ entries
      ∙ ap noted_of was) in
      ap contents_of is ∙ same_shown before.items after.items same_keys same_cells ∙ ap contents_of (sym was)

  pub put_over : (key : Key A) (value : Entry) (old : Payload A) (index : ℕ) (cell : Entry) (there : HasKeyAt old key index cell)
      → plain_put key value (contents_of old) ≡ Ok (Some cell, dict_of (replaced key value there.pairs.items))
  put_over key value old index cell there =
      let before = there.pairs in
      ap (λ p. plain_put key value (contents_of p)) there.is
      ∙ plain_put_is key value before
      ∙ ap leaving_dict (replaces key value cell before.items
      (beside_is key before.items index cell there.stands there.beside))

  pub put_there : (key : Key A) (value : Entry) (old new : Payload A) (index : ℕ) (cell : Entry) → HasKeyAt old key index cell
      → kind_of new ≡ kind_of old → keys_of new ≡ keys_of old → noted_of new ≡ slice_set (noted_of old) index value
      → plain_put key value (contents_of old) ≡ Ok (Some cell, contents_of new)
  put_there key value old new index cell there kind keys entries =
      let before = there.pairs in
      let (after, is) = dict_is new (kind ∙ ap kind_of there.is) in
      let same_keys : keys_in after.items ≡ keys_in (replaced key value before.items) =
      ap keys_of (sym is) ∙ keys ∙ ap keys_of there.is
      ∙ sym (replaced_keys key value before.items index there.stands) in
      let same_cells : noted_in after.items ≡ noted_in (replaced key value before.items) =
      ap noted_of (sym is) ∙ entries ∙ ap (λ p. slice_set (noted_of p) index value) there.is
      ∙ sym (replaced_cells key value before.items index there.stands) in
      put_over key value old index cell there
      ∙ ap (λ d. Ok (Some cell, d)) (same_shown after.items (replaced key value before.items) same_keys same_cells
      ∙ ap contents_of (sym is))

  pub put_new : (key : Key A) (value : Entry) (old new : Payload A) → IsAbsent old key
      → length (entries_of old) < MOST_ENTRIES
      → kind_of new ≡ kind_of old → keys_of new ≡ keys_of old ++ key ∷ []
      → noted_of new ≡ noted_of old ++ value ∷ []
      → plain_put key value (contents_of old) ≡ Ok (None, contents_of new)
  put_new key value old new absent few kind keys entries =
      let before = absent.pairs in
      let (after, is) = dict_is new (kind ∙ ap kind_of absent.is) in
      let room : length before.items < MOST_ENTRIES = subst (λ n. n < MOST_ENTRIES)
      (pairs_long old before absent.is) few in
      let same_keys : keys_in after.items ≡ keys_in (before.items ++ (key, value) ∷ []) =
      ap keys_of (sym is) ∙ keys ∙ ap (λ p. keys_of p ++ key ∷ []) absent.is
      ∙ sym (map-append (λ pair. pair.0) before.items ((key, value) ∷ [])) in
      let same_cells : noted_in after.items ≡ noted_in (before.items ++ (key, value) ∷ []) =
      ap noted_of (sym is) ∙ entries ∙ ap (λ p. noted_of p ++ value ∷ []) absent.is
      ∙ sym (map-append (λ pair. pair.1) before.items ((key, value) ∷ [])) in
      ap (λ p. plain_put key value (contents_of p)) absent.is
      ∙ plain_put_is key value before
      ∙ ap leaving_dict (appends key value before.items absent.none room)
      ∙ ap (λ d. Ok (None, d)) (same_shown after.items (before.items ++ (key, value) ∷ []) same_keys same_cells
      ∙ ap contents_of (sym is))

  pub put_full : (key : Key A) (value : Entry) (old : Payload A) → IsAbsent old key → MOST_ENTRIES ≤ length (entries_of old)
      → plain_put key value (contents_of old) ≡ Err faults.Full
  put_full key value old absent full =
      let before = absent.pairs in
      ap (λ p. plain_put key value (contents_of p)) absent.is
      ∙ plain_put_is key value before
      ∙ ap leaving_dict (fills key value before.items absent.none
      (subst (λ n. MOST_ENTRIES ≤ n) (pairs_long old before absent.is) full))

  pub put_may : (key : Key A) (value : Entry) (old : Payload A) (absent : IsAbsent old key)
      → length (entries_of old) < MOST_ENTRIES
      → plain_put key value (contents_of old) ≡ Ok (None, dict_of (absent.pairs.items ++ (key, value) ∷ []))
  put_may key value old absent few =
      let before = absent.pairs in
      ap (λ p. plain_put key value (contents_of p)) absent.is
      ∙ plain_put_is key value before
      ∙ ap leaving_dict (appends key value before.items absent.none
      (subst (λ n. n < MOST_ENTRIES) (pairs_long old before absent.is) few))

  pub put_wrong : (key : Key A) (value : Entry) (old : Payload A) → kind_of old ≢ kinds.Dict
      → plain_put key value (contents_of old) ≡ Err faults.WrongKind
  put_wrong key value (payloads.Dict pairs) other = absurd (other refl)
  put_wrong key value _ other = refl

  pub find_there : (key : Key A) (old : Payload A) (index : ℕ) (cell : Entry) → HasKeyAt old key index cell
      → plain_find key (contents_of old) ≡ Ok (cell, contents_of old)
  find_there key old index cell there =
      let before = there.pairs in
      ap (λ p. plain_find key (contents_of p)) there.is
      ∙ ap (λ ps. leaving (contents_of (payloads.Dict before)) (dicts.find ps key)) (pairs_back before.items)
      ∙ ap (leaving (contents_of (payloads.Dict before)))
      (finds key cell before.items (beside_is key before.items index cell there.stands there.beside))
      ∙ ap (λ p. Ok (cell, contents_of p)) (sym there.is)

  pub find_absent : (key : Key A) (old : Payload A) → IsAbsent old key
      → plain_find key (contents_of old) ≡ Err faults.NoSuchKey
  find_absent key old absent =
      let before = absent.pairs in
      ap (λ p. plain_find key (contents_of p)) absent.is
      ∙ ap (λ ps. leaving (contents_of (payloads.Dict before)) (dicts.find ps key)) (pairs_back before.items)
      ∙ ap (leaving (contents_of (payloads.Dict before))) (misses key before.items absent.none)

  pub find_wrong : (key : Key A) (old : Payload A) → kind_of old ≢ kinds.Dict
      → plain_find key (contents_of old) ≡ Err faults.WrongKind
  find_wrong key (payloads.Dict pairs) other = absurd (other refl)
  find_wrong key _ other = refl

  pub del_there : (key : Key A) (old new : Payload A) (index : ℕ) (cell : Entry) → HasKeyAt old key index cell
      → kind_of new ≡ kind_of old → keys_of new ≡ remove (keys_of old) index
      → noted_of new ≡ remove (noted_of old) index
      → plain_del key (contents_of old) ≡ Ok (cell, contents_of new)
  del_there key old new index cell there kind keys entries =
      let before = there.pairs in
      let (after, is) = dict_is new (kind ∙ ap kind_of there.is) in
      let same_keys : keys_in after.items ≡ keys_in (without key before.items) =
      ap keys_of (sym is) ∙ keys ∙ ap (λ p. remove (keys_of p) index) there.is
      ∙ sym (without_keys key before.items index there.stands) in
      let same_cells : noted_in after.items ≡ noted_in (without key before.items) =
      ap noted_of (sym is) ∙ entries ∙ ap (λ p. remove (noted_of p) index) there.is
      ∙ sym (without_cells key before.items index there.stands) in
      ap (λ p. plain_del key (contents_of p)) there.is
      ∙ ap (λ ps. leaving_dict (dicts.delete ps key)) (pairs_back before.items)
      ∙ ap leaving_dict (deletes key cell before.items
      (beside_is key before.items index cell there.stands there.beside))
      ∙ ap (λ d. Ok (cell, d)) (same_shown after.items (without key before.items) same_keys same_cells
      ∙ ap contents_of (sym is))

  pub del_may : (key : Key A) (old : Payload A) (index : ℕ) (cell : Entry) → HasKeyAt old key index cell
      → is_ok (plain_del key (contents_of old)) ≡ true
  del_may key old index cell there =
      let before = there.pairs in
      ap (λ p. is_ok (plain_del key (contents_of p))) there.is
      ∙ ap (λ ps. is_ok (leaving_dict (dicts.delete ps key))) (pairs_back before.items)
      ∙ ap (λ r. is_ok (leaving_dict r))
      (deletes key cell before.items (beside_is key before.items index cell there.stands there.beside))

  pub del_absent : (key : Key A) (old : Payload A) → IsAbsent old key
      → plain_del key (contents_of old) ≡ Err faults.NoSuchKey
  del_absent key old absent =
      let before = absent.pairs in
      ap (λ p. plain_del key (contents_of p)) absent.is
      ∙ ap (λ ps. leaving_dict (dicts.delete ps key)) (pairs_back before.items)
      ∙ ap leaving_dict (deletes_none key before.items absent.none)

  pub del_wrong : (key : Key A) (old : Payload A) → kind_of old ≢ kinds.Dict
      → plain_del key (contents_of old) ≡ Err faults.WrongKind
  del_wrong key (payloads.Dict pairs) other = absurd (other refl)
  del_wrong key _ other = refl

  -- ---- the entry that was found

  pub entry_there : (old : Payload A) (key : Key A) (index : ℕ) (cell : Entry) → HasKeyAt old key index cell
      → slice_get (noted_of old) index ≡ Some cell
  entry_there old key index cell there = ap (λ p. slice_get (noted_of p) index) there.is ∙ there.beside

  pub cell_there : (old : Payload A) (key : Key A) (index : ℕ) (cell : Entry) → HasKeyAt old key index cell
      → slice_get (entries_of old) index ≡ Some cell.cell
  cell_there old key index cell there = cells_there (noted_of old) index cell (entry_there old key index cell there)

  pub entry_within : (old : Payload A) (key : Key A) (index : ℕ) (cell : Entry) → HasKeyAt old key index cell
      → index < length (entries_of old)
  entry_within old key index cell there = slice_get_within (entries_of old) index cell.cell
      (cell_there old key index cell there)

  pub there_dict : (old : Payload A) (key : Key A) (index : ℕ) (cell : Entry) → HasKeyAt old key index cell
      → kind_of old ≡ kinds.Dict
  there_dict old key index cell there = ap kind_of there.is

  pub absent_dict : (old : Payload A) (key : Key A) → IsAbsent old key → kind_of old ≡ kinds.Dict
  absent_dict old key absent = ap kind_of absent.is
