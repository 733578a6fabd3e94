-- The keys that a block shows after an edit of its payload, by those that its locking found.
use Rattle.std.proofs.Common.{◌≡◌, ◌≢◌, ◌++◌, ℕ, All, true, false, List, [], ◌∷◌, map, remove, refl, sym, ◌∙◌, ap}
use Rattle.std.proofs.Common.{subst}
use Rattle.std.proofs.lemmas.List.{map-append}
use Rattle.std.proofs.lemmas.List.Elements.{All-map}
use Rattle.brc_words.specs.declared.entry.Entry.{Entry}
use Rattle.brc_words.specs.declared.key.Key.{Key}
use Rattle.brc_words.specs.declared.key.Key.TheVariants as keys
use Rattle.brc_words.specs.declared.kind.Kind.TheVariants as kinds
use Rattle.brc_table.specs.block.Payload.{kind_of, keys_of}
use Rattle.brc_table.specs.block.declared.payload.Payload.{Payload}
use Rattle.brc_table.specs.block.declared.payload.Payload.TheVariants as payloads
use Rattle.brc_table.proofs.block.Columns.{map-remove}
use Rattle.brc_table.specs.law.declared.rule.contents.PlainKey.{PlainKey}
use Rattle.brc_table.specs.law.declared.rule.contents.Contents.{Contents}
use Rattle.brc_table.specs.law.rule.Keys.{keys_in, OneKeyMore, KeyPut}
use Rattle.brc_table.specs.Shown.{contents_of, plain_key}

module _ {A : Type 0} where
  same_key : (a b : Key A) → plain_key a ≡ plain_key b → a ≡ b
  same_key (keys.Int a) (keys.Int b) same = cc
  same_key (keys.Text a) (keys.Text b) same = cc
  same_key (keys.Int a) (keys.Text b) same = cc
  same_key (keys.Text a) (keys.Int b) same = cc

  -- a pair's key is shown plainly
  plainly : (pairs : List (Key A × Entry))
      → map (λ (p : PlainKey × Entry). p.0) (map (λ (pair : Key A × Entry). (plain_key pair.0, pair.1)) pairs) ≡ map plain_key
      (map (λ (pair : Key A × Entry). pair.0) pairs)
  plainly [] = refl
  plainly (pair ∷ pairs) = ap (λ ks. plain_key pair.0 ∷ ks) (plainly pairs)

  keys_shown : (payload : Payload A) → keys_in (contents_of payload) ≡ map plain_key (keys_of payload)
  keys_shown (payloads.Dict pairs) = plainly pairs.items
  keys_shown _ = refl

  -- the keys stay
  pub keys_stay : (before after : Payload A) (found : Contents) → found ≡ contents_of before
      → keys_of after ≡ keys_of before
      → keys_in (contents_of after) ≡ keys_in found
  keys_stay before after found is same =
      keys_shown after ∙ ap (map plain_key) same ∙ sym (keys_shown before) ∙ ap keys_in (sym is)

  -- an entry goes, and of a dictionary its key
  pub keys_left : (before after : Payload A) (found : Contents) (index : ℕ) → found ≡ contents_of before
      → keys_of after ≡ remove (keys_of before) index → keys_in (contents_of after) ≡ remove (keys_in found) index
  keys_left before after found index is left =
      keys_shown after ∙ ap (map plain_key) left ∙ map-remove plain_key (keys_of before) index
      ∙ ap (λ ks. remove ks index) (sym (keys_shown before) ∙ ap keys_in (sym is))

  -- an entry comes to what has no keys
  pub keyless_put : (before after : Payload A) (found : Contents) → found ≡ contents_of before
      → kind_of before ≢ kinds.Dict
      → kind_of after ≡ kind_of before → KeyPut found (contents_of after)
  keyless_put before after found is no_dict same =
      subst (λ f. KeyPut f (contents_of after)) (sym is)
      (by_payload before no_dict (keyless after (λ dict. no_dict (sym same ∙ dict))))
    where
      keyless : (payload : Payload A) → kind_of payload ≢ kinds.Dict → keys_in (contents_of payload) ≡ []
      keyless (payloads.Dict pairs) bad = absurd (bad refl)
      keyless _ bad = refl

      by_payload : (payload : Payload A) → kind_of payload ≢ kinds.Dict → keys_in (contents_of after) ≡ []
          → KeyPut (contents_of payload) (contents_of after)
      by_payload (payloads.Dict pairs) bad none = absurd (bad refl)
      by_payload _ bad none = none

  -- an entry comes to a dictionary, beside a key that isn't there
  pub keyed_put : (before after : Payload A) (found : Contents) (key : Key A) → found ≡ contents_of before
      → kind_of before ≡ kinds.Dict
      → All (λ other. other ≢ key) (keys_of before) → keys_of after ≡ keys_of before ++ key ∷ []
      → KeyPut found (contents_of after)
  keyed_put before after found key is dict absent more = subst (λ f. KeyPut f (contents_of after)) (sym is)
      (by_payload before dict (record {
        key = plain_key key;
        absent = subst (All (λ other. other ≢ plain_key key)) (sym (keys_shown before))
            (All-map (λ other. other ≢ plain_key key) plain_key (keys_of before)
            (λ k d low same. absent k d low (same_key _ _ same)));
        last = keys_shown after ∙ ap (map plain_key) more ∙ map-append plain_key (keys_of before) (key ∷ [])
            ∙ ap (λ ks. ks ++ plain_key key ∷ []) (sym (keys_shown before));
      }))
    where
      by_payload : (payload : Payload A) → kind_of payload ≡ kinds.Dict → OneKeyMore (keys_in (contents_of payload))
          (keys_in (contents_of after))
          → KeyPut (contents_of payload) (contents_of after)
      by_payload (payloads.Dict pairs) dict one = one
      by_payload (payloads.Truth true) dict one = cc
      by_payload (payloads.Truth false) dict one = cc
      by_payload _ dict one = cc
