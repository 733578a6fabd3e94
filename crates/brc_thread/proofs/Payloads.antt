-- A block's kind and entries are those of its contents.
use Rattle.std.proofs.Common.{◌≡◌, ℕ, List, [], ◌∷◌, map, true, false, refl, ap}
use Rattle.brc_words.specs.Notes.{cells_of}
use Rattle.brc_count.specs.block.declared.payload.Payload.{Payload}
use Rattle.brc_count.specs.block.declared.payload.Payload.TheVariants as payloads
use Rattle.brc_count.specs.block.Payload.{kind_of, entries_of}
use Rattle.brc_count.specs.law.rule.Logs.{kind_in, entries_in}
use Rattle.brc_count.specs.table.Shown.{contents_of, plain_key}

values_of : {K L E : Type 0} (f : K → L) (pairs : List (K × E))
    → map (λ (p : L × E). p.1) (map (λ (pair : K × E). (f pair.0, pair.1)) pairs) ≡ map (λ (p : K × E). p.1) pairs
values_of f [] = refl
values_of f (pair ∷ pairs) = ap (λ xs. pair.1 ∷ xs) (values_of f pairs)

module _ {A : Type 0} where
  pub entries_shown : (payload : Payload A) → entries_in (contents_of payload) ≡ entries_of payload
  entries_shown (payloads.Dict pairs) = ap cells_of (values_of plain_key pairs.items)
  entries_shown _ = refl

  pub kind_shown : (payload : Payload A) → kind_in (contents_of payload) ≡ kind_of payload
  kind_shown (payloads.Truth true) = refl
  kind_shown (payloads.Truth false) = refl
  kind_shown _ = refl
