-- Dictionaries of one pair and of two, told by their length and by what stands at each place.
use Rattle.std.proofs.Common.{◌≡◌, ℕ, ℤ, pos, List, [], ◌∷◌, Some, ap, ◌∙◌, arith, length, slice_get}
use Rattle.brc_words.specs.declared.entry.Entry.{Entry}
use Rattle.brc_words.specs.Notes.{bare}
use Rattle.brc_words.specs.declared.key.Key.{Key}
use Rattle.brc_words.specs.declared.key.Key.TheVariants as keys
use Rattle.brc_block.specs.Row.{RowSeen}
use Rattle.brc_block.specs.declared.payload.Payload.TheVariants as payloads
use Rattle.brc_table.specs.Shown.{contents_of}
use Rattle.test_table.specs.Parts.{with_entry, with_entries}

one_item : {X : Type 0} (xs : List X) (x : X) → length xs ≡ 1 → slice_get xs 0 ≡ Some x → xs ≡ x ∷ []
one_item [] x long there = absurd (omega (arith, long))
one_item (y ∷ []) x long there = cc
one_item (y ∷ z ∷ ys) x long there = absurd (omega (arith, long))

two_items : {X : Type 0} (xs : List X) (x y : X) → length xs ≡ 2 → slice_get xs 0 ≡ Some x → slice_get xs 1 ≡ Some y
    → xs ≡ x ∷ y ∷ []
two_items [] x y long first second = absurd (omega (arith, long))
two_items (v ∷ vs) x y long first second =
    let here : v ≡ x = cc in
    ap (λ w. w ∷ vs) here ∙ ap (λ ws. x ∷ ws) (one_item vs y (omega (arith, long)) second)

module _ {A : Type 0} (pairs : RowSeen (Key A × Entry)) (cell : ℕ) where
  pub shows_one : (key : ℤ) → length pairs.items ≡ 1 → slice_get pairs.items 0 ≡ Some (keys.Int key, bare cell)
      → contents_of (payloads.Dict pairs) ≡ with_entry key cell
  shows_one key long there =
      ap (λ items. contents_of (payloads.Dict (record { items = items; spare = pairs.spare })))
      (one_item pairs.items (keys.Int key, bare cell) long there)

  pub shows_two : length pairs.items ≡ 2 → slice_get pairs.items 0 ≡ Some (keys.Int (pos 1), bare cell)
      → slice_get pairs.items 1 ≡ Some (keys.Int (pos 2), bare cell) → contents_of (payloads.Dict pairs) ≡ with_entries cell
  shows_two long first second =
      ap (λ items. contents_of (payloads.Dict (record { items = items; spare = pairs.spare })))
      (two_items pairs.items (keys.Int (pos 1), bare cell) (keys.Int (pos 2), bare cell) long first second)
