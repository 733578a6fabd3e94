-- The cells of entries that are read, put, taken and exchanged.
use Rattle.std.proofs.Common.{◌≡◌, ℕ, zero, suc, List, [], ◌∷◌, ◌++◌, Option, Some, None, refl, sym, ◌∙◌, ap, length, map}
use Rattle.std.proofs.Common.{slice_get, slice_set, remove}
use Rattle.std.specs.Option.{option_map, option_to_list}
use Rattle.std.proofs.lemmas.Option.{slice_get-map}
use Rattle.std.proofs.lemmas.List.{length-map}
use Rattle.brc_words.specs.declared.entry.Entry.{Entry}
use Rattle.brc_words.specs.Notes.{cells_of}

pub cells_long : (entries : List Entry) → length (cells_of entries) ≡ length entries
cells_long entries = length-map entries (λ (entry : Entry). entry.cell)

pub cells_put : (entries : List Entry) (entry : Entry)
    → cells_of (entries ++ entry ∷ []) ≡ cells_of entries ++ entry.cell ∷ []
cells_put [] entry = refl
cells_put (first ∷ entries) entry = ap (λ cells. first.cell ∷ cells) (cells_put entries entry)

pub cells_set : (entries : List Entry) (index : ℕ) (entry : Entry)
    → cells_of (slice_set entries index entry) ≡ slice_set (cells_of entries) index entry.cell
cells_set [] index entry = refl
cells_set (first ∷ entries) zero entry = refl
cells_set (first ∷ entries) (suc index) entry = ap (λ cells. first.cell ∷ cells) (cells_set entries index entry)

pub cells_removed : (entries : List Entry) (index : ℕ) → cells_of (remove entries index) ≡ remove (cells_of entries) index
cells_removed [] zero = refl
cells_removed [] (suc index) = refl
cells_removed (first ∷ entries) zero = refl
cells_removed (first ∷ entries) (suc index) = ap (λ cells. first.cell ∷ cells) (cells_removed entries index)

pub cells_read : (entries : List Entry) (index : ℕ)
    → slice_get (cells_of entries) index ≡ option_map (λ (entry : Entry). entry.cell) (slice_get entries index)
cells_read entries index = slice_get-map (λ (entry : Entry). entry.cell) entries index

pub cells_there : (entries : List Entry) (index : ℕ) (entry : Entry) → slice_get entries index ≡ Some entry
    → slice_get (cells_of entries) index ≡ Some entry.cell
cells_there entries index entry there =
    cells_read entries index ∙ ap (option_map (λ (e : Entry). e.cell)) there

pub cells_past : (entries : List Entry) (index : ℕ) → slice_get entries index ≡ None
    → slice_get (cells_of entries) index ≡ None
cells_past entries index past = cells_read entries index ∙ ap (option_map (λ (e : Entry). e.cell)) past

-- an entry that comes last, where one does
pub cells_last : (entries : List Entry) (entry : Option Entry)
    → cells_of (entries ++ option_to_list entry)
    ≡ cells_of entries ++ option_to_list (option_map (λ (e : Entry). e.cell) entry)
cells_last [] None = refl
cells_last [] (Some entry) = refl
cells_last (first ∷ entries) entry = ap (λ cells. first.cell ∷ cells) (cells_last entries entry)
