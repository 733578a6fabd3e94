-- A place of a frame, looked at as if it had something else: places as they would be between two events of one call.
use Rattle.std.proofs.Common.{◌≡◌, ◌≢◌, ℕ, zero, suc, List, [], ◌∷◌, Option, None, slice_index_or, refl, sym, ap, ◌∙◌}
use Rattle.brc_count.specs.declared.held.PlaceEntry.{PlaceEntry}
use Rattle.brc_count.specs.Places.{PlacesSeen, Updates}

-- with this at the place, whether it is inside or not
abbrev marked : List (Option PlaceEntry) → ℕ → Option PlaceEntry → List (Option PlaceEntry)
marked [] zero held = held ∷ []
marked [] (suc k) held = None ∷ marked [] k held
marked (slot ∷ slots) zero held = held ∷ slots
marked (slot ∷ slots) (suc k) held = slot ∷ marked slots k held

marked_there : (slots : List (Option PlaceEntry)) (k : ℕ) (held : Option PlaceEntry)
    → slice_index_or (marked slots k held) k None ≡ held
marked_there [] zero held = refl
marked_there [] (suc k) held = marked_there [] k held
marked_there (slot ∷ slots) zero held = refl
marked_there (slot ∷ slots) (suc k) held = marked_there slots k held

marked_elsewhere : (slots : List (Option PlaceEntry)) (k j : ℕ) (held : Option PlaceEntry) → j ≢ k
    → slice_index_or (marked slots k held) j None ≡ slice_index_or slots j None
marked_elsewhere [] zero zero held other = absurd (other refl)
marked_elsewhere [] zero (suc j) held other = refl
marked_elsewhere [] (suc k) zero held other = refl
marked_elsewhere [] (suc k) (suc j) held other = marked_elsewhere [] k j held (λ same. other (ap suc same))
marked_elsewhere (slot ∷ slots) zero zero held other = absurd (other refl)
marked_elsewhere (slot ∷ slots) zero (suc j) held other = refl
marked_elsewhere (slot ∷ slots) (suc k) zero held other = refl
marked_elsewhere (slot ∷ slots) (suc k) (suc j) held other =
    marked_elsewhere slots k j held (λ same. other (ap suc same))

abbrev pub with_place : PlacesSeen → ℕ → Option PlaceEntry → PlacesSeen
with_place places k held = record { slots = marked places.slots k held; next = places.next }

pub updates_with : (places : PlacesSeen) (k : ℕ) (held : Option PlaceEntry) → Updates places (with_place places k held) k held
updates_with places k held = record {
  changed = marked_there places.slots k held;
  others = λ j other. marked_elsewhere places.slots k j held other;
}

-- what it had once more
pub updates_back : (places now : PlacesSeen) (k : ℕ) (held again : Option PlaceEntry) → Updates places now k again
    → Updates (with_place places k held) now k again
updates_back places now k held again updates = record {
  changed = updates.changed;
  others = λ j other. updates.others j other ∙ sym (marked_elsewhere places.slots k j held other);
}
