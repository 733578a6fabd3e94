-- An unlock: entries of the locked container and places of the frame change together.
use Rattle.std.proofs.Common.{◌≡◌, ◌≢◌, ℕ, ◌<◌, ◌≤◌, ◌&&◌, ◌||◌, not, Bool, true, false, if◌then◌else◌, List, []}
use Rattle.std.proofs.Common.{length, get_or, Option, Some, None, refl, sym, ◌∙◌, ap, subst, inl, inr, arith}
use Rattle.std.proofs.lemmas.List.{set-get_or}
use Rattle.std.proofs.lemmas.Option.{slice_get-get_or}
use Rattle.std.proofs.lemmas.Bool.{cases_Bool, eq-eqb, ne_eqb, and_parts, and_from, or_cases, or_parts, or_from}
use Rattle.std.proofs.lemmas.Bool.{not-true, ltb-true, ltb-false, true≢false}
use Rattle.brc_words.specs.declared.limits.TheConstants.{FIRST_MORTAL}
use Rattle.brc_words.specs.Kinds.{is_container}
use Rattle.brc_model.specs.declared.holder.Holder.{Holder}
use Rattle.brc_model.specs.declared.holder.Holder.TheVariants as holders
use Rattle.brc_model.specs.Holders.{is_number, IsContainer, Occupies, placed, unplaced, with_holder, without_holder}
use Rattle.law.specs.declared.world.event.Step.TheVariants.{Unlock}
use Rattle.law.specs.declared.world.event.Change.{Change}
use Rattle.law.specs.declared.world.event.Change.TheVariants as changes
use Rattle.law.specs.world.Lists.{place_at, number_in}
use Rattle.law.specs.world.Heap.{Heap, cell_at, entries_at, row_at, frame_at, is_immortal}
use Rattle.law.specs.world.Steps.{stepped, is_keep, locked_cell, locked_entries, change_ok, is_unlocked, frame_changed}
use Rattle.law.specs.moves.Moves.{map_of, moves_of, MakesMoves}
use Rattle.law.specs.world.Sound.{IsSound}
use Rattle.law.proofs.world.Naming.{some_there}
use Rattle.law.proofs.world.Framing.{place_at-filled_here}
use Rattle.law.proofs.world.Asking.{vacant}
use Rattle.law.proofs.world.Dropping.{held_by_place}
use Rattle.law.proofs.world.Locking.{immortal_container}
use Rattle.law.proofs.world.Lifetimes.{held_lives}
use Rattle.law.proofs.moves.Moving.{is_this, this_one, at_this, own_elsewhere, elsewhere, AtCell, quiet_step}
use Rattle.law.proofs.moves.Moving.{entries_map, frame_shows, frame_hides, is_vacant_place, filled_alike, vacated_alike}
use Rattle.law.proofs.moves.Moving.{vacated_here, none_shows, mortal_number}

-- ---- a place that a mortal cell takes or leaves

abbrev is_placed : ℕ → Holder → ℕ → Holder → Bool
is_placed c g q p = not (is_immortal c) && is_this c g q p

-- no mortal cell is in its place otherwise
placed_apart : (t k c q i : ℕ) → is_placed c (holders.Frame t k) q (holders.Frame t i) ≡ false → is_immortal q ≡ false
    → i ≡ k → q ≢ c
placed_apart t k c q i none mortal place same =
    let here : is_this c (holders.Frame t k) q (holders.Frame t i) ≡ true =
    ap (λ n. is_this c (holders.Frame t k) n (holders.Frame t i)) same
    ∙ ap (λ n. is_this c (holders.Frame t k) c (holders.Frame t n)) place ∙ this_one c (holders.Frame t k) in
    true≢false (sym (and_from (not (is_immortal c)) (is_this c (holders.Frame t k) q (holders.Frame t i))
    (ap not (ap is_immortal (sym same) ∙ mortal)) here) ∙ none)

-- what one place of the map says after it was left, or taken
unplaced_at : (held : ℕ → Holder → Bool) (c : ℕ) (g : Holder) (q : ℕ) (p : Holder) (v : Bool)
    → (is_placed c g q p ≡ true → v ≡ false) → (is_placed c g q p ≡ false → v ≡ held q p)
    → unplaced held c g q p ≡ v
unplaced_at held c g q p v = by_kind (is_immortal c)
  where
    by_kind : (b : Bool) → ((not b && is_this c g q p) ≡ true → v ≡ false)
        → ((not b && is_this c g q p) ≡ false → v ≡ held q p)
        → ◌≡◌ {A = Bool} (let places : ℕ → Holder → Bool = if b then held else without_holder held c g in places q p) v
    by_kind true gone other = sym (other refl)
    by_kind false gone other = elim (cases_Bool (is_this c g q p)) [
      | inl same ↦ ap (λ b. not b && held q p) same ∙ sym (gone same)
      | inr kept ↦ ap (λ b. not b && held q p) kept ∙ sym (other kept)
    ]

placed_at : (held : ℕ → Holder → Bool) (c : ℕ) (g : Holder) (q : ℕ) (p : Holder) (v : Bool)
    → (is_placed c g q p ≡ true → v ≡ true) → (is_placed c g q p ≡ false → v ≡ held q p)
    → placed held c g q p ≡ v
placed_at held c g q p v = by_kind (is_immortal c)
  where
    by_kind : (b : Bool) → ((not b && is_this c g q p) ≡ true → v ≡ true)
        → ((not b && is_this c g q p) ≡ false → v ≡ held q p)
        → ◌≡◌ {A = Bool} (let places : ℕ → Holder → Bool = if b then held else with_holder held c g in places q p) v
    by_kind true there other = sym (other refl)
    by_kind false there other = elim (cases_Bool (is_this c g q p)) [
      | inl same ↦ ap (λ b. b || held q p) same ∙ sym (there same)
      | inr kept ↦ ap (λ b. b || held q p) kept ∙ sym (other kept)
    ]

-- what holds of a mortal cell in its place holds where the test says so
at_placed : (P : ℕ → Holder → Type 0) (c : ℕ) (g : Holder) (q : ℕ) (p : Holder) → is_placed c g q p ≡ true
    → (FIRST_MORTAL ≤ c → P c g) → P q p
at_placed P c g q p same here =
    let parts = and_parts (not (is_immortal c)) (is_this c g q p) same in
    at_this P c g q p parts.1 (here (ltb-false c FIRST_MORTAL (not-true _ parts.0)))

-- ---- the container

-- the locked place, and what stands there
record Locked (h : Heap) (t c : ℕ) : Type 0 where
  place : ℕ
  locked : (row_at h t).locked ≡ Some place
  there : place_at (frame_at h t) place ≡ Some c

locked_at : (h : Heap) (t c : ℕ) (o : Option ℕ) → (row_at h t).locked ≡ o → locked_cell (frame_at h t) o ≡ Some c
    → Locked h t c
locked_at h t c None locked named = absurd (cc)
locked_at h t c (Some k) locked named = record { place = k; locked = locked; there = named }

unlocked_else : (o : Option ℕ) (j k : ℕ) → o ≡ Some k → is_unlocked o j ≡ true → j ≢ k
unlocked_else o j k locked free same = true≢false (sym (sym (ap (λ x. is_unlocked x j) locked) ∙ free)
    ∙ ap not (eq-eqb k j (sym same)))

-- a place of the thread's frame holds its cell
occupies : (h : Heap) (t k c : ℕ) → IsSound h → place_at (frame_at h t) k ≡ Some c → Occupies (map_of h) c t k
occupies h t k c sound there mortal = and_from _ _ (held_lives h c sound mortal (held_by_place h t k c there))
    (frame_shows h t k c mortal there)

-- what is common to all changes of a container
record Opened (h : Heap) (t c : ℕ) (change : Change) : Type 0 where
  container : IsContainer (map_of h) c
  holds : Occupies (map_of h) c t (number_in (row_at h t).locked)
  within : c < length h.entries
  ok : change_ok (row_at h t).locked (frame_at h t) (entries_at h c) change ≡ true
  unlocked : (j : ℕ) → is_unlocked (row_at h t).locked j ≡ true → j ≢ number_in (row_at h t).locked

opened : (h : Heap) (t c : ℕ) (change : Change) → IsSound h → AtCell h t (Unlock change) c → is_keep change ≡ false
    → Opened h t c change
opened h t c change sound at more =
    let lock : Locked h t c = locked_at h t c (row_at h t).locked refl at.named in
    let kind : is_container (cell_at h c).kind ≡ true =
    elim (or_cases (is_keep change) (is_container (cell_at h c).kind) at.fits) [
      | inl keeps ↦ absurd (true≢false (sym keeps ∙ more))
      | inr holds ↦ holds
    ] in
    record {
      container = elim (cases_Bool (is_immortal c)) [
        | inl low ↦ inl (immortal_container c
            (sym (ap is_container (sound.immortals c (ltb-true c FIRST_MORTAL low)).kind) ∙ kind))
        | inr high ↦ inr (
          held_lives h c sound (ltb-false c FIRST_MORTAL high)
              (held_by_place h t lock.place c lock.there),
          kind,
        )
      ];
      holds = occupies h t (number_in (row_at h t).locked) c sound
          (ap (λ o. place_at (frame_at h t) (number_in o)) lock.locked ∙ lock.there);
      within = omega (arith, at.inside, sound.shaped.entries);
      ok = subst (λ o. change_ok (row_at h t).locked (frame_at h t) (locked_entries (entries_at h) o) change ≡ true)
          at.named at.may.own;
      unlocked = λ j free e. unlocked_else (row_at h t).locked j lock.place lock.locked free
          (e ∙ ap number_in lock.locked);
    }

-- all places but those of the change are as they were
places_after : (h : Heap) (t c : ℕ) (change : Change) (these : ℕ → Holder → Bool) → AtCell h t (Unlock change) c
    → ((i q : ℕ) → is_immortal q ≡ false → these q (holders.Frame t i) ≡ false
    → is_number (place_at (frame_changed change (entries_at h c) (frame_at h t)) i) q ≡ is_number
    (place_at (frame_at h t) i) q)
    → (q : ℕ) (p : Holder) → these q p ≡ false → (map_of (stepped h t (Unlock change) c)).held q p ≡ (map_of h).held q p
places_after h t c change these at frames =
    elsewhere h (stepped h t (Unlock change) c) these
    (own_elsewhere h (stepped h t (Unlock change) c) t _ _ _ these at.own frames (λ q _. refl) (λ q _. refl)
    (λ j q _. refl))

-- ---- each change

-- one moves in
put_moves : (A : Type 0) (h : Heap) (t c j : ℕ) → IsSound h → AtCell h t (Unlock (changes.Put j)) c
    → MakesMoves {A = A} (map_of h) (moves_of h t (Unlock (changes.Put j)) (Some c))
    (map_of (stepped h t (Unlock (changes.Put j)) c))
put_moves A h t c j sound at =
    let h' : Heap = stepped h t (Unlock (changes.Put j)) c in
    let door : Opened h t c (changes.Put j) = opened h t c (changes.Put j) sound at refl in
    let parts = and_parts _ _ door.ok in
    let tests = and_parts _ _ parts.0 in
    let cell : ℕ = number_in (place_at (frame_at h t) j) in
    let place : Holder = holders.Frame t j in
    let there : place_at (frame_at h t) j ≡ Some cell = some_there _ tests.1 in (
      record {
        container = door.container;
        holds = door.holds;
        other_place = door.unlocked j parts.1;
        entry = ltb-true _ _ tests.0;
        fits = occupies h t j cell sound there;
      },
      entries_map h h' c _ (unplaced (map_of h).held cell place) door.within at.lasting (λ q. refl)
          (λ q p. unplaced_at (map_of h).held cell place q p ((map_of h').held q p)
          (λ same. at_placed (λ n r. (map_of h').held n r ≡ false) cell place q p same (λ _.
          frame_hides h' t j cell (ap (λ (f : List (Option ℕ)). is_number (place_at f j) cell) at.own.frame
          ∙ ap (λ o. is_number o cell) (vacated_here (frame_at h t) j))))
          (places_after h t c (changes.Put j) (is_placed cell place) at
          (λ i n mortal kept. vacated_alike (frame_at h t) j cell i n there
          (placed_apart t j cell n i kept mortal)) q p)),
    )

-- one moves out
take_moves : (A : Type 0) (h : Heap) (t c i j : ℕ) → IsSound h → AtCell h t (Unlock (changes.Take i j)) c
    → MakesMoves {A = A} (map_of h) (moves_of h t (Unlock (changes.Take i j)) (Some c))
    (map_of (stepped h t (Unlock (changes.Take i j)) c))
take_moves A h t c i j sound at =
    let h' : Heap = stepped h t (Unlock (changes.Take i j)) c in
    let door : Opened h t c (changes.Take i j) = opened h t c (changes.Take i j) sound at refl in
    let parts = and_parts _ _ door.ok in
    let tests = and_parts _ _ parts.0 in
    let cell : ℕ = get_or (entries_at h c) i 0 in
    let place : Holder = holders.Frame t j in
    let none : (q : ℕ) → is_number (place_at (frame_at h t) j) q ≡ false = λ q. none_shows (frame_at h t) j q
    (vacant _ j tests.1).none in (
      record {
        container = door.container;
        holds = door.holds;
        other_place = door.unlocked j parts.1;
        entry = slice_get-get_or (entries_at h c) i 0 (ltb-true _ _ tests.0);
        fits = is_vacant_place h t j (λ q _. none q);
      },
      entries_map h h' c _ (placed (map_of h).held cell place) door.within at.lasting (λ q. refl)
          (λ q p. placed_at (map_of h).held cell place q p ((map_of h').held q p)
          (λ same. at_placed (λ n r. (map_of h').held n r ≡ true) cell place q p same (λ mortal.
          frame_shows h' t j cell mortal (ap (λ (f : List (Option ℕ)). place_at f j) at.own.frame
          ∙ place_at-filled_here (frame_at h t) j cell)))
          (places_after h t c (changes.Take i j) (is_placed cell place) at
          (λ k n mortal kept. filled_alike (frame_at h t) j cell k n (λ _. none n)
          (placed_apart t j cell n k kept mortal)) q p)),
    )

-- two are exchanged
swap_moves : (A : Type 0) (h : Heap) (t c i j : ℕ) → IsSound h → AtCell h t (Unlock (changes.Swap i j)) c
    → MakesMoves {A = A} (map_of h) (moves_of h t (Unlock (changes.Swap i j)) (Some c))
    (map_of (stepped h t (Unlock (changes.Swap i j)) c))
swap_moves A h t c i j sound at =
    let h' : Heap = stepped h t (Unlock (changes.Swap i j)) c in
    let door : Opened h t c (changes.Swap i j) = opened h t c (changes.Swap i j) sound at refl in
    let parts = and_parts _ _ door.ok in
    let tests = and_parts _ _ parts.0 in
    let cell : ℕ = number_in (place_at (frame_at h t) j) in
    let old : ℕ = get_or (entries_at h c) i 0 in
    let place : Holder = holders.Frame t j in
    let there : place_at (frame_at h t) j ≡ Some cell = some_there _ tests.1 in
    let shows : (q : ℕ) → q ≢ cell → is_number (place_at (frame_at h t) j) q ≡ false =
    λ q ne. ap (λ o. is_number o q) there ∙ ne_eqb cell q (λ e. ne (sym e)) in
    let filled_place : place_at (frame_at h' t) j ≡ Some old = ap (λ (f : List (Option ℕ)). place_at f j) at.own.frame
    ∙ place_at-filled_here (frame_at h t) j old in (
      record {
        container = door.container;
        holds = door.holds;
        other_place = door.unlocked j parts.1;
        entry = slice_get-get_or (entries_at h c) i 0 (ltb-true _ _ tests.0);
        fits = (
          occupies h t j cell sound there,
          λ low. is_vacant_place h t j
              (λ q high. shows q (λ e. omega (arith, low, high, e))),
        );
      },
      entries_map h h' c _ (placed (unplaced (map_of h).held cell place) old place) door.within at.lasting (λ q. refl)
          (λ q p. placed_at (unplaced (map_of h).held cell place) old place q p ((map_of h').held q p)
          (λ same. at_placed (λ n r. (map_of h').held n r ≡ true) old place q p same
          (λ mortal. frame_shows h' t j old mortal filled_place))
          (λ not_old. sym (unplaced_at (map_of h).held cell place q p ((map_of h').held q p)
          (λ same. at_placed (λ n r. is_placed old place n r ≡ false → (map_of h').held n r ≡ false) cell place q p same
          (λ mortal other.
          frame_hides h' t j cell (ap (λ o. is_number o cell) filled_place
          ∙ ne_eqb old cell (λ e. placed_apart t j old cell j other (mortal_number cell mortal) refl (sym e)))) not_old)
          (λ not_cell. places_after h t c (changes.Swap i j)
          (λ n r. is_placed cell place n r || is_placed old place n r) at
          (λ k n mortal kept. filled_alike (frame_at h t) j old k n
          (λ same. shows n (placed_apart t j cell n k (or_parts _ _ kept).0 mortal same))
          (placed_apart t j old n k (or_parts _ _ kept).1 mortal)) q p (or_from _ _ not_cell not_old))))),
    )

pub unlock_moves : (A : Type 0) (h : Heap) (t c : ℕ) (change : Change) → IsSound h → AtCell h t (Unlock change) c
    → MakesMoves {A = A} (map_of h) (moves_of h t (Unlock change) (Some c)) (map_of (stepped h t (Unlock change) c))
unlock_moves A h t c changes.Keep sound at = quiet_step h t (Unlock changes.Keep) c at refl refl (λ q. refl) refl
    (λ q. ap (λ lists. get_or lists q []) (set-get_or h.entries c []))
unlock_moves A h t c (changes.Put j) sound at = put_moves A h t c j sound at
unlock_moves A h t c (changes.Take i j) sound at = take_moves A h t c i j sound at
unlock_moves A h t c (changes.Swap i j) sound at = swap_moves A h t c i j sound at
