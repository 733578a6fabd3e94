-- After an unlock of its thread a private cell is an entry of private cells alone.
use Rattle.std.proofs.Common.{◌≡◌, ℕ, ◌<◌, ◌&&◌, not, Bool, true, false, if◌then◌else◌, List, [], ◌∷◌, ◌++◌, length}
use Rattle.std.proofs.Common.{slice_get, slice_set, remove, zero, suc, Option, Some, None, sym, ◌∙◌, ap, subst, inl}
use Rattle.std.proofs.Common.{inr, ◌⊎◌, arith}
use Rattle.std.proofs.lemmas.Bool.{cases_eq, cases_Bool, true≢false}
use Rattle.law.specs.declared.world.event.Change.{Change}
use Rattle.law.specs.declared.world.event.Change.TheVariants as changes
use Rattle.law.specs.declared.world.event.Step.TheVariants.{Unlock}
use Rattle.law.specs.world.Lists.{place_at, number_in}
use Rattle.law.specs.world.Heap.{Heap, entries_at, row_at, frame_at}
use Rattle.law.specs.world.Steps.{target_at, target_ok, thread_may, locked_cell, locked_at, entries_changed, stepped}
use Rattle.law.specs.world.Sound.{IsSound}
use Rattle.law.proofs.world.Asking.{may_parts, on_cell}
use Rattle.law.proofs.world.Changes.{read_here, read_there}
use Rattle.law.specs.private.Private.{Isolated, is_in, is_shared, place_put, private_by}

in_append : (xs : List ℕ) (y i c : ℕ) → slice_get (xs ++ y ∷ []) i ≡ Some c → (slice_get xs i ≡ Some c) ⊎ (y ≡ c)
in_append [] y zero c at = inr (cc)
in_append [] y (suc i) c at = absurd (cc)
in_append (x ∷ xs) y zero c at = inl at
in_append (x ∷ xs) y (suc i) c at = in_append xs y i c at

in_set : (xs : List ℕ) (j y i c : ℕ) → slice_get (slice_set xs j y) i ≡ Some c
    → ((k : ℕ) × (slice_get xs k ≡ Some c)) ⊎ (y ≡ c)
in_set [] j y i c at = inl (i, at)
in_set (x ∷ xs) zero y zero c at = inr (cc)
in_set (x ∷ xs) zero y (suc i) c at = inl (suc i, at)
in_set (x ∷ xs) (suc j) y zero c at = inl (0, at)
in_set (x ∷ xs) (suc j) y (suc i) c at = elim (in_set xs j y i c at) [
  | inl was ↦ inl (suc was.0, was.1)
  | inr new ↦ inr new
]

in_removed : (xs : List ℕ) (j i c : ℕ) → slice_get (remove xs j) i ≡ Some c → (k : ℕ) × (slice_get xs k ≡ Some c)
in_removed [] zero i c at = (i, at)
in_removed [] (suc j) i c at = (i, at)
in_removed (x ∷ xs) zero i c at = (suc i, at)
in_removed (x ∷ xs) (suc j) zero c at = (0, at)
in_removed (x ∷ xs) (suc j) (suc i) c at = let rest = in_removed xs j i c at in (suc rest.0, rest.1)

-- a place that spells another cell than 0 has it
spelled : (o : Option ℕ) (c : ℕ) → 0 < c → number_in o ≡ c → o ≡ Some c
spelled None c some_cell new = absurd (omega (arith, some_cell, new))
spelled (Some e) c some_cell new = ap Some new

-- what an unlock leaves in the object was there, or is the cell that it put
pub in_changed : (change : Change) (frame : List (Option ℕ)) (entries : List ℕ) (i c : ℕ) → 0 < c
    → slice_get (entries_changed change frame entries) i ≡ Some c
    → ((k : ℕ) × (slice_get entries k ≡ Some c)) ⊎ (locked_cell frame (place_put change) ≡ Some c)
in_changed changes.Keep frame entries i c some_cell at = inl (i, at)
in_changed (changes.Put j) frame entries i c some_cell at =
    elim (in_append entries (number_in (place_at frame j)) i c at) [
      | inl was ↦ inl (i, was)
      | inr new ↦ inr (spelled (place_at frame j) c some_cell new)
    ]
in_changed (changes.Take j k) frame entries i c some_cell at = inl (in_removed entries j i c at)
in_changed (changes.Swap j k) frame entries i c some_cell at =
    elim (in_set entries j (number_in (place_at frame k)) i c at) [
      | inl was ↦ inl was
      | inr new ↦ inr (spelled (place_at frame k) c some_cell new)
    ]

unshared : (mine : ℕ → Bool) (o : Option ℕ) (d c : ℕ) → o ≡ Some c → mine c ≡ true
    → (is_in mine o && not (mine d)) ≡ false → mine d ≡ true
unshared mine o d c named is kept = elim (cases_Bool (mine d)) [
  | inl there ↦ there
  | inr out ↦ absurd (true≢false
      (sym (ap (λ (p : Option ℕ). is_in mine p && not (mine d)) named ∙ ap (λ b. b && not (mine d)) is
      ∙ ap not out) ∙ kept))
]

-- An unlock by the thread: a cell that is private still stands in private cells alone. What it shares, it shares whole.
pub unlock_kept : (h : Heap) (t : ℕ) (mine : ℕ → Bool) (change : Change) (d : ℕ) → IsSound h → Isolated h t mine
    → thread_may h t (Unlock change) ≡ true → target_at h t (Unlock change) ≡ Some d
    → (e i c : ℕ) → private_by (frame_at h t) (locked_at h t) (Unlock change) mine c ≡ true
    → slice_get (entries_at (stepped h t (Unlock change) d) e) i ≡ Some c
    → private_by (frame_at h t) (locked_at h t) (Unlock change) mine e ≡ true
unlock_kept h t mine change d sound apart may named e i c is at =
    elim (cases_Bool (is_shared mine (frame_at h t) (locked_at h t) change)) [
      | inl shared ↦ absurd (true≢false (sym is ∙ ap (λ b. if b then false else mine c) shared))
      | inr kept ↦
          let was : mine c ≡ true = ap (λ b. if b then false else mine c) (sym kept) ∙ is in
          ap (λ b. if b then false else mine e) kept ∙ elim (cases_eq e d) [
            | inr other ↦ apart.entries e i c was
                (ap (λ xs. slice_get xs i)
                (sym (read_there h.entries d e (entries_changed change (frame_at h t) (entries_at h d)) [] other)) ∙ at)
            | inl same ↦
                let inside : d < length h.entries =
                omega (
                  arith,
                  sound.shaped.entries,
                  (on_cell h t (Unlock change) d (subst (λ o. target_ok h t (row_at h t) (Unlock change) o ≡ true) named
                      (may_parts h t (Unlock change) may).on_target)).inside,
                ) in
                let here : slice_get (entries_changed change (frame_at h t) (entries_at h d)) i ≡ Some c =
                ap (λ xs. slice_get xs i)
                (sym (read_here h.entries d (entries_changed change (frame_at h t) (entries_at h d)) [] inside))
                ∙ ap (λ j. slice_get (entries_at (stepped h t (Unlock change) d) j) i) (sym same) ∙ at in
                ap mine same ∙ elim (in_changed change (frame_at h t) (entries_at h d) i c
                (omega (arith, apart.mortal c was)) here) [
                  | inl old ↦ apart.entries d old.0 c was old.1
                  | inr put ↦ unshared mine _ d c put was
                      (ap (λ o. is_in mine (locked_cell (frame_at h t) (place_put change)) && not (is_in mine o))
                      (sym named) ∙ kept)
                ]
          ]
    ]
