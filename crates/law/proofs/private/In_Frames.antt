-- After any step of any thread a private cell stands in no frame but its thread's.
use Rattle.std.proofs.Common.{◌≡◌, ℕ, ◌<◌, ◌≤◌, Bool, true, List, [], length, get_or, Option, Some, None, sym, ◌∙◌, ap}
use Rattle.std.proofs.Common.{inl, inr, ◌⊎◌, arith}
use Rattle.std.proofs.lemmas.Bool.{cases_eq, cases_lt}
use Rattle.std.proofs.lemmas.List.{get_or_past, get_or-set_same, length-set}
use Rattle.std.proofs.lemmas.Option.{slice_get-get_or}
use Rattle.law.specs.declared.world.cell.Cell.{Cell}
use Rattle.law.specs.declared.world.event.Change.TheVariants as changes
use Rattle.law.specs.declared.world.event.Dropped.{Dropped}
use Rattle.law.specs.declared.world.event.Dropped.TheVariants as dropped
use Rattle.law.specs.declared.world.event.Step.{Step}
use Rattle.law.specs.declared.world.event.Step.TheVariants.{Unlock}
use Rattle.law.specs.world.Lists.{place_at, filled, vacated}
use Rattle.law.specs.world.Heap.{Heap, cell_at, entries_at, frame_at}
use Rattle.law.specs.world.Steps.{target_at, thread_may, frame_after, frame_with, frame_without, filled_place, gone}
use Rattle.law.specs.world.Steps.{stepped}
use Rattle.law.specs.world.Sound.{IsSound}
use Rattle.law.proofs.world.Asking.{may_parts}
use Rattle.law.proofs.world.Changes.{read_here, read_there}
use Rattle.law.proofs.world.Framing.{place_at-filled_here, place_at-filled_else, place_at-vacated_else}
use Rattle.law.specs.private.Private.{Isolated}
use Rattle.law.proofs.private.Others_Leave.{others_leave}

-- what a step fills a place with: its own cell, or an entry of the object that it unlocks
abbrev pub Brings : List ℕ → ℕ → ℕ → Type 0
Brings entries d c = (d ≡ c) ⊎ ((i : ℕ) × (get_or entries i 0 ≡ c))

in_filled : (frame : List (Option ℕ)) (j d k c : ℕ) → place_at (filled frame j d) k ≡ Some c
    → (place_at frame k ≡ Some c) ⊎ (d ≡ c)
in_filled frame j d k c at = elim (cases_eq k j) [
  | inr other ↦ inl (sym (place_at-filled_else frame j d k other) ∙ at)
  | inl same ↦ inr (let e : Some d ≡ Some c = sym (place_at-filled_here frame j d)
      ∙ ap (place_at (filled frame j d)) (sym same) ∙ at in cc)
]

in_vacated : (frame : List (Option ℕ)) (j k c : ℕ) → place_at (vacated frame j) k ≡ Some c → place_at frame k ≡ Some c
in_vacated frame j k c at = elim (cases_eq k j) [
  | inr other ↦ sym (place_at-vacated_else frame j k other) ∙ at
  | inl same ↦ elim (cases_lt j (length frame)) [
    | inl inside ↦ absurd (let e : None ≡ Some c = sym (get_or-set_same frame j None None inside)
        ∙ ap (place_at (vacated frame j)) (sym same) ∙ at in cc)
    | inr past ↦ absurd (let e : None ≡ Some c = sym (get_or_past frame j None past) ∙ past_too j past
        ∙ ap (place_at (vacated frame j)) (sym same) ∙ at in cc)
  ]
]
  where
    past_too : (j : ℕ) → length frame ≤ j → place_at frame j ≡ place_at (vacated frame j) j
    past_too j past = get_or_past frame j None past
        ∙ sym (get_or_past (vacated frame j) j None (omega (arith, past, length-set frame j None)))

in_without : (out : Option Dropped) (frame : List (Option ℕ)) (k c : ℕ) → place_at (frame_without out frame) k ≡ Some c
    → place_at frame k ≡ Some c
in_without None frame k c at = at
in_without (Some (dropped.Frame j)) frame k c at = in_vacated frame j k c at
in_without (Some (dropped.Work d)) frame k c at = at

in_with : (o : Option ℕ) (out : Option Dropped) (d : ℕ) (entries : List ℕ) (frame : List (Option ℕ)) (k c : ℕ)
    → place_at (frame_with o out d frame) k ≡ Some c → (place_at frame k ≡ Some c) ⊎ Brings entries d c
in_with None out d entries frame k c at = inl (in_without out frame k c at)
in_with (Some j) out d entries frame k c at = elim (in_filled frame j d k c at) [
  | inl was ↦ inl was
  | inr new ↦ inr (inl new)
]

by_entry : (entries : List ℕ) (i d : ℕ) (frame : List (Option ℕ)) (j k c : ℕ)
    → place_at (filled frame j (get_or entries i 0)) k ≡ Some c → (place_at frame k ≡ Some c) ⊎ Brings entries d c
by_entry entries i d frame j k c at = elim (in_filled frame j (get_or entries i 0) k c at) [
  | inl was ↦ inl was
  | inr new ↦ inr (inr (i, new))
]

pub frame_brings : (s : Step) (d : ℕ) (x : Cell) (entries : List ℕ) (frame : List (Option ℕ)) (k c : ℕ)
    → place_at (frame_after s d x entries frame) k ≡ Some c → (place_at frame k ≡ Some c) ⊎ Brings entries d c
frame_brings (Unlock changes.Keep) d x entries frame k c at = inl at
frame_brings (Unlock (changes.Put j)) d x entries frame k c at = inl (in_vacated frame j k c at)
frame_brings (Unlock (changes.Take i j)) d x entries frame k c at = by_entry entries i d frame j k c at
frame_brings (Unlock (changes.Swap i j)) d x entries frame k c at = by_entry entries i d frame j k c at
frame_brings s d x entries frame k c at = in_with (filled_place s) (gone s x) d entries frame k c at

-- A private cell stands in no frame but its thread's, after any step of any thread: another's brings neither it nor
-- what holds it.
pub frames_kept : (h : Heap) (t u : ℕ) (mine : ℕ → Bool) (s : Step) (d : ℕ) → IsSound h → Isolated h t mine
    → thread_may h u s ≡ true → target_at h u s ≡ Some d
    → (v k c : ℕ) → mine c ≡ true → place_at (frame_at (stepped h u s d) v) k ≡ Some c → v ≡ t
frames_kept h t u mine s d sound apart may named v k c is at = elim (cases_eq v u) [
  | inr other ↦ apart.frames v k c is
      (ap (λ (frame : List (Option ℕ)). place_at frame k)
      (sym (read_there h.frames u v (frame_after s d (cell_at h d) (entries_at h d) (frame_at h u)) [] other)) ∙ at)
  | inl same ↦ elim (cases_eq u t) [
    | inl own ↦ same ∙ own
    | inr foreign ↦
        let inside : u < length h.frames = omega (arith, sound.shaped.frames, (may_parts h u s may).inside) in
        let here : place_at (frame_after s d (cell_at h d) (entries_at h d) (frame_at h u)) k ≡ Some c =
        ap (λ (frame : List (Option ℕ)). place_at frame k)
        (sym (read_here h.frames u (frame_after s d (cell_at h d) (entries_at h d) (frame_at h u)) [] inside))
        ∙ ap (λ i. place_at (frame_at (stepped h u s d) i) k) (sym same) ∙ at in
        elim (frame_brings s d (cell_at h d) (entries_at h d) (frame_at h u) k c here) [
          | inl was ↦ absurd (foreign (apart.frames u k c is was))
          | inr more ↦ elim more [
            | inl meant ↦ absurd (others_leave h t u mine s d sound apart foreign may named (ap mine meant ∙ is))
            | inr entry ↦ elim (cases_lt entry.0 (length (entries_at h d))) [
              | inl in_list ↦ absurd (others_leave h t u mine s d sound apart foreign may named
                  (apart.entries d entry.0 c is (slice_get-get_or (entries_at h d) entry.0 0 in_list
                  ∙ ap Some entry.1)))
              | inr past ↦ absurd (omega (
                arith,
                apart.mortal c is,
                entry.1,
                get_or_past (entries_at h d) entry.0 0 past,
              ))
            ]
          ]
        ]
  ]
]
