-- Another's step keeps a thread's private cells apart.
use Rattle.std.proofs.Common.{◌≡◌, ◌≢◌, ℕ, ◌<◌, Bool, true, List, [], length, get_or, set, slice_get, Some, sym, ◌∙◌}
use Rattle.std.proofs.Common.{ap, subst, inl, inr, arith}
use Rattle.std.proofs.lemmas.Bool.{cases_eq}
use Rattle.law.specs.declared.world.event.Step.{Step}
use Rattle.law.specs.declared.world.event.Step.TheVariants.{Unlock}
use Rattle.law.specs.declared.world.row.Hand.TheVariants as hands
use Rattle.law.specs.declared.world.row.Row.{Row}
use Rattle.law.specs.world.Lists.{bit_of, is_marked}
use Rattle.law.specs.world.Heap.{Heap, cell_at, entries_at, row_at, frame_at, popped_at, worklist_at, no_row, no_cell}
use Rattle.law.specs.world.Steps.{target_at, target_ok, thread_may, row_after, popped_after, worklist_after}
use Rattle.law.specs.world.Steps.{takes_block, is_free_step, entries_after, entries_changed, born_cell, gone, stepped}
use Rattle.law.specs.world.Steps.{is_shut}
use Rattle.law.specs.world.Sound.{IsSound}
use Rattle.law.proofs.world.Asking.{May, may_parts, on_cell}
use Rattle.law.proofs.world.Changes.{read_here, read_there}
use Rattle.law.specs.private.Private.{Isolated, OwnCell, place_put}
use Rattle.law.proofs.private.Others_Leave.{others_leave, is_locked}
use Rattle.law.proofs.private.In_Frames.{frames_kept}
use Rattle.law.proofs.private.In_Queues.{queues_kept}
use Rattle.law.proofs.private.In_Entries.{in_changed}
use Rattle.law.proofs.private.Brought.{hand_brings, marks_bring, popped_keeps, entries_fewer}

module _ (h : Heap) (t u : ℕ) (mine : ℕ → Bool) (sound : IsSound h) (apart : Isolated h t mine) (other : u ≢ t) where
  foreign : (s : Step) (d : ℕ) → thread_may h u s ≡ true → target_at h u s ≡ Some d → mine d ≡ true → ⊥
  foreign s d may named is = others_leave h t u mine s d sound apart other may named is

  entries_kept : (s : Step) (d : ℕ) → thread_may h u s ≡ true → target_at h u s ≡ Some d → (e i c : ℕ) → mine c ≡ true
      → slice_get (get_or (entries_after s d (cell_at h d) (frame_at h u) h.entries) e []) i ≡ Some c → mine e ≡ true
  entries_kept (Unlock change) d may named e i c is at = elim (cases_eq e d) [
    | inr off ↦ apart.entries e i c is
        (ap (λ xs. slice_get xs i)
        (sym (read_there h.entries d e (entries_changed change (frame_at h u) (entries_at h d)) [] off)) ∙ at)
    | inl same ↦
        let inside : d < length h.entries =
        omega (
          arith,
          sound.shaped.entries,
          (on_cell h u (Unlock change) d (subst (λ o. target_ok h u (row_at h u) (Unlock change) o ≡ true) named
              (may_parts h u (Unlock change) may).on_target)).inside,
        ) in
        let here : slice_get (entries_changed change (frame_at h u) (entries_at h d)) i ≡ Some c =
        ap (λ xs. slice_get xs i)
        (sym (read_here h.entries d (entries_changed change (frame_at h u) (entries_at h d)) [] inside))
        ∙ ap (λ j. slice_get (get_or (set h.entries d (entries_changed change (frame_at h u) (entries_at h d))) j []) i)
        (sym same) ∙ at in
        elim (in_changed change (frame_at h u) (entries_at h d) i c (omega (arith, apart.mortal c is)) here) [
          | inl old ↦ absurd (foreign (Unlock change) d may named (apart.entries d old.0 c is old.1))
          | inr put ↦ absurd (is_locked h t u mine sound apart other (place_put change) c is put)
        ]
  ]
  entries_kept s d may named e i c is at = apart.entries e i c is
      (entries_fewer h.entries (born_cell s) (gone s (cell_at h d)) e i c at)

  pub others_step : (s : Step) (d : ℕ) → thread_may h u s ≡ true → target_at h u s ≡ Some d
      → Isolated (stepped h u s d) t mine
  others_step s d may named =
      let parts : May h u s = may_parts h u s may in
      let row : Row = row_after s d (cell_at h d) (is_shut h d) (row_at h u) in
      let marks : List Bool = worklist_after s d (cell_at h d) (worklist_at h u) in
      record {
        mortal = apart.mortal;
        cells = λ c is. elim (cases_eq c d) [
          | inl same ↦ absurd (foreign s d may named (ap mine (sym same) ∙ is))
          | inr off ↦ subst (OwnCell t) (sym (read_there h.cells d c _ no_cell off)) (apart.cells c is)
        ];
        frames = frames_kept h t u mine s d sound apart may named;
        hands = λ v c p is busy. elim (cases_eq v u) [
          | inr off ↦ apart.hands v c p is
              (ap (λ (r : Row). r.hand) (sym (read_there h.rows u v row no_row off)) ∙ busy)
          | inl same ↦
              let here : row.hand ≡ hands.Busy p c = ap (λ (r : Row). r.hand)
              (sym (read_here h.rows u row no_row parts.inside)) ∙ ap (λ i. (row_at (stepped h u s d) i).hand)
              (sym same) ∙ busy in
              elim (hand_brings s d (cell_at h d) (is_shut h d) (row_at h u).hand p c here) [
                | inl was ↦ absurd (other (apart.hands u c p is was).0)
                | inr meant ↦ absurd (foreign s d may named (ap mine meant ∙ is))
              ]
        ];
        popped = λ v c is. elim (cases_eq v u) [
          | inr off ↦ ap (λ (ws : List ℕ). bit_of ws c) (read_there h.popped u v _ [] off) ∙ apart.popped v c is
          | inl same ↦ ap (λ i. bit_of (popped_at (stepped h u s d) i) c) same
              ∙ ap (λ (ws : List ℕ). bit_of ws c) (read_here h.popped u (popped_after s (popped_at h u)) []
              (omega (arith, sound.shaped.popped, parts.inside)))
              ∙ popped_keeps h u s c parts (apart.popped u c is)
        ];
        queues = queues_kept h t u mine s d sound apart may named;
        worklists = λ v c is marked. elim (cases_eq v u) [
          | inr off ↦ apart.worklists v c is
              (ap (λ (ws : List Bool). is_marked ws c) (sym (read_there h.worklists u v marks [] off)) ∙ marked)
          | inl same ↦
              let here : is_marked marks c ≡ true = ap (λ (ws : List Bool). is_marked ws c)
              (sym (read_here h.worklists u marks [] (omega (arith, sound.shaped.worklists, parts.inside))))
              ∙ ap (λ i. is_marked (worklist_at (stepped h u s d) i) c) (sym same) ∙ marked in
              elim (marks_bring (is_free_step s) (takes_block s (cell_at h d)) d c (worklist_at h u) here) [
                | inl was ↦ absurd (other (apart.worklists u c is was))
                | inr meant ↦ absurd (foreign s d may named (ap mine meant ∙ is))
              ]
        ];
        entries = λ e i c is at. entries_kept s d may named e i c is at;
      }
