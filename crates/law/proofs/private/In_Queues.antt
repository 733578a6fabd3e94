-- After any step of any thread a private cell is in no merge queue.
use Rattle.std.proofs.Common.{◌≡◌, ◌≢◌, ℕ, Bool, true, if◌then◌else◌, List, [], length, get_or, set, Some, sym, ◌∙◌, ap}
use Rattle.std.proofs.Common.{inl, inr, arith}
use Rattle.std.proofs.lemmas.Bool.{cases_eq, cases_lt, cases_Bool, true≢false}
use Rattle.std.proofs.lemmas.List.{get_or_past, length-set}
use Rattle.law.specs.declared.world.event.Step.{Step}
use Rattle.law.specs.declared.world.event.Step.TheVariants.{Enqueue}
use Rattle.law.specs.declared.world.row.Phase.TheVariants as phases
use Rattle.law.specs.world.Lists.{bit_of, with_bit}
use Rattle.law.specs.world.Heap.{Heap, cell_at, queue_at}
use Rattle.law.specs.world.Steps.{target_at, thread_may, stepped, is_shut}
use Rattle.law.specs.world.Sound.{IsSound}
use Rattle.law.proofs.world.Naming.{busy_hand}
use Rattle.law.proofs.world.Asking.{may_parts}
use Rattle.law.proofs.world.Bitwise.{with_bit_else}
use Rattle.law.proofs.world.Changes.{read_here, read_there}
use Rattle.law.specs.private.Private.{Isolated}

-- A private cell is in no merge queue after any step: its thread's hand, while that is active, never asks.
pub queues_kept : (h : Heap) (t u : ℕ) (mine : ℕ → Bool) (s : Step) (d : ℕ) → IsSound h → Isolated h t mine
    → thread_may h u s ≡ true → target_at h u s ≡ Some d
    → (v c : ℕ) → mine c ≡ true → bit_of (queue_at (stepped h u s d) v) c ≡ 0
queues_kept h t u mine (Enqueue e) d sound apart may named v c is =
    let same : e ≡ d = cc in
    let busy = busy_hand phases.Asked e _ (may_parts h u (Enqueue e) may).hand in
    let other : c ≢ d = λ eq. true≢false (sym (apart.hands u e phases.Asked (ap mine (same ∙ sym eq) ∙ is) busy).1) in
    elim (cases_Bool (is_shut h d)) [
      | inl shut ↦ ap (λ b. let queues : List (List ℕ) = if b then h.queues else set h.queues (cell_at h d).bearer
          (with_bit (queue_at h (cell_at h d).bearer) d) in bit_of (get_or queues v []) c) shut ∙ apart.queues v c is
      | inr unclosed ↦ ap (λ b. let queues : List (List ℕ) = if b then h.queues else set h.queues (cell_at h d).bearer
          (with_bit (queue_at h (cell_at h d).bearer) d) in bit_of (get_or queues v []) c) unclosed
          ∙ elim (cases_eq v (cell_at h d).bearer) [
            | inr off ↦ ap (λ (ws : List ℕ). bit_of ws c) (read_there h.queues (cell_at h d).bearer v _ [] off)
                ∙ apart.queues v c is
            | inl here ↦ elim (cases_lt (cell_at h d).bearer (length h.queues)) [
              | inl inside ↦ ap (λ j. bit_of
                  (get_or (set h.queues (cell_at h d).bearer (with_bit (queue_at h (cell_at h d).bearer) d)) j
                  []) c) here
                  ∙ ap (λ (ws : List ℕ). bit_of ws c) (read_here h.queues (cell_at h d).bearer _ [] inside)
                  ∙ with_bit_else (queue_at h (cell_at h d).bearer) d c other ∙ apart.queues (cell_at h d).bearer c is
              | inr past ↦ ap (λ (ws : List ℕ). bit_of ws c)
                  (get_or_past (set h.queues (cell_at h d).bearer (with_bit (queue_at h (cell_at h d).bearer) d)) v []
                  (omega (
                    arith,
                    past,
                    here,
                    length-set h.queues (cell_at h d).bearer
                        (with_bit (queue_at h (cell_at h d).bearer) d),
                  )) ∙ sym (get_or_past h.queues v [] (omega (arith, past, here)))) ∙ apart.queues v c is
            ]
          ]
    ]
queues_kept h t u mine s d sound apart may named v c is = apart.queues v c is
