-- An event is enabled where no condition refuses it.
use Rattle.std.proofs.Common.{◌≡◌, ◌↔◌, ℕ, ◌==◌, ◌&&◌, not, Bool, true, false, if◌then◌else◌, Option, None, Some}
use Rattle.std.proofs.Common.{is_none, is_some, refl, sym, ap, ◌∙◌}
use Rattle.std.proofs.lemmas.Bool.{true≢false}
use Rattle.law.specs.declared.world.event.Event.{Event}
use Rattle.law.specs.declared.world.event.Step.{Step}
use Rattle.law.specs.declared.world.event.Step.TheVariants.{Register, Gather}
use Rattle.law.specs.world.Heap.{Heap, row_at}
use Rattle.law.specs.world.Steps.{target_ok, thread_may, root_may, enabled}
use Rattle.brc_state.specs.declared.refusing.Refusal.{Refusal}
use Rattle.brc_state.specs.Refusals.{unless, is_roots, cell_refusal, thread_refusal, root_refusal, refusal_of}

and_assoc : (a b c : Bool) → (a && b && c) ≡ (a && (b && c))
and_assoc true b c = refl
and_assoc false b c = refl

and_true : (a : Bool) → (a && true) ≡ a
and_true true = refl
and_true false = refl

and_false : (a : Bool) → (a && false) ≡ false
and_false true = refl
and_false false = refl

-- nothing is refused where the test holds and nothing further is refused
is_none-unless : (a : Bool) (refusal : Refusal) (next : Option Refusal)
    → is_none (unless a refusal next) ≡ (a && is_none next)
is_none-unless true refusal next = refl
is_none-unless false refusal next = refl

is_none-cell_refusal : (h : Heap) (t : ℕ) (s : Step) (c : Option ℕ) → is_none (cell_refusal h t s c) ≡ target_ok h t
    (row_at h t) s c
is_none-cell_refusal h t s None = simp (is_none-unless, and_true)
is_none-cell_refusal h t s (Some c) = simp (is_none-unless, and_true)

-- no thread makes a step of the root's: it means no cell
threads_alone : (h : Heap) (t : ℕ) (s : Step) → (not (is_roots s) && thread_may h t s) ≡ thread_may h t s
threads_alone h t (Register u) = sym (and_false _)
threads_alone h t (Gather u) = sym (and_false _)
threads_alone h t _ = refl

is_none-thread_refusal : (h : Heap) (t : ℕ) (s : Step) → is_none (thread_refusal h t s) ≡ thread_may h t s
is_none-thread_refusal h t s =
    let parts : is_none (thread_refusal h t s) ≡ (not (is_roots s) && thread_may h t s) =
    simp (is_none-unless, is_none-cell_refusal, and_assoc) in
    parts ∙ threads_alone h t s

is_none-root_refusal : (h : Heap) (s : Step) → is_none (root_refusal h s) ≡ root_may h s
is_none-root_refusal h (Register u) = simp (is_none-unless, and_true)
is_none-root_refusal h (Gather u) = simp (is_none-unless, and_true, and_assoc)
is_none-root_refusal h _ = refl

pub not_refused : (h : Heap) (e : Event) → is_none (refusal_of h e) ≡ enabled h e
not_refused h e =
    elim (e.thread == 0) as (λ b. is_none (if b then root_refusal h e.step else thread_refusal h e.thread e.step)
    ≡ (if b then root_may h e.step else thread_may h e.thread e.step)) [
      | true ↦ is_none-root_refusal h e.step
      | false ↦ is_none-thread_refusal h e.thread e.step
    ]

-- the same, told by a test for a refusal
pub told_by_none : (h : Heap) (e : Event) (refusal : Option Refusal) (free : Bool) → refusal ≡ refusal_of h e
    → is_some refusal ≡ not free → free ≡ enabled h e
told_by_none h e None true is told = ap is_none is ∙ not_refused h e
told_by_none h e None false is told = absurd (true≢false (sym told))
told_by_none h e (Some refusal) true is told = absurd (true≢false told)
told_by_none h e (Some refusal) false is told = ap is_none is ∙ not_refused h e

pub unrefused_enabled : (h : Heap) (e : Event) (refusal : Option Refusal) → refusal ≡ refusal_of h e
    → (refusal ≡ None) ↔ (enabled h e ≡ true)
unrefused_enabled h e None is = (λ none. sym (ap is_none is ∙ not_refused h e), λ on. refl)
unrefused_enabled h e (Some refusal) is = (
  λ none. absurd (true≢false (ap is_none (sym none))),
  λ on. absurd (true≢false (sym (ap is_none is ∙ not_refused h e ∙ on))),
)
