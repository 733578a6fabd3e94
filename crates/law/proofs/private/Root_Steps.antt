-- The root's steps keep private cells apart: a new thread names no cell, nor does a number that is used again, and
-- gathering one changes nothing of cells.
use Rattle.std.proofs.Common.{◌≡◌, ℕ, ◌++◌, ◌∷◌, Bool, true, false, List, [], length, get_or, set, replicate, Some}
use Rattle.std.proofs.Common.{None, sym, ◌∙◌, subst, inl, inr, arith}
use Rattle.std.proofs.lemmas.Bool.{cases_eq, cases_lt, true≢false}
use Rattle.std.proofs.lemmas.List.{get_or_push, get_or_past, length-set}
use Rattle.law.specs.world.Phases.{is_active_phase}
use Rattle.law.specs.declared.world.row.Hand.TheVariants as hands
use Rattle.law.specs.declared.world.row.Row.{Row}
use Rattle.law.specs.world.Lists.{place_at, bit_of, is_marked}
use Rattle.law.specs.world.Heap.{Heap, new_row, again_row, no_row, words_for}
use Rattle.law.specs.world.Steps.{registered, registered_again, gathered_in}
use Rattle.law.proofs.world.Changes.{read_here, read_there}
use Rattle.law.proofs.world.Registering.{push_else, new_bit, new_mark}
use Rattle.law.specs.private.Private.{Isolated}

-- a list grows by one, and what is said of each stays
pushed : {A : Type 0} (P : A → Type 0) (xs : List A) (new d : A) (v : ℕ) → P new → P (get_or xs v d)
    → P (get_or (xs ++ new ∷ []) v d)
pushed P xs new d v here there = elim (cases_eq v (length xs)) [
  | inl last ↦ subst P (sym (get_or_push xs new d v (sym last))) here
  | inr other ↦ subst P (sym (push_else xs new d v other)) there
]

none_there : (k c : ℕ) → place_at [] k ≡ Some c → ⊥
none_there k c at = let bad : None ≡ Some c = at in cc

pub apart_registered : (h : Heap) (t : ℕ) (mine : ℕ → Bool) → Isolated h t mine → Isolated (registered h) t mine
apart_registered h t mine apart = record {
  mortal = apart.mortal;
  cells = apart.cells;
  frames = λ v k c is. pushed (λ frame. place_at frame k ≡ Some c → v ≡ t) h.frames [] [] v
      (λ at. absurd (none_there k c at)) (apart.frames v k c is);
  hands = λ v c p is. pushed (λ (r : Row). r.hand ≡ hands.Busy p c → (v ≡ t) × (is_active_phase p ≡ true)) h.rows
      new_row no_row v (λ at. absurd (let bad : hands.Free ≡ hands.Busy p c = at in cc)) (apart.hands v c p is);
  popped = λ v c is. pushed (λ (ws : List ℕ). bit_of ws c ≡ 0) h.popped (replicate (words_for (length h.cells)) 0) [] v
      (new_bit (words_for (length h.cells)) c) (apart.popped v c is);
  queues = λ v c is. pushed (λ (ws : List ℕ). bit_of ws c ≡ 0) h.queues (replicate (words_for (length h.cells)) 0) [] v
      (new_bit (words_for (length h.cells)) c) (apart.queues v c is);
  worklists = λ v c is. pushed (λ (ws : List Bool). is_marked ws c ≡ true → v ≡ t) h.worklists
      (replicate (length h.cells) false) [] v (λ on. absurd (true≢false (sym on ∙ new_mark (length h.cells) c)))
      (apart.worklists v c is);
  entries = apart.entries;
}

-- a number that is used again names no cell, and nothing is said of other numbers
put_again : {A : Type 0} (P : A → Type 0) (xs : List A) (u : ℕ) (new d : A) (v : ℕ) → P new → P (get_or xs v d)
    → P (get_or (set xs u new) v d)
put_again P xs u new d v here there = elim (cases_eq v u) [
  | inr other ↦ subst P (sym (read_there xs u v new d other)) there
  | inl same ↦ elim (cases_lt u (length xs)) [
    | inl inside ↦ subst (λ i. P (get_or (set xs u new) i d)) (sym same)
        (subst P (sym (read_here xs u new d inside)) here)
    | inr past ↦ subst P (get_or_past xs v d (omega (arith, past, same))
        ∙ sym (get_or_past (set xs u new) v d (omega (arith, past, same, length-set xs u new)))) there
  ]
]

pub apart_registered_again : (h : Heap) (u t : ℕ) (mine : ℕ → Bool) → Isolated h t mine
    → Isolated (registered_again h u) t mine
apart_registered_again h u t mine apart = record {
  mortal = apart.mortal;
  cells = apart.cells;
  frames = λ v k c is. put_again (λ frame. place_at frame k ≡ Some c → v ≡ t) h.frames u [] [] v
      (λ at. absurd (none_there k c at)) (apart.frames v k c is);
  hands = λ v c p is. put_again (λ (r : Row). r.hand ≡ hands.Busy p c → (v ≡ t) × (is_active_phase p ≡ true)) h.rows u
      again_row no_row v
      (λ at. absurd (let bad : hands.Free ≡ hands.Busy p c = at in cc)) (apart.hands v c p is);
  popped = λ v c is. put_again (λ (ws : List ℕ). bit_of ws c ≡ 0) h.popped u (replicate (words_for (length h.cells)) 0)
      [] v (new_bit (words_for (length h.cells)) c) (apart.popped v c is);
  queues = λ v c is. put_again (λ (ws : List ℕ). bit_of ws c ≡ 0) h.queues u (replicate (words_for (length h.cells)) 0)
      [] v (new_bit (words_for (length h.cells)) c) (apart.queues v c is);
  worklists = λ v c is. put_again (λ (ws : List Bool). is_marked ws c ≡ true → v ≡ t) h.worklists u
      (replicate (length h.cells) false) [] v
      (λ on. absurd (true≢false (sym on ∙ new_mark (length h.cells) c))) (apart.worklists v c is);
  entries = apart.entries;
}

pub apart_gathered : (h : Heap) (u t : ℕ) (mine : ℕ → Bool) → Isolated h t mine → Isolated (gathered_in h u) t mine
apart_gathered h u t mine apart = record {
  mortal = apart.mortal;
  cells = apart.cells;
  frames = apart.frames;
  hands = apart.hands;
  popped = apart.popped;
  queues = apart.queues;
  worklists = apart.worklists;
  entries = apart.entries;
}
