-- Queue words have bits of their 32 cells alone, and a heap has as many cells as it opened with.
use Rattle.std.proofs.Common.{◌≡◌, ℕ, ◌/◌, ◌%◌, ◌<◌, ◌==◌, nat_lt, Bool, true, false, if◌then◌else◌, List, [], ◌∷◌}
use Rattle.std.proofs.Common.{length, get_or, set, replicate, zero, suc, Option, Some, None, refl, sym, ◌∙◌, subst, inl}
use Rattle.std.proofs.Common.{inr, arith}
use Rattle.std.proofs.lemmas.List.{length-set, get_or_past}
use Rattle.std.proofs.lemmas.Bool.{cases_eq, cases_lt, cases_Bool}
use Rattle.std.proofs.lemmas.Nat.{or_lt, pow_below}
use Rattle.law.specs.declared.world.event.Event.{Event}
use Rattle.law.specs.declared.world.event.Step.{Step}
use Rattle.law.specs.declared.world.event.Step.TheVariants.{Enqueue, Register, Gather}
use Rattle.law.specs.world.Lists.{word_at, with_bit}
use Rattle.law.specs.known.Start.{runs_in, start_of}
use Rattle.law.specs.declared.world.edition.Edition.{Edition}
use Rattle.law.specs.world.Heap.{Heap, opening_in, queue_at, cell_at, words_for}
use Rattle.law.specs.world.Steps.{after, after_target, root_after, registered, registered_again, target_at, is_shut}
use Rattle.law.specs.world.Steps.{queues_after, drained_word, without_drained}
use Rattle.law.specs.world.Runs.{world_after}
use Rattle.law.proofs.world.Changes.{read_by, read_there}
use Rattle.law.proofs.world.Registering.{read_push, new_word}
use Rattle.law.proofs.world.Beginning.{length-opening}
use Rattle.law.proofs.known.Items_Told.{QueuesFit}

-- what holds of all that is read, and of the new value, holds after it is put, within the list or past its end
set_keeps : {A : Type 0} (P : A → Type 0) (xs : List A) (i : ℕ) (v d : A) → P d → P v → ((j : ℕ) → P (get_or xs j d))
    → (j : ℕ) → P (get_or (set xs i v) j d)
set_keeps {A} P xs i v d past here there j = elim (cases_lt i (length xs)) [
  | inl inside ↦ read_by (λ _. P) xs i v d inside here (λ k _. there k) j
  | inr beyond ↦ elim (cases_eq j i) [
    | inl same ↦ subst P (sym (get_or_past (set xs i v) j d (omega (arith, length-set xs i v, beyond, same)))) past
    | inr other ↦ subst P (sym (read_there xs i j v d other)) (there j)
  ]
]

-- all words of a queue are small
Small : List ℕ → Type 0
Small words = (k : ℕ) → word_at words k < 4294967296

none_small : Small []
unfolding Small
none_small k = omega arith

set_small : (words : List ℕ) (k w : ℕ) → w < 4294967296 → Small words → Small (set words k w)
unfolding Small
set_small words k w few small = set_keeps (λ v. v < 4294967296) words k w 0 (omega arith) few small

with_bit_small : (words : List ℕ) (c : ℕ) → Small words → Small (with_bit words c)
unfolding Small
with_bit_small words c small = set_small words (c / 32) _
    (or_lt 32 _ _ (small (c / 32)) (pow_below (c % 32) 32 (omega arith))) small

AllSmall : List (List ℕ) → Type 0
AllSmall queues = (t : ℕ) → Small (get_or queues t [])

put_small : (queues : List (List ℕ)) (t : ℕ) (words : List ℕ) → Small words → AllSmall queues
    → AllSmall (set queues t words)
unfolding AllSmall
put_small queues t words small all = set_keeps Small queues t words [] none_small small all

taken_small : (o : Option ℕ) (queue : List ℕ) → Small queue → Small (without_drained o queue)
taken_small None queue small = small
taken_small (Some k) queue small = set_small queue k 0 (omega arith) small

queued_small : (h : Heap) (s : Step) (c : ℕ) → AllSmall h.queues → AllSmall (queues_after h s c)
unfolding AllSmall
queued_small h (Enqueue d) c small = elim (cases_Bool (is_shut h c)) [
  | inl shut ↦ subst (λ b. AllSmall (if b then h.queues else set h.queues (cell_at h c).bearer
      (with_bit (queue_at h (cell_at h c).bearer) c))) (sym shut) small
  | inr apart ↦ subst (λ b. AllSmall (if b then h.queues else set h.queues (cell_at h c).bearer
      (with_bit (queue_at h (cell_at h c).bearer) c))) (sym apart)
      (put_small h.queues _ _ (with_bit_small _ c (small (cell_at h c).bearer)) small)
]
queued_small h _ c small = small

root_small : (h : Heap) (s : Step) → AllSmall h.queues → AllSmall (root_after h s).queues
unfolding AllSmall Small
root_small h (Register u) small = by_number (nat_lt u (length h.rows))
  where
    blank : Small (replicate (words_for (length h.cells)) 0)
    blank k = omega (arith, new_word (words_for (length h.cells)) k)

    by_number : (b : Bool) → AllSmall (if b then registered_again h u else registered h).queues
    by_number true = put_small h.queues u _ blank small
    by_number false = read_push (λ _ words. Small words) h.queues (replicate (words_for (length h.cells)) 0) [] blank
        (λ j _. small j)
root_small h (Gather u) small = small
root_small h _ small = small

target_small : (h : Heap) (t : ℕ) (s : Step) (o : Option ℕ) → AllSmall h.queues → AllSmall (after_target h t s o).queues
unfolding AllSmall
target_small h t s None small = put_small h.queues t _ (taken_small (drained_word s) (queue_at h t) (small t)) small
target_small h t s (Some c) small = queued_small h s c small

after_small : (h : Heap) (e : Event) → AllSmall h.queues → AllSmall (after h e).queues
after_small h e small =
    let moved : Heap = after_target h e.thread e.step (target_at h e.thread e.step) in
    let P : Bool → Type 0 = λ b. let w : Heap = if b then root_after h e.step else moved in AllSmall w.queues in
    elim (cases_Bool (e.thread == 0)) [
      | inl root ↦ subst P (sym root) (root_small h e.step small)
      | inr thread ↦ subst P (sym thread) (target_small h e.thread e.step (target_at h e.thread e.step) small)
    ]

run_small : (edition : Edition) (cells limit : ℕ) (run : List Event)
    → AllSmall (world_after (opening_in edition cells limit) run).queues
unfolding AllSmall Small
run_small edition cells limit [] = opens
  where
    opens : (t k : ℕ) → word_at (get_or ([] ∷ []) t []) k < 4294967296
    opens zero k = omega arith
    opens (suc t) k = omega arith
run_small edition cells limit (e ∷ run) = after_small (world_after (opening_in edition cells limit) run) e
    (run_small edition cells limit run)

pub queues_in : (edition : Edition) (cells limit : ℕ) (run : List Event)
    → QueuesFit (world_after (opening_in edition cells limit) run)
unfolding AllSmall Small
queues_in edition cells limit run = record { small = run_small edition cells limit run }

pub run_queues : (cells limit : ℕ) (run : List Event) → QueuesFit (world_after (start_of cells limit) run)
run_queues cells limit run = queues_in runs_in cells limit run

-- ---- as many cells

root_cells : (h : Heap) (s : Step) → length (root_after h s).cells ≡ length h.cells
root_cells h (Register u) = by_number (nat_lt u (length h.rows))
  where
    by_number : (b : Bool) → length (if b then registered_again h u else registered h).cells ≡ length h.cells
    by_number true = refl
    by_number false = refl
root_cells h (Gather u) = refl
root_cells h _ = refl

target_cells : (h : Heap) (t : ℕ) (s : Step) (o : Option ℕ) → length (after_target h t s o).cells ≡ length h.cells
target_cells h t s None = refl
target_cells h t s (Some c) = length-set h.cells c _

after_cells : (h : Heap) (e : Event) → length (after h e).cells ≡ length h.cells
after_cells h e =
    let moved : Heap = after_target h e.thread e.step (target_at h e.thread e.step) in
    let P : Bool → Type 0 = λ b. let w : Heap = if b then root_after h e.step else moved in
    length w.cells ≡ length h.cells in
    elim (cases_Bool (e.thread == 0)) [
      | inl root ↦ subst P (sym root) (root_cells h e.step)
      | inr thread ↦ subst P (sym thread) (target_cells h e.thread e.step (target_at h e.thread e.step))
    ]

pub run_cells : (cells limit : ℕ) (run : List Event) → length (world_after (start_of cells limit) run).cells ≡ cells
run_cells cells limit [] = length-opening cells
run_cells cells limit (e ∷ run) = after_cells (world_after (start_of cells limit) run) e ∙ run_cells cells limit run
