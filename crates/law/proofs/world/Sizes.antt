-- How much a reached world has: entries, references and births, each few enough for the number that tells it.
use Rattle.std.proofs.Common.{◌≡◌, ℕ, zero, suc, ◌*◌, ◌<◌, ◌≤◌, ◌^◌, ◌==◌, true, ℤ, pos, List, [], ◌∷◌, length, None}
use Rattle.std.proofs.Common.{get_or, sum_by, sym, ◌∙◌, inl, inr, arith, ◌+◌}
use Rattle.std.proofs.lemmas.List.Sums.{sum_by-cons}
use Rattle.std.proofs.lemmas.Bool.{cases_lt, cases_Bool}
use Rattle.std.proofs.lemmas.Int.{ints}
use Rattle.brc_words.specs.declared.limits.TheConstants.{FIRST_MORTAL, MOST_ENTRIES, MOST_BIRTHS, MOST_LOCAL}
use Rattle.brc_words.specs.declared.limits.TheConstants.{MOST_PLACES, MOST_CELLS, MOST_THREADS}
use Rattle.brc_words.specs.Shared.{CountFits}
use Rattle.brc_words.specs.declared.state.State.{State}
use Rattle.brc_words.specs.declared.state.State.TheVariants as states
use Rattle.law.specs.declared.world.row.Row.{Row}
use Rattle.law.specs.world.Lists.{one, names, times, entry_times, bit_of}
use Rattle.law.specs.world.Heap.{Heap, cell_at, row_at, frame_at, entries_at, no_row}
use Rattle.law.specs.world.Runs.{IsReached}
use Rattle.law.specs.world.Holding.{lives, lives_at, count_of_state, carries}
use Rattle.law.specs.world.Sound.{IsSound, held, in_frames, in_popped, in_hands, in_queues, in_entries}
use Rattle.law.proofs.world.Naming.{live_counts, one-le}
use Rattle.law.proofs.world.Locking.{any_few}
use Rattle.law.proofs.world.Reached.{reached_sound}

pub reached_entries : (h : Heap) → IsReached h → (c : ℕ) → length (entries_at h c) ≤ MOST_ENTRIES
reached_entries h reached c = any_few h c (reached_sound h reached)

-- ---- sums

-- a sum of few small terms
sum_few : {X : Type 0} (f : X → ℕ) (d : X) (most many : ℕ) (xs : List X) → length xs ≤ many
    → ((k : ℕ) → f (get_or xs k d) ≤ most) → sum_by f xs ≤ many * most
sum_few f d most many [] few small = omega arith
sum_few f d most zero (x ∷ xs) few small = absurd (omega arith)
sum_few f d most (suc many) (x ∷ xs) few small =
    rw sum_by-cons (omega (arith, small 0, sum_few f d most many xs (omega arith) (λ k. small (suc k))))

pub reached_births : (h : Heap) → IsReached h → sum_by (λ row. row.allocs) h.rows < 2 ^ 64
reached_births h reached =
    let sound = reached_sound h reached in
    omega (
      arith,
      sum_few (λ (row : Row). row.allocs) no_row MOST_BIRTHS (MOST_THREADS + 1) h.rows sound.shaped.threads
          (λ t. (sound.threads t).births),
    )

-- ---- references

bit_small : (words : List ℕ) (q : ℕ) → bit_of words q ≤ 1
bit_small words q = omega arith

times_few : (h : Heap) → IsSound h → (q t : ℕ) → times q (frame_at h t) ≤ MOST_PLACES
times_few h sound q t = omega (
  arith,
  sum_few (λ x. one (names q x)) None 1 MOST_PLACES (frame_at h t)
      ((sound.threads t).places) (λ k. one-le (names q (get_or (frame_at h t) k None))),
)

entry_times_few : (h : Heap) → IsSound h → (q c : ℕ) → entry_times q (entries_at h c) ≤ MOST_ENTRIES
entry_times_few h sound q c =
    omega (
      arith,
      sum_few (λ x. one (x == q)) 0 1 MOST_ENTRIES (entries_at h c) (any_few h c sound)
          (λ k. one-le (get_or (entries_at h c) k 0 == q)),
    )

held_few : (h : Heap) → IsSound h → (q : ℕ) → held h q < 2 ^ 40
held_few h sound q =
    let frames : in_frames h q ≤ (MOST_THREADS + 1) * MOST_PLACES = sum_few (times q) [] MOST_PLACES
    (MOST_THREADS + 1) h.frames (omega (arith, sound.shaped.frames, sound.shaped.threads)) (times_few h sound q) in
    let popped : in_popped h q ≤ (MOST_THREADS + 1) * 1 = sum_few (λ words. bit_of words q) [] 1
    (MOST_THREADS + 1) h.popped (omega (arith, sound.shaped.popped, sound.shaped.threads))
    (λ t. bit_small (get_or h.popped t []) q) in
    let queues : in_queues h q ≤ (MOST_THREADS + 1) * 1 = sum_few (λ words. bit_of words q) [] 1
    (MOST_THREADS + 1) h.queues (omega (arith, sound.shaped.queues, sound.shaped.threads))
    (λ t. bit_small (get_or h.queues t []) q) in
    let hands : in_hands h q ≤ (MOST_THREADS + 1) * 1 = sum_few (λ (row : Row). one (carries q row.hand)) no_row 1
    (MOST_THREADS + 1) h.rows sound.shaped.threads (λ t. one-le (carries q (row_at h t).hand)) in
    let entries : in_entries h q ≤ MOST_CELLS * MOST_ENTRIES = sum_few (entry_times q) [] MOST_ENTRIES MOST_CELLS
    h.entries (omega (arith, sound.shaped.entries, sound.shaped.options.few_enough)) (entry_times_few h sound q) in
    omega (arith, frames, popped, queues, hands, entries)

-- a count of few references, with a local part below the largest, is small
count_range : (state : State) (local : ℕ) (count : ℤ) (references : ℕ)
    → count_of_state state local count ≡ pos references → local ≤ MOST_LOCAL → references < 2 ^ 40
    → CountFits count
count_range states.Default local count references is limited few = (omega (arith, ints, is), omega (arith, ints, is))
count_range states.Queued local count references is limited few = (omega (arith, ints, is), omega (arith, ints, is))
count_range states.Merged local count references is limited few = (omega (arith, ints, is), omega (arith, ints, is))

-- every shared count fits its word, and so does one that rises or falls by one, or by a local count
pub sound_range : (h : Heap) → IsSound h → (c : ℕ) → CountFits (cell_at h c).count
sound_range h sound c =
    let x = cell_at h c in
    let none : x.count ≡ pos 0 → CountFits x.count = λ zero. (omega (arith, ints, zero), omega (arith, ints, zero)) in
    elim (cases_lt c FIRST_MORTAL) [
      | inl low ↦ none (sound.immortals c low).count
      | inr mortal ↦ elim (cases_Bool (lives x.owner)) [
        | inr dead ↦ none ((sound.cells c mortal).dead_count dead)
        | inl live ↦ count_range x.state x.local x.count (held h c) (sym (live_counts x live) ∙ sound.counted c mortal)
            (omega (arith, (sound.cells c mortal).limited live, sound.shaped.options.below_immortal))
            (held_few h sound c)
      ]
    ]

pub reached_count_range : (h : Heap) → IsReached h → (c : ℕ) → CountFits (cell_at h c).count
reached_count_range h reached c = sound_range h (reached_sound h reached) c

-- the numbers that a live mortal object's words may have
pub reached_counts : (h : Heap) → IsReached h → (c : ℕ) → lives_at h c ≡ true → CountFits (cell_at h c).count
reached_counts h reached c live = reached_count_range h reached c
