-- What an enabled step of a thread says: of the thread, of the one cell that it means, of what an unlock changes, and
-- of the queue word that it names.
use Rattle.std.proofs.Common.{◌≡◌, ℕ, ◌/◌, ◌<◌, ◌≤◌, nat_lt, true, Some, Option, length, subst, arith}
use Rattle.std.proofs.lemmas.Bool.{and_parts, ltb-true}
use Rattle.brc_words.specs.declared.limits.TheConstants.{MOST_CELLS}
use Rattle.law.proofs.world.Asking.{may_parts, OnCell, on_cell}
use Rattle.law.specs.declared.world.event.Change.{Change}
use Rattle.law.specs.declared.world.event.Step.{Step}
use Rattle.law.specs.declared.world.event.Step.TheVariants.{Close, Nudge, Unlock, Reopen}
use Rattle.law.specs.world.Heap.{Heap, cell_at, entries_at, row_at, frame_at, words_for}
use Rattle.law.specs.world.Steps.{target_at, target_ok, cell_ok, change_ok, locked_entries, thread_may}
use Rattle.brc_state.specs.Effects.{named_word}

-- the thread has a row
pub thread_there : (h : Heap) (t : ℕ) (s : Step) → thread_may h t s ≡ true → t < length h.rows
thread_there h t s may = (may_parts h t s may).inside

-- a thread's cell is there, and is as its step wants it
thread_on_cell : (h : Heap) (t : ℕ) (s : Step) (c : ℕ) → thread_may h t s ≡ true → target_at h t s ≡ Some c
    → OnCell h t s c
thread_on_cell h t s c may is =
    let P : Option ℕ → Type 0 = λ found. target_ok h t (row_at h t) s found ≡ true in
    on_cell h t s c (subst P is (may_parts h t s may).on_target)

pub cell_there : (h : Heap) (t : ℕ) (s : Step) (c : ℕ) → thread_may h t s ≡ true → target_at h t s ≡ Some c
    → c < length h.cells
cell_there h t s c may is = (thread_on_cell h t s c may is).inside

pub thread_cell : (h : Heap) (t : ℕ) (s : Step) (c : ℕ)
    → thread_may h t s ≡ true
    → target_at h t s ≡ Some c
    → cell_ok h.limit t (row_at h t) s c (cell_at h c) ≡ true
thread_cell h t s c may is = (thread_on_cell h t s c may is).fits

-- an unlock's change fits the entries of its cell
pub unlocked_change : (h : Heap) (t : ℕ) (change : Change) (c : ℕ)
    → thread_may h t (Unlock change) ≡ true
    → target_at h t (Unlock change) ≡ Some c
    → change_ok (row_at h t).locked (frame_at h t) (entries_at h c) change ≡ true
unlocked_change h t change c may is =
    let P : Option ℕ → Type 0 = λ found. change_ok (row_at h t).locked (frame_at h t)
    (locked_entries (entries_at h) found) change ≡ true in
    subst P is (may_parts h t (Unlock change) may).own

words_few : (cells k : ℕ) → cells ≤ MOST_CELLS → nat_lt k (words_for cells) ≡ true → k < MOST_CELLS / 32
words_few cells k few within = omega (arith, ltb-true k (words_for cells) within)

-- a queue word that is named is one of the heap's
pub named_word_fits : (h : Heap) (t : ℕ) (s : Step) → thread_may h t s ≡ true → length h.cells ≤ MOST_CELLS
    → named_word s < MOST_CELLS / 32
named_word_fits h t (Close k) may few =
    words_few (length h.cells) k few
    ((and_parts _ _ ((and_parts _ _ ((and_parts _ _ (may_parts h t (Close k) may).own).0)).0)).0)
named_word_fits h t (Reopen k) may few = words_few (length h.cells) k few
    ((and_parts _ _ (may_parts h t (Reopen k) may).own).0)
named_word_fits h t (Nudge u k) may few = words_few (length h.cells) k few
    ((and_parts _ _ (may_parts h t (Nudge u k) may).others).1)
named_word_fits h t _ may few = omega arith
