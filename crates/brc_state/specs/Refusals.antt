-- Which condition of an event fails first, of the tests of `law::world`, `specs/world/Steps.antt`, in the order of its
-- table.
use Rattle.std.specs.Prelude.{ℕ, ◌==◌, nat_lt, nat_le, ◌&&◌, not, Bool, true, false, if◌then◌else◌, Option, Some, None}
use Rattle.std.specs.Prelude.{length}
use Rattle.brc_words.specs.declared.limits.TheConstants.{MOST_THREADS}
use Rattle.law.specs.declared.world.event.Event.{Event}
use Rattle.law.specs.declared.world.event.Step.{Step}
use Rattle.law.specs.declared.world.event.Step.TheVariants.{Register, Gather}
use Rattle.law.specs.world.Heap.{Heap, cell_at, row_at, popped_at, worklist_at, is_registered, is_gathered}
use Rattle.law.specs.world.Lists.{is_blank, is_unmarked}
use Rattle.law.specs.world.Steps.{stage_ok, lock_ok, hand_ok, own_ok_at, others_ok, edition_ok, number_ok}
use Rattle.law.specs.world.Steps.{needs_no_cell, cell_ok, target_at, is_left, is_free_hand}
use Rattle.brc_state.specs.declared.refusing.Refusal.{Refusal}
use Rattle.brc_state.specs.declared.refusing.Refusal.TheVariants as refusals

-- this refusal, where the test fails; else the next, if any
abbrev pub unless : Bool → Refusal → Option Refusal → Option Refusal
unless true refusal next = next
unless false refusal next = Some refusal

-- the root's own steps
abbrev pub is_roots : Step → Bool
is_roots (Register u) = true
is_roots (Gather u) = true
is_roots _ = false

-- the cell that the step means: one of the heap, and as it must be
abbrev pub cell_refusal : Heap → ℕ → Step → Option ℕ → Option Refusal
cell_refusal h t s None = unless (needs_no_cell s) refusals.NoCell None
cell_refusal h t s (Some c) =
    unless (nat_lt c (length h.cells)) refusals.NoCell
    (unless (cell_ok h.limit t (row_at h t) s c (cell_at h c)) refusals.Cell None)

-- a thread's step: the general conditions, the own part, whom it tells, the cell
abbrev pub thread_refusal : Heap → ℕ → Step → Option Refusal
thread_refusal h t s =
    unless (not (is_roots s)) refusals.NotItsOwn
    (unless (is_registered h t) refusals.NotRegistered
    (unless (not (is_gathered h t)) refusals.Gathered
    (unless (stage_ok (row_at h t).stage s) refusals.Stage
    (unless (lock_ok (row_at h t).locked s) refusals.Lock
    (unless (hand_ok (row_at h t).hand s) refusals.Hand
    (unless (own_ok_at h t s) refusals.OwnPart
    (unless (others_ok h t s) refusals.Told
    (unless (edition_ok h.edition (row_at h t) s) refusals.Edition
    (cell_refusal h t s (target_at h t s))))))))))

-- the root's step
abbrev pub root_refusal : Heap → Step → Option Refusal
root_refusal h (Register u) = unless (number_ok h.edition h u && nat_le u MOST_THREADS) refusals.NotNext None
root_refusal h (Gather u) =
    unless (is_registered h u) refusals.NotRegistered
    (unless (not (is_gathered h u)) refusals.Gathered
    (unless (is_left (row_at h u).stage) refusals.Stage
    (unless (is_free_hand (row_at h u).hand) refusals.Hand
    (unless (is_blank (popped_at h u) && is_unmarked (worklist_at h u)) refusals.OwnPart None))))
root_refusal h _ = Some refusals.NotItsOwn

-- which condition the event fails first, if any
abbrev pub refusal_of : Heap → Event → Option Refusal
refusal_of h e = if e.thread == 0 then root_refusal h e.step else thread_refusal h e.thread e.step
