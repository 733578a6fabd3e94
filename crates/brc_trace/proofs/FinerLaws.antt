-- A finer reason is so, and one is told wherever the condition has several parts.
use Rattle.std.proofs.Common.{◌≡◌, ℕ, ◌==◌, ◌&&◌, Bool, true, false, if◌then◌else◌, Option, Some, None, length}
use Rattle.std.proofs.Common.{is_some, refl, sym, subst}
use Rattle.std.specs.Prelude.{IfSome, IsSomeAnd, nat_lt, nat_le, not}
use Rattle.brc_words.specs.declared.limits.TheConstants.{MOST_THREADS}
use Rattle.std.specs.Option.{option_map}
use Rattle.law.specs.declared.world.event.Event.{Event}
use Rattle.law.specs.declared.world.event.Step.{Step}
use Rattle.law.specs.declared.world.event.Step.TheVariants.{Register, Gather}
use Rattle.law.specs.world.Heap.{Heap, cell_at, row_at, popped_at, worklist_at, is_registered, is_gathered}
use Rattle.law.specs.world.Lists.{is_blank, is_unmarked}
use Rattle.law.specs.world.Steps.{stage_ok, lock_ok, hand_ok, own_ok_at, others_ok, edition_ok, cell_ok, target_at}
use Rattle.law.specs.world.Steps.{is_left, is_free_hand, number_ok, needs_no_cell}
use Rattle.brc_state.specs.declared.refusing.Refusal.{Refusal}
use Rattle.brc_state.specs.declared.refusing.Refusal.TheVariants as refusals
use Rattle.brc_state.specs.Refusals.{unless, is_roots, cell_refusal, thread_refusal, root_refusal, refusal_of}
use Rattle.brc_trace.specs.Standing.{thread_spoken_of, meant_at}
use Rattle.brc_trace.specs.OwnReasons.{IsOwnSo, own_reason, root_reason, own_reason_at}
use Rattle.brc_trace.specs.ToldReasons.{IsToldSo, told_reason}
use Rattle.brc_trace.specs.CellReasons.{IsCellSo, cell_reason, cell_reason_at}
use Rattle.brc_trace.specs.Finer.{IsFinerSo, has_parts, finer_of}
use Rattle.brc_trace.specs.declared.finer.Finer.TheVariants as finer
use Rattle.brc_trace.proofs.OwnLaws.{own_so, own_none, gather_so, gather_none}
use Rattle.brc_trace.proofs.ToldLaws.{told_so, told_none}
use Rattle.brc_trace.proofs.CellLaws.{cell_so, cell_none}
use Rattle.brc_trace.proofs.ReasonLaws.{option_map_so, told_where_failed, true_not_false}

-- ---- what is told is so

spoken_so : (h : Heap) (t : ℕ) (s : Step) → IfSome (own_reason h t s) (IsOwnSo h (thread_spoken_of t s))
spoken_so h t (Register u) = tt
spoken_so h t (Gather u) = tt
spoken_so h t s = own_so h t s

-- of the root's steps the thread that is spoken of is no matter
root_spoken : (h : Heap) (t : ℕ) (s : Step) → IfSome (root_reason h s) (IsOwnSo h (thread_spoken_of t s))
root_spoken h t (Gather u) = gather_so h u
root_spoken h t _ = tt

by_root : (b : Bool) (h : Heap) (t : ℕ) (s : Step)
    → IfSome (if b then root_reason h s else own_reason h t s) (IsOwnSo h (thread_spoken_of t s))
by_root true h t s = root_spoken h t s
by_root false h t s = spoken_so h t s

meant_so : (h : Heap) (t : ℕ) (s : Step) (means : Option ℕ)
    → IfSome (cell_reason_at h t s means)
    (λ reason. IsSomeAnd means (λ c. IsCellSo h.limit t (row_at h t) c (cell_at h c) reason))
meant_so h t s None = tt
meant_so h t s (Some c) = cell_so h.limit t (row_at h t) s c (cell_at h c)

pub finer_so : (h : Heap) (e : Event) (refusal : Refusal) → IfSome (finer_of h e refusal) (IsFinerSo h e)
finer_so h e refusals.OwnPart =
    option_map_so (IsOwnSo h (thread_spoken_of e.thread e.step)) (IsFinerSo h e) finer.Own (own_reason_at h e)
    (λ reason so. so) (by_root (e.thread == 0) h e.thread e.step)
finer_so h e refusals.Told =
    option_map_so (IsToldSo h e.thread) (IsFinerSo h e) finer.Told (told_reason h e.thread e.step)
    (λ reason so. so) (told_so h e.thread e.step)
finer_so h e refusals.Cell =
    option_map_so (λ reason. IsSomeAnd (meant_at h e.thread e.step)
    (λ c. IsCellSo h.limit e.thread (row_at h e.thread) c (cell_at h c) reason)) (IsFinerSo h e) finer.Cell
    (cell_reason_at h e.thread e.step (meant_at h e.thread e.step)) (λ reason so. so)
    (meant_so h e.thread e.step (meant_at h e.thread e.step))
finer_so h e _ = tt

-- ---- one is told

-- a test that isn't the one which fails holds, and the next is looked at
past : (b : Bool) (refusal wanted : Refusal) (next : Option Refusal) → (refusal ≡ wanted → ⊥)
    → unless b refusal next ≡ Some wanted → next ≡ Some wanted
past true refusal wanted next other is = is
past false refusal wanted next other is = absurd (other cc)

held : (b : Bool) (refusal wanted : Refusal) (next : Option Refusal) → (refusal ≡ wanted → ⊥)
    → unless b refusal next ≡ Some wanted → b ≡ true
held true refusal wanted next other is = refl
held false refusal wanted next other is = absurd (other cc)

-- the test that fails
failed : (b : Bool) (wanted : Refusal) (next : Option Refusal) → (next ≡ Some wanted → ⊥)
    → unless b wanted next ≡ Some wanted → b ≡ false
failed true wanted next never is = absurd (never is)
failed false wanted next never is = refl

nothing_is : {A : Type 0} {x : A} → ◌≡◌ {A = Option A} None (Some x) → ⊥
nothing_is is = cc

-- by the cell nothing else is refused than these
by_cell : (h : Heap) (t : ℕ) (s : Step) (means : Option ℕ) (wanted : Refusal) → (refusals.NoCell ≡ wanted → ⊥)
    → (refusals.Cell ≡ wanted → ⊥) → cell_refusal h t s means ≡ Some wanted → ⊥
by_cell h t s None wanted first second is =
    nothing_is (past (needs_no_cell s) refusals.NoCell wanted None first is)
by_cell h t s (Some c) wanted first second is =
    let ok = cell_ok h.limit t (row_at h t) s c (cell_at h c) in
    nothing_is (past ok refusals.Cell wanted None second
    (past (nat_lt c (length h.cells)) refusals.NoCell wanted (unless ok refusals.Cell None) first is))

-- ---- a thread's step, test by test

abbrev from_edition : Heap → ℕ → Step → Option Refusal
from_edition h t s =
    unless (edition_ok h.edition (row_at h t) s) refusals.Edition (cell_refusal h t s (target_at h t s))

abbrev from_told : Heap → ℕ → Step → Option Refusal
from_told h t s = unless (others_ok h t s) refusals.Told (from_edition h t s)

abbrev from_own : Heap → ℕ → Step → Option Refusal
from_own h t s = unless (own_ok_at h t s) refusals.OwnPart (from_told h t s)

abbrev from_hand : Heap → ℕ → Step → Option Refusal
from_hand h t s = unless (hand_ok (row_at h t).hand s) refusals.Hand (from_own h t s)

abbrev from_lock : Heap → ℕ → Step → Option Refusal
from_lock h t s = unless (lock_ok (row_at h t).locked s) refusals.Lock (from_hand h t s)

abbrev from_stage : Heap → ℕ → Step → Option Refusal
from_stage h t s = unless (stage_ok (row_at h t).stage s) refusals.Stage (from_lock h t s)

abbrev from_gathered : Heap → ℕ → Step → Option Refusal
from_gathered h t s = unless (not (is_gathered h t)) refusals.Gathered (from_stage h t s)

abbrev from_registered : Heap → ℕ → Step → Option Refusal
from_registered h t s = unless (is_registered h t) refusals.NotRegistered (from_gathered h t s)

-- the refusals that come before the own part's
record IsLater (wanted : Refusal) : Type 0 where
  not_its_own : refusals.NotItsOwn ≡ wanted → ⊥
  not_next : refusals.NotNext ≡ wanted → ⊥
  not_registered : refusals.NotRegistered ≡ wanted → ⊥
  gathered : refusals.Gathered ≡ wanted → ⊥
  stage : refusals.Stage ≡ wanted → ⊥
  lock : refusals.Lock ≡ wanted → ⊥
  hand : refusals.Hand ≡ wanted → ⊥

own_is_later : IsLater refusals.OwnPart
own_is_later = record {
  not_its_own = λ is. cc;
  not_next = λ is. cc;
  not_registered = λ is. cc;
  gathered = λ is. cc;
  stage = λ is. cc;
  lock = λ is. cc;
  hand = λ is. cc;
}

told_is_later : IsLater refusals.Told
told_is_later = record {
  not_its_own = λ is. cc;
  not_next = λ is. cc;
  not_registered = λ is. cc;
  gathered = λ is. cc;
  stage = λ is. cc;
  lock = λ is. cc;
  hand = λ is. cc;
}

cell_is_later : IsLater refusals.Cell
cell_is_later = record {
  not_its_own = λ is. cc;
  not_next = λ is. cc;
  not_registered = λ is. cc;
  gathered = λ is. cc;
  stage = λ is. cc;
  lock = λ is. cc;
  hand = λ is. cc;
}

to_registered : (h : Heap) (t : ℕ) (s : Step) (wanted : Refusal) → IsLater wanted
    → thread_refusal h t s ≡ Some wanted → from_registered h t s ≡ Some wanted
to_registered h t s wanted later is =
    past (not (is_roots s)) refusals.NotItsOwn wanted (from_registered h t s) later.not_its_own is

to_own : (h : Heap) (t : ℕ) (s : Step) (wanted : Refusal) → IsLater wanted → thread_refusal h t s ≡ Some wanted
    → from_own h t s ≡ Some wanted
to_own h t s wanted later is =
    past (hand_ok (row_at h t).hand s) refusals.Hand wanted (from_own h t s) later.hand
    (past (lock_ok (row_at h t).locked s) refusals.Lock wanted (from_hand h t s) later.lock
    (past (stage_ok (row_at h t).stage s) refusals.Stage wanted (from_lock h t s) later.stage
    (past (not (is_gathered h t)) refusals.Gathered wanted (from_stage h t s) later.gathered
    (past (is_registered h t) refusals.NotRegistered wanted (from_gathered h t s) later.not_registered
    (to_registered h t s wanted later is)))))

own_never_later : (h : Heap) (t : ℕ) (s : Step) → from_told h t s ≡ Some refusals.OwnPart → ⊥
own_never_later h t s is =
    by_cell h t s (target_at h t s) refusals.OwnPart (λ i. cc) (λ i. cc)
    (past (edition_ok h.edition (row_at h t) s) refusals.Edition refusals.OwnPart
    (cell_refusal h t s (target_at h t s)) (λ i. cc)
    (past (others_ok h t s) refusals.Told refusals.OwnPart (from_edition h t s) (λ i. cc) is))

own_failed : (h : Heap) (t : ℕ) (s : Step) → thread_refusal h t s ≡ Some refusals.OwnPart → own_ok_at h t s ≡ false
own_failed h t s is =
    failed (own_ok_at h t s) refusals.OwnPart (from_told h t s) (own_never_later h t s)
    (to_own h t s refusals.OwnPart own_is_later is)

told_never_later : (h : Heap) (t : ℕ) (s : Step) → from_edition h t s ≡ Some refusals.Told → ⊥
told_never_later h t s is =
    by_cell h t s (target_at h t s) refusals.Told (λ i. cc) (λ i. cc)
    (past (edition_ok h.edition (row_at h t) s) refusals.Edition refusals.Told
    (cell_refusal h t s (target_at h t s)) (λ i. cc) is)

told_failed : (h : Heap) (t : ℕ) (s : Step) → thread_refusal h t s ≡ Some refusals.Told → others_ok h t s ≡ false
told_failed h t s is =
    failed (others_ok h t s) refusals.Told (from_edition h t s) (told_never_later h t s)
    (past (own_ok_at h t s) refusals.OwnPart refusals.Told (from_told h t s) (λ i. cc)
    (to_own h t s refusals.Told told_is_later is))

to_cell : (h : Heap) (t : ℕ) (s : Step) → thread_refusal h t s ≡ Some refusals.Cell
    → cell_refusal h t s (target_at h t s) ≡ Some refusals.Cell
to_cell h t s is =
    past (edition_ok h.edition (row_at h t) s) refusals.Edition refusals.Cell (cell_refusal h t s (target_at h t s))
    (λ i. cc)
    (past (others_ok h t s) refusals.Told refusals.Cell (from_edition h t s) (λ i. cc)
    (past (own_ok_at h t s) refusals.OwnPart refusals.Cell (from_told h t s) (λ i. cc)
    (to_own h t s refusals.Cell cell_is_later is)))

cell_told : (h : Heap) (t : ℕ) (s : Step) (means : Option ℕ) → cell_refusal h t s means ≡ Some refusals.Cell
    → is_some (option_map finer.Cell (cell_reason_at h t s means)) ≡ true
cell_told h t s None is =
    absurd (nothing_is (past (needs_no_cell s) refusals.NoCell refusals.Cell None (λ i. cc) is))
cell_told h t s (Some c) is =
    let ok = cell_ok h.limit t (row_at h t) s c (cell_at h c) in
    told_where_failed finer.Cell (cell_reason h.limit t (row_at h t) s c (cell_at h c)) ok
    (cell_none h.limit t (row_at h t) s c (cell_at h c))
    (failed ok refusals.Cell None nothing_is
    (past (nat_lt c (length h.cells)) refusals.NoCell refusals.Cell (unless ok refusals.Cell None) (λ i. cc) is))

meant_is : (b : Bool) (means : Option ℕ) → b ≡ true → means ≡ (if b then means else None)
meant_is true means is = refl
meant_is false means is = true_not_false refl (sym is)

cell_meant_told : (h : Heap) (t : ℕ) (s : Step) → thread_refusal h t s ≡ Some refusals.Cell
    → is_some (option_map finer.Cell (cell_reason_at h t s (meant_at h t s))) ≡ true
cell_meant_told h t s is =
    let registered = held (is_registered h t) refusals.NotRegistered refusals.Cell (from_gathered h t s) (λ i. cc)
    (to_registered h t s refusals.Cell cell_is_later is) in
    subst (λ means. is_some (option_map finer.Cell (cell_reason_at h t s means)) ≡ true)
    (meant_is (is_registered h t) (target_at h t s) registered)
    (cell_told h t s (target_at h t s) (to_cell h t s is))

-- ---- the root's step

root_told : (h : Heap) (s : Step) → root_refusal h s ≡ Some refusals.OwnPart
    → is_some (option_map finer.Own (root_reason h s)) ≡ true
root_told h (Register u) is =
    absurd (nothing_is (past (number_ok h.edition h u && nat_le u MOST_THREADS) refusals.NotNext refusals.OwnPart None
    (λ i. cc) is))
root_told h (Gather u) is =
    let rests = is_blank (popped_at h u) && is_unmarked (worklist_at h u) in
    let last = unless rests refusals.OwnPart None in
    let from_hand_on = unless (is_free_hand (row_at h u).hand) refusals.Hand last in
    let from_stage_on = unless (is_left (row_at h u).stage) refusals.Stage from_hand_on in
    let from_gathered_on = unless (not (is_gathered h u)) refusals.Gathered from_stage_on in
    told_where_failed finer.Own (root_reason h (Gather u)) rests (gather_none h u)
    (failed rests refusals.OwnPart None nothing_is
    (past (is_free_hand (row_at h u).hand) refusals.Hand refusals.OwnPart last (λ i. cc)
    (past (is_left (row_at h u).stage) refusals.Stage refusals.OwnPart from_hand_on (λ i. cc)
    (past (not (is_gathered h u)) refusals.Gathered refusals.OwnPart from_stage_on (λ i. cc)
    (past (is_registered h u) refusals.NotRegistered refusals.OwnPart from_gathered_on (λ i. cc) is)))))
root_told h _ is = cc

-- by the root nothing is refused for whom it tells or for a cell
root_never : (h : Heap) (s : Step) (wanted : Refusal) → IsLater wanted → (refusals.OwnPart ≡ wanted → ⊥)
    → root_refusal h s ≡ Some wanted → ⊥
root_never h (Register u) wanted later other is =
    nothing_is (past (number_ok h.edition h u && nat_le u MOST_THREADS) refusals.NotNext wanted None later.not_next is)
root_never h (Gather u) wanted later other is =
    let rests = is_blank (popped_at h u) && is_unmarked (worklist_at h u) in
    let last = unless rests refusals.OwnPart None in
    let from_hand_on = unless (is_free_hand (row_at h u).hand) refusals.Hand last in
    let from_stage_on = unless (is_left (row_at h u).stage) refusals.Stage from_hand_on in
    let from_gathered_on = unless (not (is_gathered h u)) refusals.Gathered from_stage_on in
    nothing_is
    (past rests refusals.OwnPart wanted None other
    (past (is_free_hand (row_at h u).hand) refusals.Hand wanted last later.hand
    (past (is_left (row_at h u).stage) refusals.Stage wanted from_hand_on later.stage
    (past (not (is_gathered h u)) refusals.Gathered wanted from_stage_on later.gathered
    (past (is_registered h u) refusals.NotRegistered wanted from_gathered_on later.not_registered is)))))
root_never h _ wanted later other is = later.not_its_own cc

-- ---- any event

own_told : (b : Bool) (h : Heap) (t : ℕ) (s : Step)
    → (if b then root_refusal h s else thread_refusal h t s) ≡ Some refusals.OwnPart
    → is_some (option_map finer.Own (if b then root_reason h s else own_reason h t s)) ≡ true
own_told true h t s is = root_told h s is
own_told false h t s is =
    told_where_failed finer.Own (own_reason h t s) (own_ok_at h t s) (own_none h t s) (own_failed h t s is)

others_told : (b : Bool) (h : Heap) (t : ℕ) (s : Step)
    → (if b then root_refusal h s else thread_refusal h t s) ≡ Some refusals.Told
    → is_some (option_map finer.Told (told_reason h t s)) ≡ true
others_told true h t s is = absurd (root_never h s refusals.Told told_is_later (λ i. cc) is)
others_told false h t s is =
    told_where_failed finer.Told (told_reason h t s) (others_ok h t s) (told_none h t s) (told_failed h t s is)

cells_told : (b : Bool) (h : Heap) (t : ℕ) (s : Step)
    → (if b then root_refusal h s else thread_refusal h t s) ≡ Some refusals.Cell
    → is_some (option_map finer.Cell (cell_reason_at h t s (meant_at h t s))) ≡ true
cells_told true h t s is = absurd (root_never h s refusals.Cell cell_is_later (λ i. cc) is)
cells_told false h t s is = cell_meant_told h t s is

pub finer_told : (h : Heap) (e : Event) (refusal : Refusal) → refusal_of h e ≡ Some refusal
    → has_parts refusal ≡ true → is_some (finer_of h e refusal) ≡ true
finer_told h e refusals.OwnPart is parts = own_told (e.thread == 0) h e.thread e.step is
finer_told h e refusals.Told is parts = others_told (e.thread == 0) h e.thread e.step is
finer_told h e refusals.Cell is parts = cells_told (e.thread == 0) h e.thread e.step is
finer_told h e _ is parts = cc
