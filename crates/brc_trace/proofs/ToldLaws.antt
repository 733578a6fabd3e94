-- A reason of `nudge` or `close` is so, and one is told exactly where whom it tells or what it leaves isn't in order.
use Rattle.std.proofs.Common.{◌≡◌, ◌∙◌, ℕ, not, true, false, None, length, is_none, refl}
use Rattle.std.specs.Prelude.{IfSome, nat_lt}
use Rattle.std.proofs.lemmas.Bool.{ltb-false}
use Rattle.law.specs.declared.world.edition.Edition.{Edition}
use Rattle.law.specs.declared.world.edition.Edition.TheVariants as editions
use Rattle.law.specs.declared.world.event.Step.{Step}
use Rattle.law.specs.declared.world.event.Step.TheVariants.{Nudge, Close}
use Rattle.law.specs.world.Lists.{is_marked, is_unmarked}
use Rattle.law.specs.world.Heap.{Heap, cell_at, worklist_at, words_for, is_registered}
use Rattle.law.specs.world.Steps.{is_owned_by, may_leave, others_ok}
use Rattle.brc_trace.specs.Lowest.{lowest_at, is_sought}
use Rattle.brc_trace.specs.OwnReasons.{unless}
use Rattle.brc_trace.specs.ToldReasons.{IsToldSo, leave_reason, told_reason}
use Rattle.brc_trace.specs.declared.lowest.SoughtThread.TheVariants as sought
use Rattle.brc_trace.specs.declared.told_reasons.ToldReason.TheVariants as tolds
use Rattle.brc_trace.proofs.LowestLaws.{found_is_sought, none_owned}
use Rattle.brc_trace.proofs.ReasonLaws.{and_true, not_true, first_true, second_true, is_none-unless, is_none-option_map}
use Rattle.brc_trace.proofs.ReasonLaws.{unless_so, option_map_so, lowest_so}

-- ---- where one is told

leave_none : (edition : Edition) (h : Heap) (t : ℕ)
    → is_none (leave_reason edition h t) ≡ may_leave edition t h.cells (worklist_at h t)
leave_none editions.One h t = simp (is_none-unless, and_true)
leave_none editions.Two h t =
    is_none-option_map tolds.StillOwns (lowest_at h t sought.Owned) ∙ none_owned h t (length h.cells)

pub told_none : (h : Heap) (t : ℕ) (s : Step) → is_none (told_reason h t s) ≡ others_ok h t s
told_none h t (Nudge u k) = simp (is_none-unless, and_true)
told_none h t (Close k) = leave_none h.edition h t
told_none h t _ = refl

-- ---- what is told

work_so : (h : Heap) (t : ℕ) → is_unmarked (worklist_at h t) ≡ false
    → IsToldSo h t (tolds.StillWork (lowest_at h t sought.Work))
work_so h t is =
    lowest_so (λ n. is_marked (worklist_at h t) n ≡ true) (is_unmarked (worklist_at h t) ≡ false)
    (lowest_at h t sought.Work) (found_is_sought h t sought.Work (length h.cells)) is

owned_so : (h : Heap) (t c : ℕ) → is_sought h t sought.Owned c ≡ true → IsToldSo h t (tolds.StillOwns c)
owned_so h t c is =
    let owned = is_owned_by t (cell_at h c).owner in
    let unmarked = not (is_marked (worklist_at h t) c) in
    (first_true owned unmarked is, not_true (is_marked (worklist_at h t) c) (second_true owned unmarked is))

leave_so : (edition : Edition) (h : Heap) (t : ℕ) → IfSome (leave_reason edition h t) (IsToldSo h t)
leave_so editions.One h t =
    unless_so (IsToldSo h t) (is_unmarked (worklist_at h t)) (tolds.StillWork (lowest_at h t sought.Work)) None
    (work_so h t) tt
leave_so editions.Two h t =
    option_map_so (λ c. is_sought h t sought.Owned c ≡ true) (IsToldSo h t) tolds.StillOwns
    (lowest_at h t sought.Owned) (owned_so h t) (found_is_sought h t sought.Owned (length h.cells))

nudge_so : (h : Heap) (t u k : ℕ) → IfSome (told_reason h t (Nudge u k)) (IsToldSo h t)
nudge_so h t u k =
    let second = unless (nat_lt k (words_for (length h.cells))) (tolds.NoWord u k) None in
    unless_so (IsToldSo h t) (is_registered h u) (tolds.NotRegistered u) second (λ is. is)
    (unless_so (IsToldSo h t) (nat_lt k (words_for (length h.cells))) (tolds.NoWord u k) None
    (λ is. ltb-false k (words_for (length h.cells)) is) tt)

pub told_so : (h : Heap) (t : ℕ) (s : Step) → IfSome (told_reason h t s) (IsToldSo h t)
told_so h t (Nudge u k) = nudge_so h t u k
told_so h t (Close k) = leave_so h.edition h t
told_so h t _ = tt
