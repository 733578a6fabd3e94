-- Why `nudge` can't tell whom it tells, and what `close` would leave behind.
use Rattle.std.specs.Prelude.{◌≡◌, ◌≤◌, ℕ, nat_lt, true, false, Option, None, length}
use Rattle.std.specs.Option.{option_map}
use Rattle.law.specs.declared.world.edition.Edition.{Edition}
use Rattle.law.specs.declared.world.edition.Edition.TheVariants as editions
use Rattle.law.specs.declared.world.event.Step.{Step}
use Rattle.law.specs.declared.world.event.Step.TheVariants.{Nudge, Close}
use Rattle.law.specs.world.Lists.{is_marked, is_unmarked}
use Rattle.law.specs.world.Heap.{Heap, cell_at, worklist_at, words_for, is_registered}
use Rattle.law.specs.world.Steps.{is_owned_by}
use Rattle.brc_trace.specs.Lowest.{lowest_at}
use Rattle.brc_trace.specs.OwnReasons.{unless, IsSoOfLowest}
use Rattle.brc_trace.specs.declared.lowest.SoughtThread.TheVariants as sought
use Rattle.brc_trace.specs.declared.told_reasons.ToldReason.{ToldReason}
use Rattle.brc_trace.specs.declared.told_reasons.ToldReason.TheVariants as tolds

-- what a reason says; the thread is the one that makes the step
abbrev pub IsToldSo : Heap → ℕ → ToldReason → Type 0
IsToldSo h t (tolds.NotRegistered u) = is_registered h u ≡ false
IsToldSo h t (tolds.NoWord u k) = words_for (length h.cells) ≤ k
IsToldSo h t (tolds.StillWork c) =
    IsSoOfLowest (λ n. is_marked (worklist_at h t) n ≡ true) (is_unmarked (worklist_at h t) ≡ false) c
IsToldSo h t (tolds.StillOwns c) =
    (is_owned_by t (cell_at h c).owner ≡ true) × (is_marked (worklist_at h t) c ≡ false)

-- a thread that is to be told of a queue word
abbrev pub nudge_reason : Heap → ℕ → ℕ → Option ToldReason
nudge_reason h u k =
    unless (is_registered h u) (tolds.NotRegistered u)
    (unless (nat_lt k (words_for (length h.cells))) (tolds.NoWord u k) None)

-- by the edition, what of its objects a thread that closes hasn't seen to
abbrev pub leave_reason : Edition → Heap → ℕ → Option ToldReason
leave_reason editions.One h t =
    unless (is_unmarked (worklist_at h t)) (tolds.StillWork (lowest_at h t sought.Work)) None
leave_reason editions.Two h t = option_map tolds.StillOwns (lowest_at h t sought.Owned)

abbrev pub told_reason : Heap → ℕ → Step → Option ToldReason
told_reason h t (Nudge u k) = nudge_reason h u k
told_reason h t (Close k) = leave_reason h.edition h t
told_reason h t _ = None
