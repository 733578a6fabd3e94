-- Of the words after the first a closing thread need not be asked what it owns.
use Rattle.std.proofs.Common.{◌≡◌, ℕ, ◌<◌, ◌==◌, ◌&&◌, true, false, sym, ap, arith}
use Rattle.std.proofs.lemmas.Bool.{and_parts, eqb-true, true≢false}
use Rattle.law.specs.declared.world.event.Step.TheVariants.{Close}
use Rattle.law.specs.declared.world.row.Stage.{Stage}
use Rattle.law.specs.declared.world.row.Stage.TheVariants as stages
use Rattle.law.specs.world.Heap.{Heap, row_at}
use Rattle.law.specs.world.Steps.{closes_next, own_ok_at, others_ok}
use Rattle.brc_state.specs.Closers.{ClosersHaveLeft}

-- whoever closes another word than the first has closed the one before
closed_before : (stage : Stage) (k : ℕ) → closes_next stage k ≡ true → 0 < k → stage ≡ stages.Closing k
closed_before stages.Active k next more = absurd (omega (arith, eqb-true k 0 next, more))
closed_before (stages.Closing n) k next more = ap stages.Closing (sym (eqb-true k n next))
closed_before stages.Left k next more = absurd (true≢false (sym next))
closed_before (stages.Opening n) k next more = absurd (true≢false (sym next))

pub closers_may_close : (h : Heap) (t k : ℕ) → ClosersHaveLeft h → own_ok_at h t (Close k) ≡ true → 0 < k
    → others_ok h t (Close k) ≡ true
closers_may_close h t k closers own more =
    closers.seen_to t k (closed_before (row_at h t).stage k
    (and_parts _ _ (and_parts _ _ (and_parts _ _ own).0).0).1 more)
