-- Threads of one heap, dealt with one after the other.
use Rattle.std.proofs.Common.{◌≡◌, ◌++◌, List, [], ◌∷◌, map, sym, ◌∙◌, ap, subst, append_assoc}
use Rattle.std.specs.List.{All}
use Rattle.std.proofs.lemmas.List.{map-append}
use Rattle.std.proofs.lemmas.List.Elements.{All-head, All-rest, All-push, All-same}
use Rattle.brc_count.specs.Frames.{FrameSeen}
use Rattle.brc_count.specs.table.Seated.{TableSeen}
use Rattle.brc_loops.specs.declared.threads.Ended.{Ended}

-- one more rests beside the others, for which room was made
pub one_rests : {A : Type 0} (heap : TableSeen) (x : FrameSeen A) (old before after : List (FrameSeen A)) → before ≡ old
    → after ≡ before ++ x ∷ [] → x.heap ≡ heap → All (λ (one : FrameSeen A). one.heap ≡ heap) old
    → All (λ (one : FrameSeen A). one.heap ≡ heap) after
one_rests {A} heap x old before after same more so all =
    subst (All (λ (one : FrameSeen A). one.heap ≡ heap)) (sym more)
    (All-push (λ (one : FrameSeen A). one.heap ≡ heap) before x
    (All-same (λ (one : FrameSeen A). one.heap ≡ heap) before old same all) so)

module _ {A J : Type 0} where
  -- so with a job beside each
  pub one_rests_beside : (heap : TableSeen) (x : FrameSeen A × J) (old before after : List (FrameSeen A × J))
      → before ≡ old → after ≡ before ++ x ∷ [] → x.0.heap ≡ heap
      → All (λ (given : FrameSeen A × J). given.0.heap ≡ heap) old
      → All (λ (given : FrameSeen A × J). given.0.heap ≡ heap) after
  one_rests_beside heap x old before after same more so all =
      subst (All (λ (given : FrameSeen A × J). given.0.heap ≡ heap)) (sym more)
      (All-push (λ (given : FrameSeen A × J). given.0.heap ≡ heap) before x
      (All-same (λ (given : FrameSeen A × J). given.0.heap ≡ heap) before old same all) so)

  -- the job is the last of those that have a thread, and was the first of those that are left
  pub one_job_more : (thread : FrameSeen A) (job : J) (old before after : List (FrameSeen A × J)) (next left all : List J)
      → before ≡ old → after ≡ before ++ (thread, job) ∷ [] → next ≡ job ∷ left
      → map (λ (given : FrameSeen A × J). given.1) old ++ next ≡ all
      → map (λ (given : FrameSeen A × J). given.1) after ++ left ≡ all
  one_job_more thread job old before after next left all same more first so_far =
      ap (λ xs. map (λ (given : FrameSeen A × J). given.1) xs ++ left)
      (more ∙ ap (λ (xs : List (FrameSeen A × J)). xs ++ (thread, job) ∷ []) same)
      ∙ ap (λ xs. xs ++ left) (map-append (λ (given : FrameSeen A × J). given.1) old ((thread, job) ∷ []))
      ∙ append_assoc (map (λ (given : FrameSeen A × J). given.1) old) (job ∷ []) left
      ∙ ap (λ xs. map (λ (given : FrameSeen A × J). given.1) old ++ xs) (sym first) ∙ so_far

module _ {X : Type 0} where
  -- the first of those that are left, and the others
  pub first_ended : (heap : TableSeen) (x : Ended X) (before left : List (Ended X)) → before ≡ x ∷ left
      → All (λ (one : Ended X). one.retired.heap ≡ heap) before → x.retired.heap ≡ heap
  first_ended heap x before left next all =
      All-head (λ (one : Ended X). one.retired.heap ≡ heap) x left
      (subst (All (λ (one : Ended X). one.retired.heap ≡ heap)) next all)

  pub others_ended : (heap : TableSeen) (x : Ended X) (before left : List (Ended X)) → before ≡ x ∷ left
      → All (λ (one : Ended X). one.retired.heap ≡ heap) before
      → All (λ (one : Ended X). one.retired.heap ≡ heap) left
  others_ended heap x before left next all =
      All-rest (λ (one : Ended X). one.retired.heap ≡ heap) x left before next all

module _ {A : Type 0} where
  -- the first of those that rest still, and the others
  pub first_resting : (heap : TableSeen) (x : FrameSeen A) (before left : List (FrameSeen A)) → before ≡ x ∷ left
      → All (λ (one : FrameSeen A). one.heap ≡ heap) before → x.heap ≡ heap
  first_resting heap x before left next all =
      All-head (λ (one : FrameSeen A). one.heap ≡ heap) x left
      (subst (All (λ (one : FrameSeen A). one.heap ≡ heap)) next all)

  pub others_resting : (heap : TableSeen) (x : FrameSeen A) (before left : List (FrameSeen A)) → before ≡ x ∷ left
      → All (λ (one : FrameSeen A). one.heap ≡ heap) before → All (λ (one : FrameSeen A). one.heap ≡ heap) left
  others_resting heap x before left next all =
      All-rest (λ (one : FrameSeen A). one.heap ≡ heap) x left before next all

module _ {A J : Type 0} where
  -- so with a job beside each
  pub first_job : (heap : TableSeen) (x : FrameSeen A × J) (before left : List (FrameSeen A × J)) → before ≡ x ∷ left
      → All (λ (given : FrameSeen A × J). given.0.heap ≡ heap) before → x.0.heap ≡ heap
  first_job heap x before left next all =
      All-head (λ (given : FrameSeen A × J). given.0.heap ≡ heap) x left
      (subst (All (λ (given : FrameSeen A × J). given.0.heap ≡ heap)) next all)

  pub others_jobs : (heap : TableSeen) (x : FrameSeen A × J) (before left : List (FrameSeen A × J)) → before ≡ x ∷ left
      → All (λ (given : FrameSeen A × J). given.0.heap ≡ heap) before
      → All (λ (given : FrameSeen A × J). given.0.heap ≡ heap) left
  others_jobs heap x before left next all =
      All-rest (λ (given : FrameSeen A × J). given.0.heap ≡ heap) x left before next all
