-- A private cell is its thread's alone: step by step.
use Rattle.std.proofs.Common.{◌≡◌, ◌≢◌, ℕ, Bool, true, false, if◌then◌else◌, Option, Some, None, refl, sym, ◌∙◌, ap}
use Rattle.std.proofs.Common.{inl, inr, arith}
use Rattle.std.proofs.lemmas.Bool.{cases_Bool, and_parts, eqb-true, ltb-true, true≢false}
use Rattle.brc_words.specs.declared.limits.TheConstants.{FIRST_MORTAL}
use Rattle.brc_words.specs.declared.owner.Owner.TheVariants as owners
use Rattle.law.specs.world.Phases.{is_ending}
use Rattle.law.specs.world.Holding.{lives}
use Rattle.law.specs.declared.world.event.Dropped.{Dropped}
use Rattle.law.specs.declared.world.event.Dropped.TheVariants as dropped
use Rattle.law.specs.declared.world.event.LastDropped.TheVariants as lasts
use Rattle.law.specs.declared.world.event.Source.{Source}
use Rattle.law.specs.declared.world.event.Source.TheVariants as sources
use Rattle.law.specs.declared.world.event.Step.{Step}
use Rattle.law.specs.declared.world.event.Step.TheVariants.{Claim, InitLocal, InitShared, Birth, LocalUp, LocalDown}
use Rattle.law.specs.declared.world.event.Step.TheVariants.{SeeZero, Free, Untie, MergeZero, SharedUp, SharedDown, Ask}
use Rattle.law.specs.declared.world.event.Step.TheVariants.{LastDown, Enqueue, Drain, MergeAdd, Close, Nudge, Wake}
use Rattle.law.specs.declared.world.event.Step.TheVariants.{Lock, Unlock, Register, Gather, Offer, Reopen}
use Rattle.law.specs.declared.world.row.Hand.TheVariants as hands
use Rattle.law.specs.declared.world.row.Phase.{Phase}
use Rattle.law.specs.declared.world.row.Phase.TheVariants as phases
use Rattle.law.specs.world.Lists.{place_at, bit_of, is_marked, last_of}
use Rattle.law.specs.world.Heap.{Heap, cell_at, entries_at, row_at, frame_at, popped_at, worklist_at, is_immortal}
use Rattle.law.specs.world.Steps.{target_at, thread_may, locked_cell, entry_of, source_cell, dropped_cell, is_at}
use Rattle.law.specs.world.Sound.{IsSound}
use Rattle.law.proofs.world.Naming.{third, busy_hand, free_owner, thread_owner}
use Rattle.law.proofs.world.Asking.{May, may_parts, on_cell, at_end, shut_out, handed_over, from_queue, untie_way}
use Rattle.law.proofs.world.Dropping.{work_source}
use Rattle.law.proofs.world.Sharing.{ending_hand}
use Rattle.law.specs.private.Private.{Isolated, OwnCell}

-- ---- another's step never means a private cell

module _ (h : Heap) (t u : ℕ) (mine : ℕ → Bool) (sound : IsSound h) (apart : Isolated h t mine) (other : u ≢ t) where
  in_place : (k c : ℕ) → mine c ≡ true → place_at (frame_at h u) k ≡ Some c → ⊥
  in_place k c is named = other (apart.frames u k c is named)

  in_hand : (c : ℕ) (p : Phase) → mine c ≡ true → (row_at h u).hand ≡ hands.Busy p c → ⊥
  in_hand c p is busy = other (apart.hands u c p is busy).0

  at_phase : (d c : ℕ) (p : Phase) → d ≡ c → mine c ≡ true → is_at p d (row_at h u).hand ≡ true → ⊥
  at_phase d c p same is at = in_hand d p (ap mine same ∙ is) (busy_hand p d _ at)

  pub is_locked : (o : Option ℕ) (c : ℕ) → mine c ≡ true → locked_cell (frame_at h u) o ≡ Some c → ⊥
  is_locked None c is named = absurd (cc)
  is_locked (Some k) c is named = in_place k c is named

  as_entry : (o : Option ℕ) (i c : ℕ) → ((d : ℕ) → mine d ≡ true → o ≡ Some d → ⊥) → mine c ≡ true
      → entry_of (entries_at h) o i ≡ Some c → ⊥
  as_entry None i c none is named = absurd (cc)
  as_entry (Some d) i c none is named = none d (apart.entries d i c is named) refl

  immortal_source : (d c : ℕ) (b : Bool) → (if b then Some d else None) ≡ Some c → d ≡ c
  immortal_source d c true named = cc
  immortal_source d c false named = absurd (cc)

  immortal_true : (d c : ℕ) (b : Bool) → (if b then Some d else None) ≡ Some c → b ≡ true
  immortal_true d c true named = refl
  immortal_true d c false named = absurd (cc)

  by_source : (source : Source) (c : ℕ) → mine c ≡ true → source_cell (row_at h u) (frame_at h u) (entries_at h) source
      ≡ Some c → ⊥
  by_source (sources.Frame k) c is named = in_place k c is named
  by_source (sources.Entry i) c is named = as_entry (locked_cell (frame_at h u) (row_at h u).locked) i c
      (λ d there locked. is_locked (row_at h u).locked d there locked) is named
  by_source (sources.Immortal d) c is named =
      omega (
        arith,
        ltb-true d FIRST_MORTAL (immortal_true d c (is_immortal d) named),
        immortal_source d c (is_immortal d) named,
        apart.mortal c is,
      )

  marked_true : (o : Option ℕ) (b : Bool) (c : ℕ) → (if b then o else None) ≡ Some c → b ≡ true
  marked_true o true c named = refl
  marked_true o false c named = absurd (cc)

  by_drop : (drop : Dropped) (c : ℕ) → mine c ≡ true → dropped_cell (frame_at h u) (worklist_at h u) (entries_at h) drop
      ≡ Some c → ⊥
  by_drop (dropped.Frame k) c is named = in_place k c is named
  by_drop (dropped.Work d) c is named =
      let entry = work_source (last_of (entries_at h d)) (is_marked (worklist_at h u) d) c named in
      other (apart.worklists u d (apart.entries d _ c is entry) (marked_true _ (is_marked (worklist_at h u) d) c named))

  is_popped : (d c : ℕ) → d ≡ c → mine c ≡ true → bit_of (popped_at h u) d ≡ 1 → ⊥
  is_popped d c same is on = omega (arith, on, apart.popped u d (ap mine same ∙ is))

  not_meant : (s : Step) (c : ℕ) → May h u s → target_at h u s ≡ Some c → mine c ≡ true → ⊥
  not_meant (Claim d) c may named is =
      let same : d ≡ c = cc in
      let free : (cell_at h d).owner ≡ owners.Free =
      free_owner _ (and_parts _ _ (on_cell h u (Claim d) d may.on_target).fits).1 in
      true≢false (sym (apart.cells d (ap mine same ∙ is)).live ∙ ap lives free)
  not_meant (InitLocal d) c may named is = at_phase d c phases.Claimed (cc) is may.hand
  not_meant (InitShared d) c may named is = at_phase d c phases.Counted (cc) is may.hand
  not_meant (Birth d kind k) c may named is = at_phase d c phases.Ready (cc) is may.hand
  not_meant (LocalUp source k) c may named is = by_source source c is named
  not_meant (LocalDown drop) c may named is = by_drop drop c is named
  not_meant (SeeZero d) c may named is = at_phase d c phases.Zero (cc) is may.hand
  not_meant (Free d) c may named is = let same : d ≡ c = cc in
      other (apart.worklists u d (ap mine same ∙ is) (and_parts _ _ may.own).0)
  not_meant (Untie d) c may named is =
      let same : d ≡ c = cc in
      elim (untie_way h u d sound may) [
        | at_end busy owner ↦ in_hand d phases.Over (ap mine same ∙ is) busy
        | shut_out busy some first ↦ in_hand d phases.Shut (ap mine same ∙ is) busy
        | handed_over busy owner ↦ in_hand d phases.Offered (ap mine same ∙ is) busy
        | from_queue free on owner ↦ is_popped d c same is on
      ]
  not_meant (MergeZero d) c may named is = at_phase d c phases.Untied (cc) is may.hand
  not_meant (SharedUp source k) c may named is = by_source source c is named
  not_meant (SharedDown drop) c may named is = by_drop drop c is named
  not_meant (Ask drop) c may named is = by_drop drop c is named
  not_meant (LastDown (lasts.Dropped drop)) c may named is = by_drop drop c is named
  not_meant (LastDown (lasts.Popped d)) c may named is = is_popped d c (cc) is (eqb-true _ _ may.own)
  not_meant (LastDown lasts.Hand) c may named is =
      let hand : (p : Phase) × ((row_at h u).hand ≡ hands.Busy p c) × (is_ending p ≡ true) =
      ending_hand (row_at h u).hand c may.hand named in
      in_hand c hand.0 is hand.1
  not_meant (Enqueue d) c may named is = at_phase d c phases.Asked (cc) is may.hand
  not_meant (Drain k) c may named is = absurd (cc)
  not_meant (MergeAdd d) c may named is = elim (cases_Bool (is_at phases.Taking d (row_at h u).hand)) [
    | inl taking ↦ at_phase d c phases.Taking (cc) is taking
    | inr off ↦ elim (cases_Bool (is_at phases.Popping d (row_at h u).hand)) [
      | inl popping ↦ at_phase d c phases.Popping (cc) is popping
      | inr apart ↦ at_phase d c phases.Yielding (cc) is (third _ _ _ off apart may.hand)
    ]
  ]
  not_meant (Close k) c may named is = absurd (cc)
  not_meant (Nudge v k) c may named is = absurd (cc)
  not_meant Wake c may named is = absurd (cc)
  not_meant (Lock k) c may named is = in_place k c is named
  not_meant (Unlock change) c may named is = is_locked (row_at h u).locked c is named
  not_meant (Register v) c may named is = absurd (cc)
  not_meant (Gather v) c may named is = absurd (cc)
  not_meant (Offer d) c may named is =
      let same : d ≡ c = cc in
      let own : OwnCell t (cell_at h d) = apart.cells d (ap mine same ∙ is) in
      let owner : (cell_at h d).owner ≡ owners.Thread u =
      thread_owner u _ (on_cell h u (Offer d) d may.on_target).fits in
      other (sym ((sound.cells d (apart.mortal d (ap mine same ∙ is))).owned_by_bearer u owner) ∙ own.bearer)
  not_meant (Reopen k) c may named is = absurd (cc)

pub others_leave : (h : Heap) (t u : ℕ) (mine : ℕ → Bool) (s : Step) (c : ℕ) → IsSound h → Isolated h t mine → u ≢ t
    → thread_may h u s ≡ true → target_at h u s ≡ Some c → mine c ≢ true
others_leave h t u mine s c sound apart other may named is = not_meant h t u mine sound apart other s c
    (may_parts h u s may) named is
