-- The hand of an active thread never carries a reference to a private cell: it never asks for one.
use Rattle.std.proofs.Common.{◌≡◌, ℕ, ◌&&◌, not, Bool, true, false, if◌then◌else◌, List, [], Some, refl, sym, ◌∙◌, ap}
use Rattle.std.proofs.Common.{subst, inl, inr, arith}
use Rattle.std.proofs.lemmas.Bool.{cases_Bool, and_parts, not-true, eqb-true, eq-eqb, true≢false}
use Rattle.brc_words.specs.declared.owner.Owner.{Owner}
use Rattle.brc_words.specs.declared.owner.Owner.TheVariants as owners
use Rattle.brc_words.specs.declared.state.State.{State}
use Rattle.brc_words.specs.declared.state.State.TheVariants as states
use Rattle.law.specs.world.Phases.{is_active_phase}
use Rattle.law.specs.world.Holding.{lives}
use Rattle.law.specs.declared.world.cell.Cell.{Cell}
use Rattle.law.specs.declared.world.event.LastDropped.TheVariants as lasts
use Rattle.law.specs.declared.world.event.Step.{Step}
use Rattle.law.specs.declared.world.event.Step.TheVariants.{Claim, InitLocal, InitShared, Birth, LocalDown, SeeZero}
use Rattle.law.specs.declared.world.event.Step.TheVariants.{Untie, MergeZero, Ask, LastDown, Enqueue, MergeAdd, Offer}
use Rattle.law.specs.declared.world.row.Hand.{Hand}
use Rattle.law.specs.declared.world.row.Hand.TheVariants as hands
use Rattle.law.specs.declared.world.row.Phase.{Phase}
use Rattle.law.specs.declared.world.row.Phase.TheVariants as phases
use Rattle.law.specs.world.Lists.{one, is_marked}
use Rattle.law.specs.world.Heap.{Heap, cell_at, row_at, is_immortal, no_row}
use Rattle.law.specs.world.Steps.{target_at, target_ok, thread_may, is_default, is_merged, is_zero, is_mine}
use Rattle.law.specs.world.Steps.{is_owned_by, is_others, is_active, is_at, is_untouched, hand_after, untied_hand}
use Rattle.law.specs.world.Steps.{added_hand}
use Rattle.law.specs.world.Sound.{IsSound, grips, grips_by_owner, grips_of, gripped}
use Rattle.law.proofs.world.Naming.{third, busy_hand, free_hand, default_state}
use Rattle.law.proofs.world.Asking.{May, may_parts, OnCell, on_cell, at_end, shut_out, handed_over, from_queue}
use Rattle.law.proofs.world.Asking.{untie_way}
use Rattle.law.proofs.world.Counting.{sum_none}
use Rattle.law.specs.private.Private.{Isolated, OwnCell, LeavesInHand}

-- ---- whoever grips a private cell is its thread

zero_unless : (b : Bool) → (b ≡ true → ⊥) → one b ≡ 0
zero_unless true never = absurd (never refl)
zero_unless false never = refl

grips_busy : (c : ℕ) (hand : Hand) → grips c hand ≡ true → (p : Phase) × (hand ≡ hands.Busy p c)
grips_busy c hands.Free at = absurd (true≢false (sym at))
grips_busy c (hands.Busy p d) at = (p, ap (hands.Busy p) (eqb-true d c (and_parts _ _ at).1))

nobody_grips : (o : Owner) (s : State) (local : ℕ) (x : Cell) → x.owner ≡ o → x.state ≡ s → o ≡ owners.Nobody
    → s ≡ states.Default → grips_of x ≡ 1
nobody_grips o s local x owner state nobody default =
    ap (λ z. grips_by_owner z x.state x.local x.count) (owner ∙ nobody)
    ∙ ap (λ z. if is_merged z then one (is_zero x.count) else 1) (state ∙ default)

module _ (h : Heap) (t : ℕ) (mine : ℕ → Bool) (sound : IsSound h) (apart : Isolated h t mine) where
  -- a private cell in the default state that nobody owns is in its thread's hand
  ungripped : (c : ℕ) → mine c ≡ true → (row_at h t).hand ≡ hands.Free → (cell_at h c).owner ≡ owners.Nobody
      → (cell_at h c).state ≡ states.Default → gripped h c ≡ 0
  ungripped c is free nobody default =
      let marks = sum_none (λ (ws : List Bool). one (is_marked ws c)) h.worklists []
      (λ u. zero_unless _ (λ marked. elim (sound.worklists u c marked).whose [
        | inl merged ↦ let bad : states.Default ≡ states.Merged = sym default ∙ merged in cc
        | inr owned ↦ let bad : owners.Nobody ≡ owners.Thread u = sym nobody ∙ owned in cc
      ])) in
      let grip = sum_none (λ row. one (grips c row.hand)) h.rows no_row (λ u. zero_unless _ (λ at.
      let busy : (p : Phase) × ((row_at h u).hand ≡ hands.Busy p c) = grips_busy c (row_at h u).hand at in
      let own : u ≡ t = (apart.hands u c busy.0 is busy.1).0 in
      let bad : hands.Free ≡ hands.Busy busy.0 c = sym free ∙ ap (λ i. (row_at h i).hand) (sym own) ∙ busy.1 in cc)) in
      omega (arith, marks, grip)

  -- its thread, while it is active, is the owner of what is private and in the default state
  pub never_others : (c : ℕ) → mine c ≡ true → is_active (row_at h t).stage ≡ true → (row_at h t).hand ≡ hands.Free
      → is_default (cell_at h c).state ≡ true → is_others t (row_at h t).stage c (cell_at h c) ≡ true → ⊥
  never_others c is active free default others = by_owner (cell_at h c).owner refl
    where
      own : OwnCell t (cell_at h c)
      own = apart.cells c is

      not_mine : is_mine t (row_at h t).stage (cell_at h c) ≡ false
      not_mine = not-true (is_mine t (row_at h t).stage (cell_at h c))
          (and_parts (not (is_immortal c)) (not (is_mine t (row_at h t).stage (cell_at h c))) others).1

      by_owner : (o : Owner) → (cell_at h c).owner ≡ o → ⊥
      by_owner owners.Free owner = true≢false (sym own.live ∙ ap lives owner)
      by_owner (owners.Claimed s) owner = true≢false (sym own.live ∙ ap lives owner)
      by_owner (owners.Thread s) owner =
          let same : s ≡ t = sym ((sound.cells c (apart.mortal c is)).owned_by_bearer s owner) ∙ own.bearer in
          true≢false (sym (ap (λ o. is_owned_by t o && is_active (row_at h t).stage) owner
          ∙ ap (λ b. b && is_active (row_at h t).stage) (eq-eqb s t same) ∙ active) ∙ not_mine)
      by_owner owners.Nobody owner =
          let state : (cell_at h c).state ≡ states.Default = default_state _ default in
          omega (
            arith,
            sound.gripped c (apart.mortal c is),
            ungripped c is free owner state,
            nobody_grips owners.Nobody states.Default 0 (cell_at h c) owner state refl refl,
          )

  -- a phase of the hand that isn't one of an active thread's own birth or burial has no private cell
  no_phase : (c : ℕ) (p : Phase) → mine c ≡ true → (row_at h t).hand ≡ hands.Busy p c → is_active_phase p ≡ false → ⊥
  no_phase c p is busy idle = true≢false (sym (apart.hands t c p is busy).1 ∙ idle)

-- ---- what a step leaves in a hand

-- the hand has the step's cell in this phase
left_so : (q p : Phase) (d c : ℕ) → hands.Busy q d ≡ hands.Busy p c → is_active_phase q ≡ true
    → (d ≡ c) × (is_active_phase p ≡ true)
left_so q p d c at active = ((cc), (subst (λ z. is_active_phase z ≡ true) (let same : q ≡ p = cc in same) active))

by_test : (b : Bool) (new hand : Hand) (d c : ℕ) (p q : Phase) → (if b then new else hand) ≡ hands.Busy p c
    → (b ≡ true → new ≡ hands.Busy q d) → is_active_phase q ≡ true → LeavesInHand hand d c p
by_test true new hand d c p q at is active = let e : hands.Busy q d ≡ hands.Busy p c = sym (is refl)
    ∙ at in inr ((cc), (subst (λ z. is_active_phase z ≡ true) (let same : q ≡ p = cc in same) active))
by_test false new hand d c p q at is active = inl at

pub late : (h : Heap) (t : ℕ) (mine : ℕ → Bool) (s : Step) (d : ℕ) → IsSound h → Isolated h t mine
    → is_active (row_at h t).stage ≡ true → thread_may h t s ≡ true → target_at h t s ≡ Some d → mine d ≡ true
    → (p : Phase) (c : ℕ) (shut : Bool) → hand_after s d (cell_at h d) shut (row_at h t).hand ≡ hands.Busy p c
    → LeavesInHand (row_at h t).hand d c p
late h t mine (Ask drop) d sound apart active may named is p c shut at =
    elim (cases_Bool (is_default (cell_at h d).state)) [
      | inl default ↦
          let parts : May h t (Ask drop) = may_parts h t (Ask drop) may in
          let at_cell : OnCell h t (Ask drop) d = on_cell h t (Ask drop) d
          (subst (λ o. target_ok h t (row_at h t) (Ask drop) o ≡ true) named parts.on_target) in
          absurd (never_others h t mine sound apart d is active (free_hand _ parts.hand) default at_cell.fits)
      | inr other ↦ inl (sym (ap (λ b. if b then hands.Busy phases.Asked d else (row_at h t).hand) other) ∙ at)
    ]
late h t mine (Enqueue e) d sound apart active may named is p c shut at =
    let same : e ≡ d = cc in
    absurd (no_phase h t mine sound apart e phases.Asked (ap mine same ∙ is)
    (busy_hand phases.Asked e _ (may_parts h t (Enqueue e) may).hand) refl)
late h t mine (MergeAdd e) d sound apart active may named is p c shut at =
    let same : e ≡ d = cc in
    elim (cases_Bool (is_at phases.Taking e (row_at h t).hand)) [
      | inl taking ↦ absurd (no_phase h t mine sound apart e phases.Taking (ap mine same ∙ is)
          (busy_hand phases.Taking e _ taking) refl)
      | inr off ↦ elim (cases_Bool (is_at phases.Popping e (row_at h t).hand)) [
        | inl popping ↦ absurd (no_phase h t mine sound apart e phases.Popping (ap mine same ∙ is)
            (busy_hand phases.Popping e _ popping) refl)
        | inr other ↦
            let yields : (row_at h t).hand ≡ hands.Busy phases.Yielding e = busy_hand phases.Yielding e _
            (third _ _ _ off other (may_parts h t (MergeAdd e) may).hand) in
            let bad : hands.Free ≡ hands.Busy p c = sym (ap (added_hand d) yields) ∙ at in absurd (cc)
      ]
    ]
late h t mine (Untie e) d sound apart active may named is p c shut at =
    let same : e ≡ d = cc in
    elim (untie_way h t e sound (may_parts h t (Untie e) may)) [
      | at_end busy owner ↦ let e : hands.Busy phases.Untied d ≡ hands.Busy p c = sym (ap (untied_hand d) busy)
          ∙ at in inr ((cc), (subst (λ z. is_active_phase z ≡ true) (let same : phases.Untied ≡ p = cc in same) refl))
      | shut_out busy some first ↦ absurd (no_phase h t mine sound apart e phases.Shut (ap mine same ∙ is) busy refl)
      | handed_over busy owner ↦ inr (left_so phases.Yielding p d c (sym (ap (untied_hand d) busy) ∙ at) refl)
      | from_queue free on owner ↦ absurd (omega (arith, on, apart.popped t e (ap mine same ∙ is)))
    ]
late h t mine (Claim e) d sound apart active may named is p c shut at = let e : hands.Busy phases.Claimed d
    ≡ hands.Busy p c = at in
    inr ((cc), (subst (λ z. is_active_phase z ≡ true) (let same : phases.Claimed ≡ p = cc in same) refl))
late h t mine (InitLocal e) d sound apart active may named is p c shut at = let e : hands.Busy phases.Counted d
    ≡ hands.Busy p c = at in
    inr ((cc), (subst (λ z. is_active_phase z ≡ true) (let same : phases.Counted ≡ p = cc in same) refl))
late h t mine (InitShared e) d sound apart active may named is p c shut at = let e : hands.Busy phases.Ready d
    ≡ hands.Busy p c = at in
    inr ((cc), (subst (λ z. is_active_phase z ≡ true) (let same : phases.Ready ≡ p = cc in same) refl))
late h t mine (Birth e kind k) d sound apart active may named is p c shut at = let bad : hands.Free ≡ hands.Busy p c =
    at in absurd (cc)
late h t mine (MergeZero e) d sound apart active may named is p c shut at = let bad : hands.Free ≡ hands.Busy p c =
    at in absurd (cc)
late h t mine (LastDown lasts.Hand) d sound apart active may named is p c shut at =
    let bad : hands.Free ≡ hands.Busy p c = at in absurd (cc)
late h t mine (LastDown (lasts.Dropped drop)) d sound apart active may named is p c shut at = inl at
late h t mine (LastDown (lasts.Popped e)) d sound apart active may named is p c shut at = inl at
late h t mine (LocalDown drop) d sound apart active may named is p c shut at = by_test _ (hands.Busy phases.Zero d)
    (row_at h t).hand d c p phases.Zero at (λ _. refl) refl
late h t mine (SeeZero e) d sound apart active may named is p c shut at =
    elim (cases_Bool (is_untouched (cell_at h d))) [
      | inl none ↦ let bad : hands.Free ≡ hands.Busy p c =
          sym (ap (λ b. if b then hands.Free else hands.Busy phases.Over d) none) ∙ at in absurd (cc)
      | inr some ↦ let e : hands.Busy phases.Over d ≡ hands.Busy p c =
          sym (ap (λ b. if b then hands.Free else hands.Busy phases.Over d) some)
          ∙ at in inr ((cc), (subst (λ z. is_active_phase z ≡ true) (let same : phases.Over ≡ p = cc in same) refl))
    ]
late h t mine (Offer e) d sound apart active may named is p c shut at = inr (left_so phases.Offered p d c at refl)
late h t mine s d sound apart active may named is p c shut at = inl at
