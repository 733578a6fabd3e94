-- Which cell an event writes, and why its thread may: the thread holds it, grips it, or claims it.
use Rattle.std.proofs.Common.{◌≡◌, ℕ, ◌+◌, ◌≤◌, ◌==◌, Bool, true, false, if◌then◌else◌, [], get_or, set, Option, Some}
use Rattle.std.proofs.Common.{None, refl, sym, ◌∙◌, ap, subst, inl, inr, ◌⊎◌, arith, nat_lt, length}
use Rattle.std.proofs.lemmas.Bool.{cases_eq, cases_Bool, eqb-true, and_parts, not-true, ne_eqb}
use Rattle.brc_words.specs.declared.limits.TheConstants.{FIRST_MORTAL}
use Rattle.brc_words.specs.declared.kind.Kind.{Kind}
use Rattle.brc_words.specs.declared.owner.Owner.TheVariants as owners
use Rattle.law.specs.world.Phases.{is_ending, is_gripping}
use Rattle.law.specs.declared.world.event.Event.{Event}
use Rattle.law.specs.declared.world.event.Change.{Change}
use Rattle.law.specs.declared.world.event.Dropped.{Dropped}
use Rattle.law.specs.declared.world.event.Dropped.TheVariants as dropped
use Rattle.law.specs.declared.world.event.LastDropped.TheVariants as lasts
use Rattle.law.specs.declared.world.event.Step.{Step}
use Rattle.law.specs.declared.world.event.Step.TheVariants.{Claim, InitLocal, InitShared, Birth, LocalUp, LocalDown}
use Rattle.law.specs.declared.world.event.Step.TheVariants.{SeeZero, Free, Untie, MergeZero, SharedUp, SharedDown, Ask}
use Rattle.law.specs.declared.world.event.Step.TheVariants.{LastDown, Enqueue, Drain, MergeAdd, Close, Nudge, Wake}
use Rattle.law.specs.declared.world.event.Step.TheVariants.{Lock, Unlock, Register, Gather, Offer, Reopen}
use Rattle.law.specs.declared.world.row.Hand.TheVariants as hands
use Rattle.law.specs.declared.world.row.Phase.{Phase}
use Rattle.law.specs.declared.world.row.Phase.TheVariants as phases
use Rattle.law.specs.world.Lists.{one, is_marked}
use Rattle.law.specs.world.Heap.{Heap, cell_at, entries_at, row_at, frame_at, worklist_at, no_cell}
use Rattle.law.specs.world.Steps.{enabled, after, after_target, root_after, thread_may, target_at, target_ok}
use Rattle.law.specs.world.Steps.{cell_after, entries_without, entries_after, root_may, dropped_cell, locked_cell}
use Rattle.law.specs.world.Steps.{is_at, is_default, registered, registered_again}
use Rattle.law.specs.world.Sound.{IsSound, grips, held, gripped, HandFits, Offered, grips_by_owner}
use Rattle.law.proofs.world.Naming.{second, busy_hand, busy_carrier, free_owner, one-true, third, thread_owner}
use Rattle.law.proofs.world.Naming.{free_hand, grips_free}
use Rattle.law.proofs.world.Asking.{May, may_parts, OnCell, on_cell, at_end, shut_out, from_queue, untie_way}
use Rattle.law.proofs.world.Asking.{handed_over}
use Rattle.law.proofs.world.Changes.{read_here, read_there}
use Rattle.law.proofs.world.Merging.{hand_grips, carried_held, popped_held, owner_alone}
use Rattle.law.proofs.world.Sharing.{ending_hand, ending_reference}
use Rattle.law.proofs.world.Dropping.{held_by_place, source_held, dropped_held}

-- the event is a thread's step on this cell
pub record At (h : Heap) (e : Event) (c : ℕ) : Type 0 where
  pub may : May h e.thread e.step
  pub named : target_at h e.thread e.step ≡ Some c

-- ---- the cell that an event writes

root_cells : (h : Heap) (s : Step) (c : ℕ) → cell_at (root_after h s) c ≡ cell_at h c
root_cells h (Register u) c = by_number (nat_lt u (length h.rows))
  where
    by_number : (b : Bool) → cell_at (if b then registered_again h u else registered h) c ≡ cell_at h c
    by_number true = refl
    by_number false = refl
root_cells h (Gather u) c = refl
root_cells h _ c = refl

pub target_cell : (h : Heap) (t : ℕ) (s : Step) (o : Option ℕ) (c : ℕ) → target_ok h t (row_at h t) s o ≡ true
    → (cell_at (after_target h t s o) c ≡ cell_at h c)
    ⊎ ((o ≡ Some c) × (cell_at (after_target h t s o) c ≡ cell_after t s c (cell_at h c)))
target_cell h t s None c ok = inl refl
target_cell h t s (Some d) c ok = elim (cases_eq c d) [
  | inl same ↦ inr (
    ap Some (sym same),
    subst (λ i. get_or (set h.cells d (cell_after t s d (cell_at h d))) i no_cell ≡ cell_after t s i (cell_at h i))
        (sym same)
        (read_here h.cells d (cell_after t s d (cell_at h d)) no_cell (on_cell h t s d ok).inside),
  )
  | inr other ↦ inl (read_there h.cells d c _ no_cell other)
]

-- every cell stays as it is, but for the one that a thread's step means
pub event_cell : (h : Heap) (e : Event) (c : ℕ) → enabled h e ≡ true
    → (cell_at (after h e) c ≡ cell_at h c)
    ⊎ (At h e c × (cell_at (after h e) c ≡ cell_after e.thread e.step c (cell_at h c)))
event_cell h e c ok =
    let moved : Heap = after_target h e.thread e.step (target_at h e.thread e.step) in
    elim (cases_Bool (e.thread == 0)) [
      | inl root ↦ inl (ap (λ b. let w : Heap = if b then root_after h e.step else moved in cell_at w c) root
          ∙ root_cells h e.step c)
      | inr thread ↦
          let is : after h e ≡ moved = ap (λ b. if b then root_after h e.step else moved) thread in
          let may : May h e.thread e.step = may_parts h e.thread e.step
          (subst (λ b. (if b then root_may h e.step else thread_may h e.thread e.step) ≡ true) thread ok) in
          elim (target_cell h e.thread e.step (target_at h e.thread e.step) c may.on_target) [
            | inl same ↦ inl (ap (λ w. cell_at w c) is ∙ same)
            | inr at ↦ inr (record { may = may; named = at.0 }, ap (λ w. cell_at w c) is ∙ at.1)
          ]
    ]

-- ---- why a thread may write a mortal cell

-- the thread grips it, by its worklist or its hand
pub Grips : Heap → ℕ → ℕ → Type 0
Grips h u c = 1 ≤ one (is_marked (worklist_at h u) c) + one (grips c (row_at h u).hand)

pub by_grip : (h : Heap) (u c : ℕ) → 1 ≤ one (is_marked (worklist_at h u) c) + one (grips c (row_at h u).hand)
    → Grips h u c
unfolding Grips
by_grip h u c grip = grip

pub grip_of : (h : Heap) (u c : ℕ) → Grips h u c → 1 ≤ one (is_marked (worklist_at h u) c) + one
    (grips c (row_at h u).hand)
unfolding Grips
grip_of h u c grip = grip

-- claimed, held, gripped, or its own and gripped by nobody
abbrev pub Reason : Heap → ℕ → Step → ℕ → Type 0
Reason h u s c = ((s ≡ Claim c) × ((cell_at h c).owner ≡ owners.Free))
    ⊎ ((1 ≤ held h c) ⊎ (Grips h u c ⊎ (gripped h c ≡ 0)))

hand_reason : (h : Heap) (u c : ℕ) (s : Step) (p : Phase) → is_at p c (row_at h u).hand ≡ true → is_gripping p ≡ true
    → Reason h u s c
hand_reason h u c s p at gripping =
    inr (inr (inl (by_grip h u c (omega (arith, hand_grips h u c p (busy_hand p c _ at) gripping)))))

-- what a hand is about to hand over is gripped by nobody
pub offered_alone : (h : Heap) (u c : ℕ) → IsSound h → (row_at h u).hand ≡ hands.Busy phases.Offered c
    → (cell_at h c).owner ≡ owners.Thread u → gripped h c ≡ 0
offered_alone h u c sound busy owner =
    let said : HandFits h u phases.Offered c = sound.hands u c phases.Offered busy in
    let offer : Offered u (cell_at h c) = said.fits in
    sound.gripped c said.mortal ∙ ap (λ o. grips_by_owner o (cell_at h c).state (cell_at h c).local (cell_at h c).count)
    owner ∙ ap one (ne_eqb (cell_at h c).local 0 (λ e. omega (arith, e, offer.local)))

pub step_reason : (h : Heap) (u : ℕ) (s : Step) (c : ℕ) → IsSound h → May h u s → target_at h u s ≡ Some c
    → FIRST_MORTAL ≤ c → Reason h u s c
step_reason h u (Claim d) c sound may named mortal =
    let e : d ≡ c = cc in
    let at_cell : OnCell h u (Claim d) d = on_cell h u (Claim d) d may.on_target in
    inl (ap Claim e, ap (λ i. (cell_at h i).owner) (sym e) ∙ free_owner _ (and_parts _ _ at_cell.fits).1)
step_reason h u (InitLocal d) c sound may named mortal = let e : d ≡ c = cc in subst (Reason h u (InitLocal d)) e
    (hand_reason h u d (InitLocal d) phases.Claimed may.hand refl)
step_reason h u (InitShared d) c sound may named mortal = let e : d ≡ c = cc in subst (Reason h u (InitShared d)) e
    (hand_reason h u d (InitShared d) phases.Counted may.hand refl)
step_reason h u (Birth d kind k) c sound may named mortal = let e : d ≡ c = cc in subst (Reason h u (Birth d kind k)) e
    (hand_reason h u d (Birth d kind k) phases.Ready may.hand refl)
step_reason h u (LocalUp source k) c sound may named mortal = inr (inl (source_held h u c source named mortal))
step_reason h u (LocalDown drop) c sound may named mortal = inr (inl (dropped_held h u c drop named))
step_reason h u (SeeZero d) c sound may named mortal = let e : d ≡ c = cc in subst (Reason h u (SeeZero d)) e
    (hand_reason h u d (SeeZero d) phases.Zero may.hand refl)
step_reason h u (Free d) c sound may named mortal =
    let e : d ≡ c = cc in
    subst (Reason h u (Free d)) e
    (inr (inr (inl (by_grip h u d
    (omega (arith, one-true (is_marked (worklist_at h u) d) (and_parts _ _ may.own).0))))))
step_reason h u (Untie d) c sound may named mortal =
    let e : d ≡ c = cc in
    subst (Reason h u (Untie d)) e (elim (untie_way h u d sound may) [
      | at_end busy owner ↦ inr (inr (inl (by_grip h u d (omega (arith, hand_grips h u d phases.Over busy refl)))))
      | handed_over busy owner ↦ inr (inr (inr (offered_alone h u d sound busy owner)))
      | shut_out busy some first ↦ inr (inl (carried_held h u d (busy_carrier phases.Shut d _ refl busy)))
      | from_queue free on owner ↦ inr (inl (popped_held h u d on))
    ])
step_reason h u (MergeZero d) c sound may named mortal = let e : d ≡ c = cc in subst (Reason h u (MergeZero d)) e
    (hand_reason h u d (MergeZero d) phases.Untied may.hand refl)
step_reason h u (SharedUp source k) c sound may named mortal = inr (inl (source_held h u c source named mortal))
step_reason h u (SharedDown drop) c sound may named mortal = inr (inl (dropped_held h u c drop named))
step_reason h u (Ask drop) c sound may named mortal = inr (inl (dropped_held h u c drop named))
step_reason h u (LastDown (lasts.Dropped drop)) c sound may named mortal = inr (inl (dropped_held h u c drop named))
step_reason h u (LastDown (lasts.Popped d)) c sound may named mortal =
    let e : d ≡ c = cc in
    inr (inl (subst (λ i. 1 ≤ held h i) e (popped_held h u d (eqb-true _ _ may.own))))
step_reason h u (LastDown lasts.Hand) c sound may named mortal =
    let hand : (p : Phase) × ((row_at h u).hand ≡ hands.Busy p c) × (is_ending p ≡ true) =
    ending_hand (row_at h u).hand c may.hand named in
    inr (inl (carried_held h u c (busy_carrier hand.0 c _ (ending_reference hand.0 hand.2) hand.1)))
step_reason h u (Enqueue d) c sound may named mortal =
    let e : d ≡ c = cc in
    inr (inl (subst (λ i. 1 ≤ held h i) e
    (carried_held h u d (busy_carrier phases.Asked d _ refl (busy_hand phases.Asked d _ may.hand)))))
step_reason h u (Drain k) c sound may named mortal = absurd (cc)
step_reason h u (MergeAdd d) c sound may named mortal =
    let e : d ≡ c = cc in
    subst (Reason h u (MergeAdd d)) e (elim (cases_Bool (is_at phases.Taking d (row_at h u).hand)) [
      | inl taking ↦ hand_reason h u d (MergeAdd d) phases.Taking taking refl
      | inr off ↦ elim (cases_Bool (is_at phases.Popping d (row_at h u).hand)) [
        | inl popping ↦ hand_reason h u d (MergeAdd d) phases.Popping popping refl
        | inr still ↦ hand_reason h u d (MergeAdd d) phases.Yielding (third _ _ _ off still may.hand) refl
      ]
    ])
step_reason h u (Close k) c sound may named mortal = absurd (cc)
step_reason h u (Reopen k) c sound may named mortal = absurd (cc)
step_reason h u (Offer d) c sound may named mortal =
    let e : d ≡ c = cc in
    let at_cell : OnCell h u (Offer d) d = on_cell h u (Offer d) d may.on_target in
    let hand : (row_at h u).hand ≡ hands.Free = free_hand _ may.hand in
    subst (Reason h u (Offer d)) e
    (inr (inr (inr (owner_alone h u d sound (subst (λ i. FIRST_MORTAL ≤ i) (sym e) mortal)
    (thread_owner u _ at_cell.fits) (not-true _ may.own) (grips_free d _ hand)))))
step_reason h u (Nudge v k) c sound may named mortal = absurd (cc)
step_reason h u Wake c sound may named mortal = absurd (cc)
step_reason h u (Lock k) c sound may named mortal = inr (inl (held_by_place h u k c named))
step_reason h u (Unlock change) c sound may named mortal = inr (inl (locked_held h u c (row_at h u).locked named))
  where
    locked_held : (h : Heap) (u c : ℕ) (o : Option ℕ) → locked_cell (frame_at h u) o ≡ Some c → 1 ≤ held h c
    locked_held h u c None named = absurd (cc)
    locked_held h u c (Some k) named = held_by_place h u k c named
step_reason h u (Register v) c sound may named mortal = absurd (cc)
step_reason h u (Gather v) c sound may named mortal = absurd (cc)

-- ---- the entries that an event writes

-- an object is born in the cell, is unlocked, or is a dead block that loses an entry
abbrev pub Meddles : Heap → Event → ℕ → Type 0
Meddles h e c = ((kind : Kind) × (k : ℕ) × (e.step ≡ Birth c kind k) × May h e.thread e.step)
    ⊎ (((change : Change) × (e.step ≡ Unlock change) × At h e c) ⊎ (is_marked (worklist_at h e.thread) c ≡ true))

root_entries : (h : Heap) (s : Step) (c : ℕ) → entries_at (root_after h s) c ≡ entries_at h c
root_entries h (Register u) c = by_number (nat_lt u (length h.rows))
  where
    by_number : (b : Bool) → entries_at (if b then registered_again h u else registered h) c ≡ entries_at h c
    by_number true = refl
    by_number false = refl
root_entries h (Gather u) c = refl
root_entries h _ c = refl

marked_source : (o : Option ℕ) (b : Bool) (c : ℕ) → (if b then o else None) ≡ Some c → b ≡ true
marked_source o true c named = refl
marked_source o false c named = absurd (cc)

-- a release gives up an entry of a dead block of the thread's
drop_entries : (h : Heap) (u c d : ℕ) (o : Option Dropped)
    → ((drop : Dropped) → o ≡ Some drop → dropped_cell (frame_at h u) (worklist_at h u) (entries_at h) drop ≡ Some d)
    → (get_or (entries_without o h.entries) c [] ≡ entries_at h c) ⊎ (is_marked (worklist_at h u) c ≡ true)
drop_entries h u c d None named = inl refl
drop_entries h u c d (Some (dropped.Frame k)) named = inl refl
drop_entries h u c d (Some (dropped.Work b)) named = elim (cases_eq c b) [
  | inl same ↦ inr (ap (λ i. is_marked (worklist_at h u) i) same ∙ marked_source _ (is_marked (worklist_at h u) b) d
      (named (dropped.Work b) refl))
  | inr other ↦ inl (read_there h.entries b c _ [] other)
]

-- what a thread's step means, told of one cell
StepEntries : Heap → ℕ → Step → ℕ → ℕ → Type 0
StepEntries h u s d c = (get_or (entries_after s d (cell_at h d) (frame_at h u) h.entries) c [] ≡ entries_at h c)
    ⊎ (((kind : Kind) × (k : ℕ) × (s ≡ Birth c kind k)) ⊎ (((change : Change) × (s ≡ Unlock change) × (d ≡ c))
    ⊎ (is_marked (worklist_at h u) c ≡ true)))

by_drop : (h : Heap) (u c d : ℕ) (s : Step) (o : Option Dropped)
    → ((drop : Dropped) → o ≡ Some drop → dropped_cell (frame_at h u) (worklist_at h u) (entries_at h) drop ≡ Some d)
    → get_or (entries_after s d (cell_at h d) (frame_at h u) h.entries) c [] ≡ get_or (entries_without o h.entries) c []
    → StepEntries h u s d c
unfolding StepEntries
by_drop h u c d s o named is = elim (drop_entries h u c d o named) [
  | inl same ↦ inl (is ∙ same)
  | inr marked ↦ inr (inr (inr marked))
]

step_entries : (h : Heap) (u : ℕ) (s : Step) (d c : ℕ) → target_at h u s ≡ Some d → StepEntries h u s d c
unfolding StepEntries
step_entries h u (Birth x kind k) d c named = elim (cases_eq c x) [
  | inl same ↦ inr (inl (kind, k, ap (λ i. Birth i kind k) (sym same)))
  | inr other ↦ inl (read_there h.entries x c [] [] other)
]
step_entries h u (LocalDown drop) d c named = by_drop h u c d (LocalDown drop) (Some drop)
    (λ x e. let same : drop ≡ x = cc in
    subst (λ y. dropped_cell (frame_at h u) (worklist_at h u) (entries_at h) y ≡ Some d) same named) refl
step_entries h u (SharedDown drop) d c named = by_drop h u c d (SharedDown drop) (Some drop)
    (λ x e. let same : drop ≡ x = cc in
    subst (λ y. dropped_cell (frame_at h u) (worklist_at h u) (entries_at h) y ≡ Some d) same named) refl
step_entries h u (Ask drop) d c named = asked (is_default (cell_at h d).state) refl
  where
    asked : (b : Bool) → is_default (cell_at h d).state ≡ b → StepEntries h u (Ask drop) d c
    asked true default = by_drop h u c d (Ask drop) (Some drop) (λ x e. let same : drop ≡ x = cc in
        subst (λ y. dropped_cell (frame_at h u) (worklist_at h u) (entries_at h) y ≡ Some d) same named)
        (ap (λ b. get_or (entries_without (if b then Some drop else None) h.entries) c []) default)
    asked false other = by_drop h u c d (Ask drop) None (λ x e. absurd (cc))
        (ap (λ b. get_or (entries_without (if b then Some drop else None) h.entries) c []) other)
step_entries h u (LastDown (lasts.Dropped drop)) d c named = by_drop h u c d (LastDown (lasts.Dropped drop)) (Some drop)
    (λ x e. let same : drop ≡ x = cc in
    subst (λ y. dropped_cell (frame_at h u) (worklist_at h u) (entries_at h) y ≡ Some d) same named) refl
step_entries h u (Unlock change) d c named = elim (cases_eq c d) [
  | inl same ↦ inr (inr (inl (change, refl, sym same)))
  | inr other ↦ inl (read_there h.entries d c _ [] other)
]
step_entries h u _ d c named = inl refl

target_entries : (h : Heap) (u : ℕ) (s : Step) (o : Option ℕ) (c : ℕ) → target_at h u s ≡ o → May h u s
    → (entries_at (after_target h u s o) c ≡ entries_at h c) ⊎ Meddles h (record { thread = u; step = s }) c
unfolding StepEntries
target_entries h u s None c named may = inl refl
target_entries h u s (Some d) c named may = elim (step_entries h u s d c named) [
  | inl same ↦ inl same
  | inr more ↦ inr (elim more [
    | inl birth ↦ inl (birth.0, birth.1, birth.2, may)
    | inr rest ↦ elim rest [
      | inl unlock ↦ inr (inl (unlock.0, unlock.1, record { may = may; named = named ∙ ap Some unlock.2 }))
      | inr marked ↦ inr (inr marked)
    ]
  ])
]

pub event_entries : (h : Heap) (e : Event) (c : ℕ) → enabled h e ≡ true → (entries_at (after h e) c ≡ entries_at h c)
    ⊎ Meddles h e c
event_entries h e c ok =
    let moved : Heap = after_target h e.thread e.step (target_at h e.thread e.step) in
    elim (cases_Bool (e.thread == 0)) [
      | inl root ↦ inl (ap (λ b. let w : Heap = if b then root_after h e.step else moved in entries_at w c) root
          ∙ root_entries h e.step c)
      | inr thread ↦
          let is : after h e ≡ moved = ap (λ b. if b then root_after h e.step else moved) thread in
          let may : May h e.thread e.step = may_parts h e.thread e.step
          (subst (λ b. (if b then root_may h e.step else thread_may h e.thread e.step) ≡ true) thread ok) in
          elim (target_entries h e.thread e.step (target_at h e.thread e.step) c refl may) [
            | inl same ↦ inl (ap (λ w. entries_at w c) is ∙ same)
            | inr more ↦ inr more
          ]
    ]
