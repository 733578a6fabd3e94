-- What lasts while others step: a thread's own part, and the words of what it holds, locks, bears or buries.
use Rattle.std.proofs.Common.{◌≡◌, ◌≢◌, ℕ, ◌+◌, ◌<◌, ◌≤◌, ◌==◌, Bool, true, false, if◌then◌else◌, List, [], length}
use Rattle.std.proofs.Common.{slice_get, Option, Some, None, refl, sym, ◌∙◌, ap, subst, inl, inr, ◌⊎◌, arith}
use Rattle.std.proofs.lemmas.Bool.{cases_lt, cases_Bool, eq-eqb, eqb-true, and_parts, true≢false}
use Rattle.brc_words.specs.declared.limits.TheConstants.{FIRST_MORTAL}
use Rattle.brc_words.specs.declared.kind.Kind.{Kind}
use Rattle.brc_words.specs.declared.owner.Owner.{Owner}
use Rattle.brc_words.specs.declared.owner.Owner.TheVariants as owners
use Rattle.brc_words.specs.declared.state.State.{State}
use Rattle.brc_words.specs.declared.state.State.TheVariants as states
use Rattle.law.specs.declared.world.cell.Cell.{Cell}
use Rattle.law.specs.declared.world.event.Event.{Event}
use Rattle.law.specs.declared.world.event.Step.{Step}
use Rattle.law.specs.declared.world.event.Step.TheVariants.{Claim, InitLocal, InitShared, Birth, LocalUp, LocalDown}
use Rattle.law.specs.declared.world.event.Step.TheVariants.{SeeZero, Free, Untie, MergeZero, SharedUp, SharedDown, Ask}
use Rattle.law.specs.declared.world.event.Step.TheVariants.{LastDown, Enqueue, Drain, MergeAdd, Close, Nudge, Wake}
use Rattle.law.specs.declared.world.event.Step.TheVariants.{Lock, Unlock, Register, Gather, Offer, Reopen}
use Rattle.law.specs.declared.world.row.Row.{Row}
use Rattle.law.specs.declared.world.row.Hand.TheVariants as hands
use Rattle.law.specs.declared.world.row.Phase.{Phase}
use Rattle.law.specs.declared.world.row.Phase.TheVariants as phases
use Rattle.law.specs.world.Lists.{one, is_marked, place_at, bit_of}
use Rattle.law.specs.world.Heap.{Heap, cell_at, entries_at, row_at, frame_at, worklist_at, no_row, new_row, is_immortal}
use Rattle.law.specs.world.Heap.{again_row}
use Rattle.law.specs.world.Steps.{enabled, after, after_target, root_after, root_may, thread_may, target_at, cell_after}
use Rattle.law.specs.world.Steps.{locked_cell, is_at, is_default, target_ok, locked_at, is_merged}
use Rattle.law.specs.world.Runs.{IsReached}
use Rattle.law.specs.world.Holding.{carries, lives}
use Rattle.law.specs.world.Sound.{IsSound, HandFits, WorklistFits, Locks, grips, held}
use Rattle.law.specs.lasting.Staying.{is_about, IsAnothers, Lasts, SameOwn, Has, rank, IsBearing, Buries, IsLocking}
use Rattle.law.specs.lasting.Staying.{LivesOn}
use Rattle.law.specs.lasting.Staying.{Foreign, OwnedOrNot, Nobodys}
use Rattle.law.proofs.world.Naming.{free_owner, Ungripped, Unheld, dead_unheld, sole_grip, one-true, busy_hand}
use Rattle.law.proofs.world.Naming.{ungripped, thread_owner}
use Rattle.law.proofs.world.Asking.{May, OnCell, on_cell}
use Rattle.law.proofs.world.Changes.{read_there}
use Rattle.law.proofs.world.Registering.{push_else}
use Rattle.law.proofs.world.Reusing.{fresh, reused, registers}
use Rattle.law.proofs.world.Counting.{marked_unheld}
use Rattle.law.proofs.world.Merging.{hand_grips, carried_held, popped_held, held_owner}
use Rattle.law.proofs.world.Dropping.{held_by_place, held_by_entry}
use Rattle.law.proofs.world.Locking.{lock_place}
use Rattle.law.proofs.lasting.Reasons.{At, grip_of, event_cell, event_entries, step_reason}
use Rattle.law.proofs.world.Reached.{reached_sound}

-- ---- the own part

same_own : (t : ℕ) (h : Heap) → SameOwn t h h
same_own t h = record { row = refl; frame = refl; popped = refl; worklist = refl; gathered = refl }

pub other_number : (u t : ℕ) → (u == t) ≡ false → t ≢ u
other_number u t apart same = true≢false (sym (eq-eqb u t (sym same)) ∙ apart)

root_own : (h : Heap) (s : Step) (t : ℕ) → IsSound h → root_may h s ≡ true → is_about t s ≡ false
    → SameOwn t h (root_after h s)
root_own h (Register u) t sound ok apart = elim (registers h u sound ok) [
  | fresh next most few is ↦
      let other : t ≢ length h.rows = λ same. other_number u t apart (same ∙ sym next) in
      subst (SameOwn t h) (sym is) (record {
        row = push_else h.rows new_row no_row t other;
        frame = push_else h.frames [] [] t (λ e. other (e ∙ sound.shaped.frames));
        popped = push_else h.popped _ [] t (λ e. other (e ∙ sound.shaped.popped));
        worklist = push_else h.worklists _ [] t (λ e. other (e ∙ sound.shaped.worklists));
        gathered = push_else h.gathered false false t (λ e. other (e ∙ sound.shaped.gathered));
      })
  | reused v few is ↦
      let other : t ≢ u = other_number u t apart in
      subst (SameOwn t h) (sym is) (record {
        row = read_there h.rows u t again_row no_row other;
        frame = read_there h.frames u t [] [] other;
        popped = read_there h.popped u t _ [] other;
        worklist = read_there h.worklists u t _ [] other;
        gathered = read_there h.gathered u t false false other;
      })
]
root_own h (Gather u) t sound ok apart = record {
  row = refl;
  frame = refl;
  popped = refl;
  worklist = refl;
  gathered = read_there h.gathered u t true false (other_number u t apart);
}
root_own h _ t sound ok apart = same_own t h

target_own : (h : Heap) (u : ℕ) (s : Step) (o : Option ℕ) (t : ℕ) → t ≢ u → SameOwn t h (after_target h u s o)
target_own h u s None t other = record {
  row = read_there h.rows u t _ no_row other;
  frame = refl;
  popped = read_there h.popped u t _ [] other;
  worklist = refl;
  gathered = refl;
}
target_own h u s (Some c) t other = record {
  row = read_there h.rows u t _ no_row other;
  frame = read_there h.frames u t _ [] other;
  popped = read_there h.popped u t _ [] other;
  worklist = read_there h.worklists u t _ [] other;
  gathered = refl;
}

pub others_own : (h : Heap) (e : Event) (t : ℕ) → IsSound h → enabled h e ≡ true → IsAnothers t e
    → SameOwn t h (after h e)
others_own h e t sound ok others =
    let moved : Heap = after_target h e.thread e.step (target_at h e.thread e.step) in
    elim (cases_Bool (e.thread == 0)) [
      | inl root ↦ subst (λ b. SameOwn t h (if b then root_after h e.step else moved)) (sym root)
          (root_own h e.step t sound
          (subst (λ b. (if b then root_may h e.step else thread_may h e.thread e.step) ≡ true) root ok) others.apart)
      | inr thread ↦ subst (λ b. SameOwn t h (if b then root_after h e.step else moved)) (sym thread)
          (target_own h e.thread e.step (target_at h e.thread e.step) t (λ same. others.other (sym same)))
    ]

-- ---- a cell that one thread grips, and nothing holds

pub alone_stays : (h : Heap) (e : Event) (t c : ℕ) → IsSound h → enabled h e ≡ true → e.thread ≢ t → FIRST_MORTAL ≤ c
    → 1 ≤ one (is_marked (worklist_at h t) c) + one (grips c (row_at h t).hand)
    → held h c ≡ 0 → (cell_at h c).owner ≢ owners.Free
    → (cell_at (after h e) c ≡ cell_at h c) × (entries_at (after h e) c ≡ entries_at h c)
alone_stays h e t c sound ok other mortal grip none owner =
    let alone : Ungripped h c e.thread = sole_grip h c t sound mortal grip e.thread other in
    let no_step : At h e c → ⊥ = λ at. elim (step_reason h e.thread e.step c sound at.may at.named mortal) [
      | inl claim ↦ owner claim.1
      | inr rest ↦ elim rest [
        | inl some ↦ omega (arith, some, none)
        | inr more ↦ elim more [
          | inl his ↦ omega (arith, grip_of h e.thread c his, alone.mark, alone.hand)
          | inr nobody ↦ omega (arith, grip, (ungripped h c nobody t).mark, (ungripped h c nobody t).hand)
        ]
      ]
    ] in (
      elim (event_cell h e c ok) [ inl same ↦ same | inr at ↦ absurd (no_step at.0) ],
      elim (event_entries h e c ok) [
        | inl same ↦ same
        | inr more ↦ elim more [
          | inl birth ↦ absurd (no_step (record { may = birth.3; named = ap (target_at h e.thread) birth.2 }))
          | inr rest ↦ elim rest [
            | inl unlock ↦ absurd (no_step unlock.2)
            | inr marked ↦ absurd (omega (arith, one-true (is_marked (worklist_at h e.thread) c) marked, alone.mark))
          ]
        ]
      ],
    )

-- ---- births and burials

pub bearing : (p : Phase) → (p ≡ phases.Claimed) ⊎ ((p ≡ phases.Counted) ⊎ (p ≡ phases.Ready)) → (h : Heap) (t c : ℕ)
    → IsSound h → (row_at h t).hand ≡ hands.Busy p c
    → (FIRST_MORTAL ≤ c) × ((cell_at h c).owner ≡ owners.Claimed t) × (one (grips c (row_at h t).hand) ≡ 1)
bearing p which h t c sound busy = elim which [
  | inl claimed ↦
      let at : (row_at h t).hand ≡ hands.Busy phases.Claimed c = busy ∙ ap (λ q. hands.Busy q c) claimed in
      let said : HandFits h t phases.Claimed c = sound.hands t c phases.Claimed at in
      (said.mortal, said.fits.claimed, hand_grips h t c phases.Claimed at refl)
  | inr more ↦ elim more [
    | inl counted ↦
        let at : (row_at h t).hand ≡ hands.Busy phases.Counted c = busy ∙ ap (λ q. hands.Busy q c) counted in
        let said : HandFits h t phases.Counted c = sound.hands t c phases.Counted at in
        (said.mortal, said.fits.0.claimed, hand_grips h t c phases.Counted at refl)
    | inr ready ↦
        let at : (row_at h t).hand ≡ hands.Busy phases.Ready c = busy ∙ ap (λ q. hands.Busy q c) ready in
        let said : HandFits h t phases.Ready c = sound.hands t c phases.Ready at in
        (said.mortal, said.fits.0.claimed, hand_grips h t c phases.Ready at refl)
  ]
]

pub births_last : (t c : ℕ) (p : Phase) (x : Cell) → Lasts t (λ h. IsBearing h t c p x)
births_last t c p x h e reached ok others bears =
    let sound : IsSound h = reached_sound h reached in
    let own : SameOwn t h (after h e) = others_own h e t sound ok others in
    let at : (FIRST_MORTAL ≤ c) × ((cell_at h c).owner ≡ owners.Claimed t) × (one (grips c (row_at h t).hand) ≡ 1) =
    bearing p bears.phase h t c sound bears.hand in
    let none : Unheld h c = dead_unheld h c sound at.0 (ap lives at.1) in
    let same = alone_stays h e t c sound ok others.other at.0 (omega (arith, at.2)) none.sum
    (λ free. let bad : owners.Claimed t ≡ owners.Free = sym at.1 ∙ free in cc) in
    record {
      hand = ap (λ (row : Row). row.hand) own.row ∙ bears.hand;
      phase = bears.phase;
      words = same.0 ∙ bears.words;
    }

pub live_owner : (o : Owner) → lives o ≡ true → o ≢ owners.Free
live_owner owners.Nobody live e = cc
live_owner (owners.Thread t) live e = cc
live_owner (owners.Claimed t) live e = true≢false (sym live)
live_owner owners.Free live e = true≢false (sym live)

pub burials_last : (t c : ℕ) (x : Cell) (entries : List ℕ) → Lasts t (λ h. Buries h t c x entries)
burials_last t c x entries h e reached ok others buries =
    let sound : IsSound h = reached_sound h reached in
    let own : SameOwn t h (after h e) = others_own h e t sound ok others in
    let fits : WorklistFits t c (cell_at h c) = sound.worklists t c buries.marked in
    let same = alone_stays h e t c sound ok others.other fits.mortal
    (omega (arith, one-true (is_marked (worklist_at h t) c) buries.marked)) (marked_unheld h t c sound buries.marked)
    (live_owner _ fits.lives) in
    record {
      marked = ap (λ marks. is_marked marks c) own.worklist ∙ buries.marked;
      words = same.0 ∙ buries.words;
      has = same.1 ∙ buries.has;
    }

-- nobody has locked what nothing holds; so a dead block is unlocked
pub unheld_unlocked : (h : Heap) (c : ℕ) → IsSound h → held h c ≡ 0 → (cell_at h c).mutex ≡ 0
unheld_unlocked h c sound none = elim (cases_lt 0 (cell_at h c).mutex) [
  | inr zero ↦ omega (arith, zero)
  | inl some ↦
      let lock : (k : ℕ) × Locks h (cell_at h c).mutex k c = sound.mutexes (cell_at h c).mutex c some refl in
      absurd (omega (arith, none, held_by_place h (cell_at h c).mutex lock.0 c lock.1.names))
]

pub dead_unlocked : (h : Heap) (t c : ℕ) → IsReached h → is_marked (worklist_at h t) c ≡ true → (cell_at h c).mutex ≡ 0
dead_unlocked h t c reached marked = let sound : IsSound h = reached_sound h reached in unheld_unlocked h c sound
    (marked_unheld h t c sound marked)

-- ---- locks

-- only locking and unlocking change a mutex
abbrev pub is_locking : Step → Bool
is_locking (Lock k) = true
is_locking (Unlock change) = true
is_locking _ = false

-- what a step leaves of a live object's cell: kind and bearer; its state only rises; its owner stays or becomes nobody
pub record StepKeeps (s : Step) (x y : Cell) : Type 0 where
  pub kind : y.kind ≡ x.kind
  pub bearer : y.bearer ≡ x.bearer
  pub state : rank x.state ≤ rank y.state
  pub owner : (y.owner ≡ x.owner) ⊎ (y.owner ≡ owners.Nobody)
  pub mutex : is_locking s ≡ false → y.mutex ≡ x.mutex

keeps_all : (s : Step) (x : Cell) → StepKeeps s x x
keeps_all s x = record { kind = refl; bearer = refl; state = omega arith; owner = inl refl; mutex = λ _. refl }

keeps_if : (s : Step) (b : Bool) (x y : Cell) → StepKeeps s x y → StepKeeps s x (if b then x else y)
keeps_if s true x y keeps = keeps_all s x
keeps_if s false x y keeps = keeps

rank_most : (s : State) → rank s ≤ 2
rank_most states.Default = omega arith
rank_most states.Queued = omega arith
rank_most states.Merged = omega arith

unmerged_rank : (s : State) → is_merged s ≡ false → rank s ≤ 1
unmerged_rank states.Default off = omega arith
unmerged_rank states.Queued off = omega arith
unmerged_rank states.Merged off = absurd (true≢false off)

asked_keeps : (s : Step) (b : Bool) (x : Cell) → is_default x.state ≡ b
    → StepKeeps s x (if b then record x { state = states.Queued } else x)
asked_keeps s true x default = record {
  kind = refl;
  bearer = refl;
  state = by_state x.state default;
  owner = inl refl;
  mutex = λ _. refl;
}
  where
    by_state : (z : State) → is_default z ≡ true → rank z ≤ 1
    by_state states.Default d = omega arith
    by_state states.Queued d = absurd (true≢false (sym d))
    by_state states.Merged d = absurd (true≢false (sym d))
asked_keeps s false x other = keeps_all s x

-- the cell isn't one that is being born
pub not_bearing : (h : Heap) (u c d : ℕ) (p : Phase) → IsSound h
    → (p ≡ phases.Claimed) ⊎ ((p ≡ phases.Counted) ⊎ (p ≡ phases.Ready)) → is_at p d (row_at h u).hand ≡ true → d ≡ c
    → lives (cell_at h c).owner ≡ true → ⊥
not_bearing h u c d p sound which at same live =
    let dead : lives (cell_at h d).owner ≡ false = ap lives (bearing p which h u d sound (busy_hand p d _ at)).1 in
    true≢false (sym live ∙ ap (λ i. lives (cell_at h i).owner) (sym same) ∙ dead)

pub live_step : (h : Heap) (u : ℕ) (s : Step) (c : ℕ) → IsSound h → May h u s → target_at h u s ≡ Some c
    → lives (cell_at h c).owner ≡ true → (1 ≤ held h c) ⊎ (c < FIRST_MORTAL)
    → StepKeeps s (cell_at h c) (cell_after u s c (cell_at h c))
live_step h u (Claim d) c sound may named live some =
    let e : d ≡ c = cc in
    let free : (cell_at h d).owner ≡ owners.Free = free_owner (cell_at h d).owner
    (and_parts _ _ (on_cell h u (Claim d) d may.on_target).fits).1 in
    absurd (live_owner _ live (ap (λ i. (cell_at h i).owner) (sym e) ∙ free))
live_step h u (InitLocal d) c sound may named live some =
    absurd (not_bearing h u c d phases.Claimed sound (inl refl) may.hand (cc) live)
live_step h u (InitShared d) c sound may named live some =
    absurd (not_bearing h u c d phases.Counted sound (inr (inl refl)) may.hand (cc) live)
live_step h u (Birth d kind k) c sound may named live some =
    absurd (not_bearing h u c d phases.Ready sound (inr (inr refl)) may.hand (cc) live)
live_step h u (LocalUp source k) c sound may named live some = keeps_if (LocalUp source k) (is_immortal c)
    (cell_at h c) _ (record { kind = refl; bearer = refl; state = omega arith; owner = inl refl; mutex = λ _. refl })
live_step h u (LocalDown drop) c sound may named live some = keeps_if (LocalDown drop) (is_immortal c) (cell_at h c) _
    (record { kind = refl; bearer = refl; state = omega arith; owner = inl refl; mutex = λ _. refl })
live_step h u (SeeZero d) c sound may named live some = keeps_all (SeeZero d) (cell_at h c)
live_step h u (Free d) c sound may named live some =
    let e : d ≡ c = cc in
    let marked : is_marked (worklist_at h u) d ≡ true = (and_parts _ _ may.own).0 in
    let fits : WorklistFits u d (cell_at h d) = sound.worklists u d marked in
    absurd (elim some [
      | inl more ↦ omega (arith, subst (λ i. 1 ≤ held h i) (sym e) more, marked_unheld h u d sound marked)
      | inr low ↦ omega (arith, low, fits.mortal, e)
    ])
live_step h u (Untie d) c sound may named live some = record {
  kind = refl;
  bearer = refl;
  state = omega arith;
  owner = inr refl;
  mutex = λ _. refl;
}
live_step h u (MergeZero d) c sound may named live some =
    record { kind = refl; bearer = refl; state = rank_most (cell_at h c).state; owner = inl refl; mutex = λ _. refl }
live_step h u (SharedUp source k) c sound may named live some =
    record { kind = refl; bearer = refl; state = omega arith; owner = inl refl; mutex = λ _. refl }
live_step h u (SharedDown drop) c sound may named live some = record {
  kind = refl;
  bearer = refl;
  state = omega arith;
  owner = inl refl;
  mutex = λ _. refl;
}
live_step h u (Ask drop) c sound may named live some = asked_keeps (Ask drop) (is_default (cell_at h c).state)
    (cell_at h c) refl
live_step h u (LastDown last) c sound may named live some = record {
  kind = refl;
  bearer = refl;
  state = omega arith;
  owner = inl refl;
  mutex = λ _. refl;
}
live_step h u (Enqueue d) c sound may named live some = keeps_all (Enqueue d) (cell_at h c)
live_step h u (Drain k) c sound may named live some = keeps_all (Drain k) (cell_at h c)
live_step h u (MergeAdd d) c sound may named live some =
    record { kind = refl; bearer = refl; state = rank_most (cell_at h c).state; owner = inl refl; mutex = λ _. refl }
live_step h u (Close k) c sound may named live some = keeps_all (Close k) (cell_at h c)
live_step h u (Reopen k) c sound may named live some = keeps_all (Reopen k) (cell_at h c)
live_step h u (Offer d) c sound may named live some =
    let target : OnCell h u (Offer d) c = on_cell h u (Offer d) c
    (subst (λ o. target_ok h u (row_at h u) (Offer d) o ≡ true) named may.on_target) in
    let owner : (cell_at h c).owner ≡ owners.Thread u = thread_owner u _ target.fits in
    let mortal : FIRST_MORTAL ≤ c = elim (cases_lt c FIRST_MORTAL) [
      | inr high ↦ high
      | inl low ↦ absurd (let bad : owners.Thread u ≡ owners.Nobody = sym owner ∙ (sound.immortals c low).owner in cc)
    ] in
    record {
      kind = refl;
      bearer = refl;
      state = unmerged_rank (cell_at h c).state
          ((sound.cells c mortal).owned_unmerged u owner);
      owner = inl refl;
      mutex = λ _. refl;
    }
live_step h u (Nudge v k) c sound may named live some = keeps_all (Nudge v k) (cell_at h c)
live_step h u Wake c sound may named live some = keeps_all Wake (cell_at h c)
live_step h u (Lock k) c sound may named live some = record {
  kind = refl;
  bearer = refl;
  state = omega arith;
  owner = inl refl;
  mutex = λ off. absurd (true≢false off);
}
live_step h u (Unlock change) c sound may named live some = record {
  kind = refl;
  bearer = refl;
  state = omega arith;
  owner = inl refl;
  mutex = λ off. absurd (true≢false off);
}
live_step h u (Register v) c sound may named live some = keeps_all (Register v) (cell_at h c)
live_step h u (Gather v) c sound may named live some = keeps_all (Gather v) (cell_at h c)

-- what any event leaves of what is held, or immortal
pub record EventKeeps (x y : Cell) : Type 0 where
  pub kind : y.kind ≡ x.kind
  pub bearer : y.bearer ≡ x.bearer
  pub state : rank x.state ≤ rank y.state
  pub owner : (y.owner ≡ x.owner) ⊎ (y.owner ≡ owners.Nobody)

pub event_keeps : (h : Heap) (e : Event) (c : ℕ) → IsSound h → enabled h e ≡ true → lives (cell_at h c).owner ≡ true
    → (1 ≤ held h c) ⊎ (c < FIRST_MORTAL) → EventKeeps (cell_at h c) (cell_at (after h e) c)
event_keeps h e c sound ok live some = elim (event_cell h e c ok) [
  | inl same ↦ subst (λ y. EventKeeps (cell_at h c) y) (sym same)
      (record { kind = refl; bearer = refl; state = omega arith; owner = inl refl })
  | inr at ↦
      let keeps : StepKeeps e.step (cell_at h c) (cell_after e.thread e.step c (cell_at h c)) =
      live_step h e.thread e.step c sound at.0.may at.0.named live some in
      subst (λ y. EventKeeps (cell_at h c) y) (sym at.1)
      (record { kind = keeps.kind; bearer = keeps.bearer; state = keeps.state; owner = keeps.owner })
]

-- ---- a locked object

-- the lock's cell has the thread's number on its mutex, and is held
pub locked_mutex : (h : Heap) (t c : ℕ) → IsSound h → locked_at h t ≡ Some c
    → (0 < t) × ((cell_at h c).mutex ≡ t) × (1 ≤ held h c)
locked_mutex h t c sound named =
    let at : (k : ℕ) × ((row_at h t).locked ≡ Some k) × (place_at (frame_at h t) k ≡ Some c) =
    lock_place h t c (row_at h t).locked named refl in
    let lock : (q : ℕ) × Locks h t at.0 q × ((cell_at h q).mutex ≡ t) = sound.locks t at.0 at.1 in
    let same : lock.0 ≡ c = let e : Some lock.0 ≡ Some c = sym lock.1.names ∙ at.2 in cc in
    (lock.1.thread, ap (λ i. (cell_at h i).mutex) (sym same) ∙ lock.2, held_by_place h t at.0 c at.2)

-- what is held lives, and so do immortals
pub held_live : (h : Heap) (c : ℕ) → IsSound h → 1 ≤ held h c → lives (cell_at h c).owner ≡ true
held_live h c sound some = elim (cases_lt c FIRST_MORTAL) [
  | inl low ↦ ap lives (sound.immortals c low).owner
  | inr mortal ↦ held_owner h c sound mortal some
]

-- no other thread locks it, unlocks it or changes its entries
pub locked_stays : (h : Heap) (e : Event) (t c : ℕ) → IsSound h → enabled h e ≡ true → e.thread ≢ t
    → locked_at h t ≡ Some c
    → ((cell_at (after h e) c).mutex ≡ t) × ((cell_at (after h e) c).kind ≡ (cell_at h c).kind)
    × (entries_at (after h e) c ≡ entries_at h c)
locked_stays h e t c sound ok other named =
    let at : (0 < t) × ((cell_at h c).mutex ≡ t) × (1 ≤ held h c) = locked_mutex h t c sound named in
    let live : lives (cell_at h c).owner ≡ true = held_live h c sound at.2 in
    let no_lock : (s : Step) → At h (record { thread = e.thread; step = s }) c → is_locking s ≡ false =
    λ s his. locking_apart s his in (
      elim (event_cell h e c ok) [
        | inl same ↦ ap (λ (x : Cell). x.mutex) same ∙ at.1
        | inr his ↦ ap (λ (x : Cell). x.mutex) his.1
            ∙ (live_step h e.thread e.step c sound his.0.may his.0.named live (inl at.2)).mutex
            (no_lock e.step (record { may = his.0.may; named = his.0.named })) ∙ at.1
      ],
      (event_keeps h e c sound ok live (inl at.2)).kind,
      elim (event_entries h e c ok) [
        | inl same ↦ same
        | inr more ↦ elim more [
          | inl birth ↦
              let may : May h e.thread (Birth c birth.0 birth.1) = subst (May h e.thread) birth.2 birth.3 in
              absurd (not_bearing h e.thread c c phases.Ready sound (inr (inr refl)) may.hand refl live)
          | inr rest ↦ elim rest [
            | inl unlock ↦
                let named' : target_at h e.thread (Unlock unlock.0) ≡ Some c =
                subst (λ s. target_at h e.thread s ≡ Some c) unlock.1 unlock.2.named in
                absurd (other (sym (locked_mutex h e.thread c sound named').1 ∙ at.1))
            | inr marked ↦ absurd (omega (arith, at.2, marked_unheld h e.thread c sound marked))
          ]
        ]
      ],
    )
  where
    locking_apart : (s : Step) → At h (record { thread = e.thread; step = s }) c → is_locking s ≡ false
    locking_apart (Lock k) his =
        let at : (0 < t) × ((cell_at h c).mutex ≡ t) × (1 ≤ held h c) = locked_mutex h t c sound named in
        let target : OnCell h e.thread (Lock k) c = on_cell h e.thread (Lock k) c
        (subst (λ o. target_ok h e.thread (row_at h e.thread) (Lock k) o ≡ true) his.named his.may.on_target) in
        absurd (omega (arith, at.0, at.1, eqb-true (cell_at h c).mutex 0 target.fits))
    locking_apart (Unlock change) his =
        let at : (0 < t) × ((cell_at h c).mutex ≡ t) × (1 ≤ held h c) = locked_mutex h t c sound named in
        absurd (other (sym (locked_mutex h e.thread c sound his.named).1 ∙ at.1))
    locking_apart _ his = refl

pub locks_last : (t c : ℕ) (kind : Kind) (entries : List ℕ) → Lasts t (λ h. IsLocking h t c kind entries)
locks_last t c kind entries h e reached ok others locked =
    let sound : IsSound h = reached_sound h reached in
    let own : SameOwn t h (after h e) = others_own h e t sound ok others in
    let stays = locked_stays h e t c sound ok others.other locked.cell in
    record {
      thread = λ none. locked.thread (sym (ap (λ (row : Row). row.locked) own.row) ∙ none);
      cell = ap (λ (row : Row). locked_cell (frame_at (after h e) t) row.locked) own.row
          ∙ ap (λ f. locked_cell f (row_at h t).locked) own.frame ∙ locked.cell;
      mutex = stays.0;
      kind_is = stays.1 ∙ locked.kind_is;
      has = stays.2 ∙ locked.has;
    }

-- ---- what a thread has

pub has_held : (h : Heap) (t c : ℕ) → Has h t c → 1 ≤ held h c
has_held h t c has = elim has [
  | inl place ↦ held_by_place h t place.0 c place.1
  | inr more ↦ elim more [
    | inl carried ↦ carried_held h t c (ap one carried)
    | inr rest ↦ elim rest [
      | inl popped ↦ popped_held h t c popped
      | inr entry ↦ held_by_entry h entry.in_cell entry.index c entry.there
    ]
  ]
]

-- it has it still
pub has_lasts : (h : Heap) (e : Event) (t c : ℕ) → IsSound h → enabled h e ≡ true → IsAnothers t e → Has h t c
    → Has (after h e) t c
has_lasts h e t c sound ok others has =
    let own : SameOwn t h (after h e) = others_own h e t sound ok others in
    elim has [
      | inl place ↦ inl (place.0, ap (λ f. place_at f place.0) own.frame ∙ place.1)
      | inr more ↦ elim more [
        | inl carried ↦ inr (inl (ap (λ (row : Row). carries c row.hand) own.row ∙ carried))
        | inr rest ↦ elim rest [
          | inl popped ↦ inr (inr (inl (ap (λ ws. bit_of ws c) own.popped ∙ popped)))
          | inr entry ↦ inr (inr (inr (elim entry.at_hand [
            | inl locked ↦ record {
              in_cell = entry.in_cell;
              at_hand = inl (ap (λ (row : Row). locked_cell (frame_at (after h e) t) row.locked) own.row
                  ∙ ap (λ f. locked_cell f (row_at h t).locked) own.frame ∙ locked);
              index = entry.index;
              there = ap (λ xs. slice_get xs entry.index)
                  (locked_stays h e t entry.in_cell sound ok others.other locked).2 ∙ entry.there;
            }
            | inr marked ↦
                let fits : WorklistFits t entry.in_cell (cell_at h entry.in_cell) =
                sound.worklists t entry.in_cell marked in
                let same = alone_stays h e t entry.in_cell sound ok others.other fits.mortal
                (omega (arith, one-true (is_marked (worklist_at h t) entry.in_cell) marked))
                (marked_unheld h t entry.in_cell sound marked) (live_owner _ fits.lives) in
                record {
                  in_cell = entry.in_cell;
                  at_hand = inr (ap (λ marks. is_marked marks entry.in_cell) own.worklist ∙ marked);
                  index = entry.index;
                  there = ap (λ xs. slice_get xs entry.index) same.1 ∙ entry.there;
                }
          ])))
        ]
      ]
    ]

pub keeping_lasts : (t c : ℕ) (kind : Kind) (bearer least : ℕ) → Lasts t (λ h. LivesOn h t c kind bearer least)
keeping_lasts t c kind bearer least h e reached ok others keeps =
    let sound : IsSound h = reached_sound h reached in
    let stays : EventKeeps (cell_at h c) (cell_at (after h e) c) = event_keeps h e c sound ok keeps.live
    (inl (has_held h t c keeps.held)) in
    record {
      held = has_lasts h e t c sound ok others keeps.held;
      mortal = keeps.mortal;
      live = elim stays.owner [ inl same ↦ ap lives same ∙ keeps.live | inr nobody ↦ ap lives nobody ];
      kind_is = stays.kind ∙ keeps.kind_is;
      same_bearer = stays.bearer ∙ keeps.same_bearer;
      state = omega (arith, keeps.state, stays.state);
    }

owner_stays : (h : Heap) (e : Event) (t c : ℕ) → IsSound h → enabled h e ≡ true → FIRST_MORTAL ≤ c → Has h t c
    → ((cell_at (after h e) c).owner ≡ (cell_at h c).owner) ⊎ ((cell_at (after h e) c).owner ≡ owners.Nobody)
owner_stays h e t c sound ok mortal has = (event_keeps h e c sound ok (held_owner h c sound mortal (has_held h t c has))
    (inl (has_held h t c has))).owner

pub foreign_lasts : (t c : ℕ) → Lasts t (λ h. Foreign h t c)
foreign_lasts t c h e reached ok others foreign =
    let sound : IsSound h = reached_sound h reached in
    record {
      held = has_lasts h e t c sound ok others foreign.held;
      mortal = foreign.mortal;
      owner = λ mine. elim (owner_stays h e t c sound ok foreign.mortal foreign.held) [
        | inl same ↦ foreign.owner (sym same ∙ mine)
        | inr nobody ↦ let bad : owners.Nobody ≡ owners.Thread t = sym nobody ∙ mine in cc
      ];
    }

pub nobodys_last : (t c : ℕ) → Lasts t (λ h. Nobodys h t c)
nobodys_last t c h e reached ok others nobodys =
    let sound : IsSound h = reached_sound h reached in
    record {
      held = has_lasts h e t c sound ok others nobodys.held;
      mortal = nobodys.mortal;
      owner = elim (owner_stays h e t c sound ok nobodys.mortal nobodys.held) [
        | inl same ↦ same ∙ nobodys.owner
        | inr nobody ↦ nobody
      ];
    }

pub owning_lasts : (t c s : ℕ) → Lasts t (λ h. OwnedOrNot h t c s)
owning_lasts t c s h e reached ok others owned =
    let sound : IsSound h = reached_sound h reached in
    record {
      held = has_lasts h e t c sound ok others owned.held;
      mortal = owned.mortal;
      owner = elim (owner_stays h e t c sound ok owned.mortal owned.held) [
        | inl same ↦ elim owned.owner [ inl thread ↦ inl (same ∙ thread) | inr nobody ↦ inr (same ∙ nobody) ]
        | inr nobody ↦ inr nobody
      ];
    }
