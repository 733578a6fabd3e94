-- What a thread has in its hand it can go on with, and what it holds it can give up: the conditions of the steps are
-- met.
use Rattle.std.proofs.Common.{◌≡◌, ◌≢◌, ℕ, ◌<◌, ◌≤◌, ◌==◌, ◌&&◌, ◌||◌, not, Bool, true, false, if◌then◌else◌, List, []}
use Rattle.std.proofs.Common.{zero, suc, length, Option, Some, None, refl, sym, ◌∙◌, ap, subst, inl, inr, ◌⊎◌, arith}
use Rattle.std.proofs.Common.{get_or, count_by, is_some}
use Rattle.std.proofs.lemmas.List.{get_or_past}
use Rattle.std.proofs.lemmas.Bool.{cases_lt, cases_Bool, eq-eqb, eqb-true, ne_eqb, and_parts, ltb-true, lt-ltb}
use Rattle.std.proofs.lemmas.Bool.{true≢false}
use Rattle.brc_words.specs.declared.limits.TheConstants.{FIRST_MORTAL}
use Rattle.brc_words.specs.declared.owner.Owner.{Owner}
use Rattle.brc_words.specs.declared.owner.Owner.TheVariants as owners
use Rattle.brc_words.specs.declared.kind.Kind.{Kind}
use Rattle.brc_words.specs.Kinds.{is_mortal}
use Rattle.law.specs.world.Phases.{is_active_phase}
use Rattle.law.specs.declared.world.cell.Cell.{Cell}
use Rattle.law.specs.declared.world.edition.Edition.{Edition}
use Rattle.law.specs.declared.world.edition.Edition.TheVariants as editions
use Rattle.law.specs.declared.world.event.Step.{Step}
use Rattle.law.specs.declared.world.event.Step.TheVariants.{InitLocal, InitShared, Birth, LocalDown, SeeZero, Free}
use Rattle.law.specs.declared.world.event.Step.TheVariants.{Untie, MergeZero, Ask, LastDown, Enqueue, MergeAdd, Unlock}
use Rattle.law.specs.declared.world.event.Step.TheVariants.{Close, Reopen, Offer, Gather}
use Rattle.law.specs.declared.world.event.Dropped.{Dropped}
use Rattle.law.specs.declared.world.event.Dropped.TheVariants as dropped
use Rattle.law.specs.declared.world.event.LastDropped.TheVariants as lasts
use Rattle.law.specs.declared.world.row.Row.{Row}
use Rattle.law.specs.declared.world.row.Hand.{Hand}
use Rattle.law.specs.declared.world.row.Hand.TheVariants as hands
use Rattle.law.specs.declared.world.row.Phase.{Phase}
use Rattle.law.specs.declared.world.row.Phase.TheVariants as phases
use Rattle.law.specs.declared.world.row.Stage.{Stage}
use Rattle.law.specs.declared.world.row.Stage.TheVariants as stages
use Rattle.law.specs.world.Lists.{is_marked, bit_of, is_bare, is_unmarked, place_at, word_at, is_blank}
use Rattle.law.specs.world.Heap.{Heap, cell_at, entries_at, row_at, frame_at, popped_at, worklist_at, no_cell}
use Rattle.law.specs.world.Heap.{is_immortal, words_for}
use Rattle.law.specs.world.Steps.{enabled, root_may, thread_may, stage_ok, lock_ok, hand_ok, own_ok_at, others_ok}
use Rattle.law.specs.world.Steps.{target_at, target_ok, cell_ok, dropped_cell, may_after_leaving, needs_lock, is_at}
use Rattle.law.specs.world.Steps.{is_active, is_vacant, is_mine, is_default, is_merged, is_nobody, is_queued}
use Rattle.law.specs.world.Steps.{is_owned_by, cell_in_hand, untie_ok, untied_ok, ends_ok, is_free_hand, closes_next}
use Rattle.law.specs.world.Steps.{opens_next, is_left, locked_cell, edition_ok, may_leave, owned_are_marked}
use Rattle.law.specs.world.Steps.{is_shut_hand}
use Rattle.law.specs.world.Runs.{IsReached}
use Rattle.law.specs.world.Sound.{IsSound, ShutFits, held, gripped, rests}
use Rattle.law.specs.lasting.Staying.{PhaseTells, PoppedTells}
use Rattle.law.specs.lasting.Progress.{IsPresent, IsAtRest, next_step, release_step, popped_step}
use Rattle.law.proofs.world.Naming.{busy_carrier, no_mark}
use Rattle.law.proofs.world.Merging.{active_now, held_owner, popped_held, carried_held, idle_apart, owner_alone}
use Rattle.law.proofs.world.Counting.{sum_none, local_positive, held_unmarked}
use Rattle.law.proofs.world.Dropping.{dropped_held}
use Rattle.law.proofs.lasting.Lasting.{held_live, live_owner}
use Rattle.law.proofs.lasting.Telling.{hand_tells, popped_tells}
use Rattle.law.proofs.lasting.Adding_Hands.{never_takes, pops_active}
use Rattle.law.proofs.world.Reached.{reached_sound}
use Rattle.law.proofs.world.Leaving.{owned_mortal, left_marked, none_counted, closing_leaves}
pub use Rattle.law.proofs.world.Leaving.{none_marked}
use Rattle.law.specs.declared.world.event.Change.TheVariants as changes

-- ---- tests put together

and_both : (a b : Bool) → a ≡ true → b ≡ true → (a && b) ≡ true
and_both true b x y = y
and_both false b x y = absurd (true≢false (sym x))

-- a cell that isn't free is one of the heap
pub inside : (h : Heap) (c : ℕ) → (cell_at h c).owner ≢ owners.Free → c < length h.cells
inside h c taken = elim (cases_lt c (length h.cells)) [
  | inl low ↦ low
  | inr past ↦ absurd (taken (ap (λ (x : Cell). x.owner) (get_or_past h.cells c no_cell past)))
]

-- a thread that isn't closing may make a step that runs on after leaving, and any step while it is active
stage_fits : (stage : Stage) (s : Step) → ((n : ℕ) → stage ≢ stages.Closing n) → ((n : ℕ) → stage ≢ stages.Opening n)
    → (is_active stage ≡ true) ⊎ (may_after_leaving s ≡ true) → stage_ok stage s ≡ true
stage_fits stages.Active s apart opened ok = refl
stage_fits (stages.Closing n) s apart opened ok = absurd (apart n refl)
stage_fits (stages.Opening n) s apart opened ok = absurd (opened n refl)
stage_fits stages.Left s apart opened ok = elim ok [ inl active ↦ absurd (true≢false (sym active)) | inr may ↦ may ]

-- what a thread's step on a cell asks, one test a field
record Asks (h : Heap) (t : ℕ) (s : Step) (c : ℕ) : Type 0 where
  stands : IsPresent h t
  unlocked : (row_at h t).locked ≡ None
  not_closing : (n : ℕ) → (row_at h t).stage ≢ stages.Closing n
  not_opening : (n : ℕ) → (row_at h t).stage ≢ stages.Opening n
  stage : (is_active (row_at h t).stage ≡ true) ⊎ (may_after_leaving s ≡ true)
  no_lock : needs_lock s ≡ false
  hand : hand_ok (row_at h t).hand s ≡ true
  own : own_ok_at h t s ≡ true
  others : others_ok h t s ≡ true
  edition : edition_ok h.edition (row_at h t) s ≡ true
  named : target_at h t s ≡ Some c
  taken : (cell_at h c).owner ≢ owners.Free
  cell : cell_ok h.limit t (row_at h t) s c (cell_at h c) ≡ true

is_enabled : (h : Heap) (t : ℕ) (s : Step) (c : ℕ) → Asks h t s c → enabled h (record { thread = t; step = s }) ≡ true
is_enabled h t s c asks =
    let number = and_parts _ _ asks.stands.registered in
    let low : 0 < t = ltb-true 0 t number.0 in
    let thread : (t == 0) ≡ false = ne_eqb t 0 (λ e. omega (arith, low, e)) in
    let lock : lock_ok (row_at h t).locked s ≡ true = ap (λ o. lock_ok o s) asks.unlocked ∙ ap not asks.no_lock in
    let target : target_ok h t (row_at h t) s (target_at h t s) ≡ true =
    ap (target_ok h t (row_at h t) s) asks.named ∙ and_both _ _ (lt-ltb c (length h.cells) (inside h c asks.taken))
    asks.cell in
    ap (λ b. if b then root_may h s else thread_may h t s) thread
    ∙ and_both _ _ (and_both _ _
    (and_both _ _ (and_both _ _
    (and_both _ _ (and_both _ _ (and_both _ _ (and_both _ _ asks.stands.registered (ap not asks.stands.here))
    (stage_fits (row_at h t).stage s asks.not_closing asks.not_opening asks.stage)) lock) asks.hand) asks.own)
    asks.others) asks.edition) target

-- ---- a hand goes on

-- a busy hand is no closing thread's, and its thread has no lock
busy_thread : (h : Heap) (t c : ℕ) (p : Phase) → IsSound h → (row_at h t).hand ≡ hands.Busy p c
    → ((n : ℕ) → (row_at h t).stage ≢ stages.Closing n) × ((row_at h t).locked ≡ None)
    × ((n : ℕ) → (row_at h t).stage ≢ stages.Opening n)
busy_thread h t c p sound busy = (
  λ n closing. let bad : hands.Free ≡ hands.Busy p c = sym ((sound.threads t).closing n closing).2 ∙ busy in cc,
  unlocked (row_at h t).locked refl,
  λ n opening. let bad : hands.Free ≡ hands.Busy p c = sym ((sound.threads t).opening n opening).1 ∙ busy in cc,
)
  where
    unlocked : (o : Option ℕ) → (row_at h t).locked ≡ o → o ≡ None
    unlocked None is = refl
    unlocked (Some k) is = absurd (let bad : hands.Free ≡ hands.Busy p c = sym ((sound.threads t).locked_hand k is)
        ∙ busy in cc)

at_phase : (p : Phase) (c : ℕ) (hand : Hand) → hand ≡ hands.Busy p c → is_at p c hand ≡ true
at_phase p c hand busy = ap (is_at p c) busy ∙ and_both _ _ (eq-eqb _ _ refl) (eq-eqb c c refl)

-- whoever is named by a hand isn't free
hand_taken : (h : Heap) (t c : ℕ) (p : Phase) → IsReached h → (row_at h t).hand ≡ hands.Busy p c
    → (cell_at h c).owner ≢ owners.Free
hand_taken h t c p reached busy = by_phase p busy (hand_tells h t c p reached busy).1
  where
    live : FIRST_MORTAL ≤ c → 1 ≤ held h c → (cell_at h c).owner ≢ owners.Free
    live mortal some = live_owner _ (held_owner h c (reached_sound h reached) mortal some)

    by_phase : (q : Phase) → (row_at h t).hand ≡ hands.Busy q c → PhaseTells t q (cell_at h c)
        → (cell_at h c).owner ≢ owners.Free
    by_phase phases.Claimed at tells free = let bad : owners.Claimed t ≡ owners.Free = sym tells ∙ free in cc
    by_phase phases.Counted at tells free = let bad : owners.Claimed t ≡ owners.Free = sym tells.0 ∙ free in cc
    by_phase phases.Ready at tells free = let bad : owners.Claimed t ≡ owners.Free = sym tells.0 ∙ free in cc
    by_phase phases.Zero at tells free = let bad : owners.Thread t ≡ owners.Free = sym tells.0 ∙ free in cc
    by_phase phases.Over at tells free = let bad : owners.Thread t ≡ owners.Free = sym tells.0 ∙ free in cc
    by_phase phases.Untied at tells free = let bad : owners.Nobody ≡ owners.Free = sym tells.0 ∙ free in cc
    by_phase phases.Asked at tells free = live (hand_tells h t c phases.Asked reached at).0
        (carried_held h t c (busy_carrier phases.Asked c _ refl at)) free
    by_phase phases.Shut at tells free = live (hand_tells h t c phases.Shut reached at).0
        (carried_held h t c (busy_carrier phases.Shut c _ refl at)) free
    by_phase phases.Taking at tells free = let bad : owners.Nobody ≡ owners.Free = sym tells.0 ∙ free in cc
    by_phase phases.Held at tells free = let bad : owners.Nobody ≡ owners.Free = sym tells.0 ∙ free in cc
    by_phase phases.Offered at tells free = let bad : owners.Thread t ≡ owners.Free = sym tells.0 ∙ free in cc
    by_phase phases.Yielding at tells free = let bad : owners.Nobody ≡ owners.Free = sym tells.0 ∙ free in cc
    by_phase phases.Popping at tells free = let bad : owners.Nobody ≡ owners.Free = sym tells.0 ∙ free in cc

-- what is common to all phases
goes_on : (h : Heap) (t c : ℕ) (p : Phase) (s : Step) → IsReached h → IsPresent h t → (row_at h t).hand ≡ hands.Busy p c
    → (is_active_phase p ≡ true) ⊎ (may_after_leaving s ≡ true) → needs_lock s ≡ false
    → edition_ok h.edition (row_at h t) s ≡ true
    → hand_ok (hands.Busy p c) s ≡ true → own_ok_at h t s ≡ true → others_ok h t s ≡ true → target_at h t s ≡ Some c
    → cell_ok h.limit t (row_at h t) s c (cell_at h c) ≡ true
    → enabled h (record { thread = t; step = s }) ≡ true
goes_on h t c p s reached stands busy stage plain edition hand own others named cell =
    let sound : IsSound h = reached_sound h reached in
    let thread = busy_thread h t c p sound busy in
    is_enabled h t s c (record {
      stands = stands;
      unlocked = thread.1;
      not_closing = thread.0;
      not_opening = thread.2;
      edition = edition;
      stage = elim stage [ inl active ↦ inl (active_now h t c p sound busy active) | inr may ↦ inr may ];
      no_lock = plain;
      hand = ap (λ g. hand_ok g s) busy ∙ hand;
      own = own;
      others = others;
      named = named;
      taken = hand_taken h t c p reached busy;
      cell = cell;
    })

here : (c : ℕ) → (c == c) ≡ true
here c = eq-eqb c c refl

-- a step that both editions have
in_both : (e : Edition) (row : Row) (s : Step) → edition_ok editions.One row s ≡ true
    → edition_ok editions.Two row s ≡ true → edition_ok e row s ≡ true
in_both editions.One row s one two = one
in_both editions.Two row s one two = two

-- an active thread may untie, but for what came late to a closed word
unties_in : (e : Edition) (row : Row) (c : ℕ)
    → (e ≡ editions.Two → (is_active row.stage ≡ true) × (is_shut_hand row.hand ≡ false))
    → edition_ok e row (Untie c) ≡ true
unties_in editions.One row c fits = refl
unties_in editions.Two row c fits = let both = fits refl in and_both _ _ both.0 (ap not both.1)

adds_in : (e : Edition) (row : Row) (c : ℕ) → (e ≡ editions.Two → is_active row.stage ≡ true)
    → edition_ok e row (MergeAdd c) ≡ true
adds_in editions.One row c fits = refl
adds_in editions.Two row c fits = fits refl

-- an untying hand passes the test on popped entries, and one of the other two as well
untie_hand : (b : Bool) → b ≡ true → (b || false || false || false) ≡ true
untie_hand true e = refl
untie_hand false e = absurd (true≢false (sym e))

-- what came late to a closed word is nobody's in the second edition
shut_nobodys : (e : Edition) (h : Heap) (t c : ℕ) → e ≡ editions.Two
    → ShutFits e (cell_at h c) (row_at h (cell_at h c).bearer).stage c → is_nobody (cell_at h c).owner ≡ true
shut_nobodys editions.One h t c is fits = absurd (cc)
shut_nobodys editions.Two h t c is fits = ap is_nobody fits

-- the next step of a hand is enabled; a ready object may be born in any vacant place
pub hands_go_on : (h : Heap) (t c : ℕ) (p : Phase) → IsReached h → IsPresent h t → (row_at h t).hand ≡ hands.Busy p c
    → p ≢ phases.Ready
    → enabled h (record { thread = t; step = next_step p c (cell_at h c) }) ≡ true
hands_go_on h t c phases.Claimed reached stands busy other = goes_on h t c phases.Claimed (InitLocal c) reached stands
    busy (inl refl) refl (in_both h.edition (row_at h t) (InitLocal c) refl refl) (here c) refl refl refl refl
hands_go_on h t c phases.Counted reached stands busy other = goes_on h t c phases.Counted (InitShared c) reached stands
    busy (inl refl) refl (in_both h.edition (row_at h t) (InitShared c) refl refl) (here c) refl refl refl refl
hands_go_on h t c phases.Ready reached stands busy other = absurd (other refl)
hands_go_on h t c phases.Zero reached stands busy other = goes_on h t c phases.Zero (SeeZero c) reached stands busy
    (inl refl) refl (in_both h.edition (row_at h t) (SeeZero c) refl refl) (here c) refl refl refl refl
hands_go_on h t c phases.Over reached stands busy other =
    goes_on h t c phases.Over (Untie c) reached stands busy (inl refl) refl
    (unties_in h.edition (row_at h t) c
    (λ _. (active_now h t c phases.Over (reached_sound h reached) busy refl, ap is_shut_hand busy)))
    (untie_hand (c == c) (here c)) (ap (λ g. untie_ok g (popped_at h t) c) busy) refl refl
    (ap (λ g. untied_ok t g (cell_at h c)) busy)
hands_go_on h t c phases.Untied reached stands busy other = goes_on h t c phases.Untied (MergeZero c) reached stands
    busy (inl refl) refl (in_both h.edition (row_at h t) (MergeZero c) refl refl) (here c) refl refl refl refl
hands_go_on h t c phases.Asked reached stands busy other = goes_on h t c phases.Asked (Enqueue c) reached stands busy
    (inr refl) refl (in_both h.edition (row_at h t) (Enqueue c) refl refl) (here c) refl refl refl refl
hands_go_on h t c phases.Shut reached stands busy other =
    let tells : PhaseTells t phases.Shut (cell_at h c) = (hand_tells h t c phases.Shut reached busy).1 in
    elim tells [
      | inl nobodys ↦ subst (λ b. enabled h (record { thread = t; step = if b then LastDown lasts.Hand else Untie c })
          ≡ true) (sym (ap is_nobody nobodys.0))
          (goes_on h t c phases.Shut (LastDown lasts.Hand) reached stands busy (inr refl) refl
          (in_both h.edition (row_at h t) (LastDown lasts.Hand) refl refl) refl refl refl (ap cell_in_hand busy)
          (and_both _ _ (ap not nobodys.1) (ap (λ g. ends_ok g (cell_at h c)) busy ∙ ap is_nobody nobodys.0)))
      | inr owned ↦ subst (λ b. enabled h (record { thread = t; step = if b then LastDown lasts.Hand else Untie c })
          ≡ true) (sym (ap is_nobody owned.1))
          (goes_on h t c phases.Shut (Untie c) reached stands busy (inr refl) refl
          (unties_in h.edition (row_at h t) c
          (λ two. absurd (true≢false
          (sym (shut_nobodys h.edition h t c two ((reached_sound h reached).hands t c phases.Shut busy).fits)
          ∙ ap is_nobody owned.1))))
          (shut_hand (c == c) (here c)) (ap (λ g. untie_ok g (popped_at h t) c) busy) refl refl
          (ap (λ g. untied_ok t g (cell_at h c)) busy ∙ ap (λ o. not (is_nobody o)) owned.1))
    ]
  where
    shut_hand : (b : Bool) → b ≡ true → (false || b || false || false) ≡ true
    shut_hand true e = refl
    shut_hand false e = absurd (true≢false (sym e))
hands_go_on h t c phases.Taking reached stands busy other =
    goes_on h t c phases.Taking (MergeAdd c) reached stands busy (inr refl) refl
    (adds_in h.edition (row_at h t) c (λ two. absurd (never_takes h t c reached two busy))) (add_hand (c == c) (here c))
    refl refl refl refl
  where
    add_hand : (b : Bool) → b ≡ true → (b || false || false) ≡ true
    add_hand true e = refl
    add_hand false e = absurd (true≢false (sym e))
hands_go_on h t c phases.Held reached stands busy other =
    let tells : PhaseTells t phases.Held (cell_at h c) = (hand_tells h t c phases.Held reached busy).1 in
    goes_on h t c phases.Held (LastDown lasts.Hand) reached stands busy (inr refl) refl
    (in_both h.edition (row_at h t) (LastDown lasts.Hand) refl refl) refl refl refl (ap cell_in_hand busy)
    (and_both _ _ (ap (λ s. not (is_default s)) tells.1) (ap (λ g. ends_ok g (cell_at h c)) busy))
hands_go_on h t c phases.Popping reached stands busy other =
    goes_on h t c phases.Popping (MergeAdd c) reached stands busy (inr refl) refl
    (adds_in h.edition (row_at h t) c (λ two. pops_active h t c reached two busy)) (popped_hand (c == c) (here c)) refl
    refl refl refl
  where
    popped_hand : (b : Bool) → b ≡ true → (b || false) ≡ true
    popped_hand true e = refl
    popped_hand false e = absurd (true≢false (sym e))
hands_go_on h t c phases.Offered reached stands busy other =
    goes_on h t c phases.Offered (Untie c) reached stands busy (inl refl) refl
    (unties_in h.edition (row_at h t) c
    (λ _. (active_now h t c phases.Offered (reached_sound h reached) busy refl, ap is_shut_hand busy)))
    (offered_hand (c == c) (here c)) (ap (λ g. untie_ok g (popped_at h t) c) busy) refl refl
    (ap (λ g. untied_ok t g (cell_at h c)) busy)
  where
    offered_hand : (b : Bool) → b ≡ true → (b || false) ≡ true
    offered_hand true e = refl
    offered_hand false e = absurd (true≢false (sym e))
hands_go_on h t c phases.Yielding reached stands busy other =
    goes_on h t c phases.Yielding (MergeAdd c) reached stands busy (inl refl) refl
    (adds_in h.edition (row_at h t) c (λ _. active_now h t c phases.Yielding (reached_sound h reached) busy refl))
    (here c) refl refl refl refl

pub births_go_on : (h : Heap) (t c k : ℕ) (kind : Kind) → IsReached h → IsPresent h t
    → (row_at h t).hand ≡ hands.Busy phases.Ready c → is_mortal kind ≡ true → is_vacant (frame_at h t) k ≡ true
    → enabled h (record { thread = t; step = Birth c kind k }) ≡ true
births_go_on h t c k kind reached stands busy mortal vacant =
    goes_on h t c phases.Ready (Birth c kind k) reached stands busy (inl refl) refl
    (in_both h.edition (row_at h t) (Birth c kind k) refl refl) (here c) (and_both _ _ mortal vacant) refl refl refl

-- ---- what a thread holds it can give up

at_rest : (h : Heap) (t c : ℕ) (s : Step) → IsAtRest h t → may_after_leaving s ≡ true → needs_lock s ≡ false
    → edition_ok h.edition (row_at h t) s ≡ true → hand_ok hands.Free s ≡ true → own_ok_at h t s ≡ true
    → others_ok h t s ≡ true
    → target_at h t s ≡ Some c → (cell_at h c).owner ≢ owners.Free → cell_ok h.limit t (row_at h t) s c (cell_at h c)
    ≡ true → enabled h (record { thread = t; step = s }) ≡ true
at_rest h t c s rest may plain edition hand own others named taken cell = is_enabled h t s c (record {
  stands = rest.stands;
  unlocked = rest.unlocked;
  not_closing = rest.not_closing;
  not_opening = rest.not_opening;
  edition = edition;
  stage = inr may;
  no_lock = plain;
  hand = ap (λ g. hand_ok g s) rest.hand ∙ hand;
  own = own;
  others = others;
  named = named;
  taken = taken;
  cell = cell;
})

pub references_go : (h : Heap) (t c : ℕ) (drop : Dropped) → IsReached h → IsAtRest h t
    → dropped_cell (frame_at h t) (worklist_at h t) (entries_at h) drop ≡ Some c
    → enabled h (record { thread = t; step = release_step t (row_at h t).stage c (cell_at h c) drop }) ≡ true
references_go h t c drop reached rest named =
    let sound : IsSound h = reached_sound h reached in
    let taken : (cell_at h c).owner ≢ owners.Free =
    live_owner _ (held_live h c sound (dropped_held h t c drop named)) in
    let P : Bool → Type 0 = λ b. enabled h
    (record {
      thread = t;
      step = if b then LocalDown
          drop else (if is_default (cell_at h c).state then Ask drop else LastDown (lasts.Dropped drop));
    }) ≡ true in
    elim (cases_Bool (is_immortal c || is_mine t (row_at h t).stage (cell_at h c))) [
      | inl owns ↦ subst P (sym owns)
          (at_rest h t c (LocalDown drop) rest refl refl (in_both h.edition (row_at h t) (LocalDown drop) refl refl)
          refl refl refl named taken owns)
      | inr apart ↦
          let others : (not (is_immortal c) && not (is_mine t (row_at h t).stage (cell_at h c))) ≡ true =
          neither (is_immortal c) (is_mine t (row_at h t).stage (cell_at h c)) apart in
          subst P (sym apart) (elim (cases_Bool (is_default (cell_at h c).state)) [
            | inl default ↦ subst (λ b. enabled h
                (record { thread = t; step = if b then Ask drop else LastDown (lasts.Dropped drop) }) ≡ true)
                (sym default)
                (at_rest h t c (Ask drop) rest refl refl (in_both h.edition (row_at h t) (Ask drop) refl refl) refl refl
                refl named taken others)
            | inr asked ↦ subst (λ b. enabled h
                (record { thread = t; step = if b then Ask drop else LastDown (lasts.Dropped drop) }) ≡ true)
                (sym asked)
                (at_rest h t c (LastDown (lasts.Dropped drop)) rest refl refl
                (in_both h.edition (row_at h t) (LastDown (lasts.Dropped drop)) refl refl) refl refl refl named taken
                (and_both _ _ (ap not asked) others))
          ])
    ]
  where
    neither : (a b : Bool) → (a || b) ≡ false → (not a && not b) ≡ true
    neither true b off = absurd (true≢false off)
    neither false true off = absurd (true≢false off)
    neither false false off = refl

-- so a popped entry that is still the thread's own is an active thread's
pops_own : (h : Heap) (t c : ℕ) → IsSound h → h.edition ≡ editions.Two → bit_of (popped_at h t) c ≡ 1 → FIRST_MORTAL ≤ c
    → (cell_at h c).owner ≡ owners.Thread t → is_active (row_at h t).stage ≡ true
pops_own h t c sound two popped mortal owner = elim (cases_Bool (is_active (row_at h t).stage)) [
  | inl on ↦ on
  | inr off ↦ absurd (no_mark _ (held_unmarked h t c sound (popped_held h t c popped))
      (left_marked h t c sound two off mortal owner))
]

pub popped_go : (h : Heap) (t c : ℕ) → IsReached h → IsAtRest h t → bit_of (popped_at h t) c ≡ 1
    → enabled h (record { thread = t; step = popped_step c (cell_at h c) }) ≡ true
popped_go h t c reached rest popped =
    let sound : IsSound h = reached_sound h reached in
    let tells : PoppedTells t (cell_at h c) = popped_tells h t c reached rest.hand popped in
    let taken : (cell_at h c).owner ≢ owners.Free = live_owner _ (held_live h c sound (popped_held h t c popped)) in
    let bit : (bit_of (popped_at h t) c == 1) ≡ true = eq-eqb _ _ popped in
    elim tells [
      | inl merged ↦ subst (λ b. enabled h
          (record { thread = t; step = if b then LastDown (lasts.Popped c) else Untie c }) ≡ true)
          (sym (ap is_merged merged))
          (at_rest h t c (LastDown (lasts.Popped c)) rest refl refl
          (in_both h.edition (row_at h t) (LastDown (lasts.Popped c)) refl refl) refl bit refl refl taken
          (and_both _ _ (ap (λ s. not (is_default s)) merged) (ap is_merged merged)))
      | inr own ↦ subst (λ b. enabled h (record { thread = t; step = if b then LastDown (lasts.Popped c) else Untie c })
          ≡ true) (sym (ap is_merged own.1))
          (at_rest h t c (Untie c) rest refl refl
          (unties_in h.edition (row_at h t) c
          (λ two. (pops_own h t c sound two popped (owned_mortal h t c sound own.0) own.0, ap is_shut_hand rest.hand)))
          refl (ap (λ g. untie_ok g (popped_at h t) c) rest.hand ∙ bit) refl refl taken
          (ap (λ g. untied_ok t g (cell_at h c)) rest.hand ∙ and_both _ _ (ap (is_owned_by t) own.0 ∙ here t)
          (ap is_queued own.1)))
    ]

pub blocks_go : (h : Heap) (t c : ℕ) → IsReached h → IsAtRest h t → is_marked (worklist_at h t) c ≡ true
    → entries_at h c ≡ [] → enabled h (record { thread = t; step = Free c }) ≡ true
blocks_go h t c reached rest marked empty =
    let sound : IsSound h = reached_sound h reached in
    at_rest h t c (Free c) rest refl refl (in_both h.edition (row_at h t) (Free c) refl refl) refl
    (and_both _ _ marked (ap (λ (xs : List ℕ). length xs == 0) empty)) refl refl
    (live_owner _ (sound.worklists t c marked).lives) refl

-- ---- a lock is let go, and a thread that leaves goes on leaving

-- a frame without a filled place, marks without a mark, words without a bit
pub all_vacant : (frame : List (Option ℕ)) → ((k : ℕ) → place_at frame k ≡ None) → is_bare frame ≡ true
all_vacant frame vacant = none_counted is_some frame None (λ k. ap is_some (vacant k))

pub all_blank : (words : List ℕ) → ((k : ℕ) → word_at words k ≡ 0) → is_blank words ≡ true
all_blank words none = none_counted (λ w. not (w == 0)) words 0 (λ k. ap (λ w. not (w == 0)) (none k))

-- what a thread's step on no cell asks
record AsksNone (h : Heap) (t : ℕ) (s : Step) : Type 0 where
  stands : IsPresent h t
  stage : stage_ok (row_at h t).stage s ≡ true
  lock : lock_ok (row_at h t).locked s ≡ true
  hand : hand_ok (row_at h t).hand s ≡ true
  own : own_ok_at h t s ≡ true
  others : others_ok h t s ≡ true
  edition : edition_ok h.edition (row_at h t) s ≡ true
  target : target_ok h t (row_at h t) s (target_at h t s) ≡ true

may_step : (h : Heap) (t : ℕ) (s : Step) → AsksNone h t s → enabled h (record { thread = t; step = s }) ≡ true
may_step h t s asks =
    let number = and_parts _ _ asks.stands.registered in
    let low : 0 < t = ltb-true 0 t number.0 in
    let thread : (t == 0) ≡ false = ne_eqb t 0 (λ e. omega (arith, low, e)) in
    ap (λ b. if b then root_may h s else thread_may h t s) thread
    ∙ and_both _ _ (and_both _ _
    (and_both _ _ (and_both _ _
    (and_both _ _ (and_both _ _ (and_both _ _ (and_both _ _ asks.stands.registered (ap not asks.stands.here))
    asks.stage) asks.lock) asks.hand) asks.own) asks.others) asks.edition) asks.target

pub locks_go : (h : Heap) (t k : ℕ) → IsReached h → IsPresent h t → (row_at h t).locked ≡ Some k
    → enabled h (record { thread = t; step = Unlock changes.Keep }) ≡ true
locks_go h t k reached stands locked =
    let sound : IsSound h = reached_sound h reached in
    let lock = sound.locks t k locked in
    let named : locked_cell (frame_at h t) (row_at h t).locked ≡ Some lock.0 = ap (locked_cell (frame_at h t)) locked
    ∙ lock.1.names in
    may_step h t (Unlock changes.Keep) (record {
      stands = stands;
      stage = by_stage (row_at h t).stage refl;
      lock = ap (λ o. lock_ok o (Unlock changes.Keep)) locked;
      hand = ap is_free_hand ((sound.threads t).locked_hand k locked);
      own = refl;
      others = refl;
      edition = in_both h.edition (row_at h t) (Unlock changes.Keep) refl refl;
      target = ap (target_ok h t (row_at h t) (Unlock changes.Keep)) named
          ∙ and_both _ _ (lt-ltb lock.0 (length h.cells) (locked_inside lock.0 lock.1.names)) refl;
    })
  where
    -- only an active thread has a lock
    by_stage : (stage : Stage) → (row_at h t).stage ≡ stage → stage_ok stage (Unlock changes.Keep) ≡ true
    by_stage stages.Active at = refl
    by_stage stages.Left at = let bad : None ≡ Some k =
        sym (((reached_sound h reached).threads t).inactive_lock (ap is_active at)) ∙ locked in absurd (cc)
    by_stage (stages.Opening n) at = let bad : None ≡ Some k =
        sym (((reached_sound h reached).threads t).inactive_lock (ap is_active at)) ∙ locked in absurd (cc)
    by_stage (stages.Closing n) at = let bad : None ≡ Some k =
        sym (((reached_sound h reached).threads t).inactive_lock (ap is_active at)) ∙ locked in absurd (cc)

    -- what a place has is an immortal or lives, so it is one of the heap
    locked_inside : (c : ℕ) → place_at (frame_at h t) k ≡ Some c → c < length h.cells
    locked_inside c there = inside h c (elim (cases_lt c FIRST_MORTAL) [
      | inl low ↦ (λ free. let bad : owners.Nobody ≡ owners.Free = sym ((reached_sound h reached).immortals c low).owner
          ∙ free in cc)
      | inr high ↦ live_owner _ (held_live h c (reached_sound h reached) (dropped_held h t c (dropped.Frame k) there))
    ])

-- the next word of a closing thread may be closed
pub closings_go : (h : Heap) (t n : ℕ) → IsReached h → IsPresent h t → (row_at h t).stage ≡ stages.Closing n
    → enabled h (record { thread = t; step = Close n }) ≡ true
closings_go h t n reached stands closing =
    let fits = (reached_sound h reached).threads t in
    let closes = fits.closing n closing in
    let off : is_active (row_at h t).stage ≡ false = ap is_active closing in
    may_step h t (Close n) (record {
      stands = stands;
      stage = ap (λ g. stage_ok g (Close n)) closing;
      lock = ap (λ o. lock_ok o (Close n)) (fits.inactive_lock off);
      hand = ap is_free_hand closes.2;
      own = and_both _ _ (and_both _ _ (and_both _ _ (lt-ltb n _ closes.1) (ap (λ g. closes_next g n) closing
          ∙ eq-eqb n n refl))
          (all_vacant (frame_at h t) (fits.inactive_frame off)))
          (first_of_two _ _ (lt-ltb 0 n closes.0));
      others = closing_leaves h.edition h t n (reached_sound h reached) refl closing;
      edition = in_both h.edition (row_at h t) (Close n) refl refl;
      target = refl;
    })
  where
    first_of_two : (a b : Bool) → a ≡ true → (a || b) ≡ true
    first_of_two true b x = refl
    first_of_two false b x = absurd (true≢false (sym x))

-- an active thread that has nothing left, and may leave what it owns, may begin to close
pub leavings_begin : (h : Heap) (t : ℕ) → IsReached h → IsAtRest h t → (row_at h t).stage ≡ stages.Active
    → is_bare (frame_at h t) ≡ true → may_leave h.edition t h.cells (worklist_at h t) ≡ true
    → is_blank (popped_at h t) ≡ true
    → enabled h (record { thread = t; step = Close 0 }) ≡ true
leavings_begin h t reached rest active bare leaves blank =
    let options = (reached_sound h reached).shaped.options in
    may_step h t (Close 0) (record {
      stands = rest.stands;
      stage = ap (λ g. stage_ok g (Close 0)) active;
      lock = ap (λ o. lock_ok o (Close 0)) rest.unlocked;
      hand = ap is_free_hand rest.hand;
      own = and_both _ _ (and_both _ _
          (and_both _ _ (lt-ltb 0 (words_for (length h.cells)) (omega (arith, options.enough)))
          (ap (λ g. closes_next g 0) active)) bare) blank;
      others = leaves;
      edition = in_both h.edition (row_at h t) (Close 0) refl refl;
      target = refl;
    })

-- in the second edition what it owns can be handed over before
offers_two : (e : Edition) (row : Row) (c : ℕ) → e ≡ editions.Two → edition_ok e row (Offer c) ≡ true
offers_two editions.One row c is = absurd (let bad : editions.One ≡ editions.Two = is in cc)
offers_two editions.Two row c is = refl

pub offers_go : (h : Heap) (t c : ℕ) → IsReached h → h.edition ≡ editions.Two → IsAtRest h t
    → (row_at h t).stage ≡ stages.Active
    → (cell_at h c).owner ≡ owners.Thread t → is_marked (worklist_at h t) c ≡ false
    → enabled h (record { thread = t; step = Offer c }) ≡ true
offers_go h t c reached two rest active owner unmarked = is_enabled h t (Offer c) c (record {
  stands = rest.stands;
  unlocked = rest.unlocked;
  not_closing = rest.not_closing;
  not_opening = rest.not_opening;
  edition = offers_two h.edition (row_at h t) c two;
  stage = inl (ap is_active active);
  no_lock = refl;
  hand = ap is_free_hand rest.hand;
  own = ap not unmarked;
  others = refl;
  named = refl;
  taken = λ free. let bad : owners.Thread t ≡ owners.Free = sym owner ∙ free in cc;
  cell = ap (is_owned_by t) owner ∙ here t;
})

-- a number that is used again opens its words one by one
pub openings_go : (h : Heap) (t n : ℕ) → IsReached h → h.edition ≡ editions.Two → IsPresent h t
    → (row_at h t).stage ≡ stages.Opening n → enabled h (record { thread = t; step = Reopen n }) ≡ true
openings_go h t n reached two stands opening =
    let fits = (reached_sound h reached).threads t in
    let opens = fits.opening n opening in
    may_step h t (Reopen n) (record {
      stands = stands;
      stage = ap (λ g. stage_ok g (Reopen n)) opening;
      lock = ap (λ o. lock_ok o (Reopen n)) (fits.inactive_lock (ap is_active opening));
      hand = ap is_free_hand opens.1;
      own = and_both _ _ (lt-ltb n (words_for (length h.cells)) opens.0) (ap (λ g. opens_next g n) opening ∙ here n);
      others = refl;
      edition = reopens_two h.edition two;
      target = refl;
    })
  where
    reopens_two : (e : Edition) → e ≡ editions.Two → edition_ok e (row_at h t) (Reopen n) ≡ true
    reopens_two editions.One is = absurd (let bad : editions.One ≡ editions.Two = is in cc)
    reopens_two editions.Two is = refl

-- a thread that has left and has nothing left may be gathered
pub gatherings_go : (h : Heap) (t : ℕ) → IsReached h → IsAtRest h t → (row_at h t).stage ≡ stages.Left
    → is_unmarked (worklist_at h t) ≡ true → is_blank (popped_at h t) ≡ true
    → enabled h (record { thread = 0; step = Gather t }) ≡ true
gatherings_go h t reached rest left unmarked blank =
    and_both _ _ (and_both _ _
    (and_both _ _ (and_both _ _ (and_both _ _ rest.stands.registered (ap not rest.stands.here)) (ap is_left left))
    (ap is_free_hand rest.hand)) blank) unmarked
