-- Each thread's step that is enabled keeps all that reached worlds keep.
use Rattle.std.proofs.Common.{◌≡◌, ℕ, ◌+◌, ◌-◌, ◌≤◌, ◌==◌, ◌&&◌, ◌||◌, not, Bool, true, if◌then◌else◌, List, set}
use Rattle.std.proofs.Common.{Option, Some, None, refl, sym, subst, inl, inr}
use Rattle.std.proofs.lemmas.Bool.{cases_Bool, and_parts, ltb-true, ltb-false, true≢false}
use Rattle.brc_words.specs.declared.limits.TheConstants.{FIRST_MORTAL}
use Rattle.law.specs.declared.world.event.Step.{Step}
use Rattle.law.specs.declared.world.event.Step.TheVariants.{Claim, InitLocal, InitShared, Birth, LocalUp, LocalDown}
use Rattle.law.specs.declared.world.event.Step.TheVariants.{SeeZero, Free, Untie, MergeZero, SharedUp, SharedDown, Ask}
use Rattle.law.specs.declared.world.event.Step.TheVariants.{LastDown, Enqueue, Drain, MergeAdd, Close, Nudge, Wake}
use Rattle.law.specs.declared.world.event.Step.TheVariants.{Lock, Unlock, Register, Gather, Offer, Reopen}
use Rattle.law.specs.declared.world.event.Source.{Source}
use Rattle.law.specs.declared.world.event.Dropped.{Dropped}
use Rattle.law.specs.declared.world.event.LastDropped.TheVariants as lasts
use Rattle.law.specs.declared.world.row.Hand.TheVariants as hands
use Rattle.law.specs.declared.world.row.Phase.TheVariants as phases
use Rattle.law.specs.world.Lists.{filled}
use Rattle.law.specs.world.Heap.{Heap, cell_at, entries_at, row_at, frame_at, popped_at, worklist_at, is_immortal}
use Rattle.law.specs.world.Steps.{thread_may, after_target, target_at, target_ok, source_cell, dropped_cell}
use Rattle.law.specs.world.Steps.{frame_without, entries_without, is_mine, counts_up_locally}
use Rattle.law.specs.world.Sound.{IsSound}
use Rattle.law.proofs.world.Naming.{free_hand}
use Rattle.law.proofs.world.Asking.{May, may_parts, OnCell, on_cell, vacant, Mine, mine}
use Rattle.law.proofs.world.Birthing.{active_from, claim_sound, local_sound, shared_sound, birth_sound}
use Rattle.law.proofs.world.Counting.{Ups, Downs, up_fits, raises_immortal, raises_local, down_fits, lowers_immortal}
use Rattle.law.proofs.world.Counting.{lowers_local}
use Rattle.law.proofs.world.Plainly.{plain_sound}
use Rattle.law.proofs.world.Turning.{acts}
use Rattle.law.proofs.world.Dropping.{source_held, drop_downs}
use Rattle.law.proofs.world.Ending.{see_sound, free_sound}
use Rattle.law.proofs.world.Merging.{untie_sound, merge_zero_sound, merge_add_sound, offer_sound}
use Rattle.law.proofs.world.Sharing.{shared_up_sound, shared_down_sound, ask_sound, last_dropped_sound, last_hand_sound}
use Rattle.law.proofs.world.Queueing.{enqueue_sound, last_popped_sound, drain_sound, close_sound, reopen_sound}
use Rattle.law.proofs.world.Locking.{lock_sound, unlock_sound}
use Rattle.law.proofs.world.Resting.{nudge_sound, wake_sound}

-- ---- the owner counts up

up_target : (h : Heap) (t k : ℕ) (source : Source) (o : Option ℕ) → IsSound h → May h t (LocalUp source k)
    → source_cell (row_at h t) (frame_at h t) (entries_at h) source ≡ o
    → target_ok h t (row_at h t) (LocalUp source k) o ≡ true
    → IsSound (after_target h t (LocalUp source k) o)
up_target h t k source None sound may named ok = absurd (true≢false (sym ok))
up_target h t k source (Some c) sound may named ok =
    let at_cell : OnCell h t (LocalUp source k) c = on_cell h t (LocalUp source k) c ok in
    let ups : Ups h t c k = record {
      thread = may.some_thread;
      inside = may.inside;
      cell_inside = at_cell.inside;
      place = vacant _ k may.own;
      active = active_from _ (LocalUp source k) may.stage refl refl refl;
      here = may.not_gathered;
      hand = free_hand _ may.hand;
    } in
    let P : Bool → Type 0 = λ b. IsSound (record h {
      cells = set h.cells c (if b then cell_at h c else record (cell_at h c) { local = (cell_at h c).local + 1 });
      rows = set h.rows t (row_at h t);
      frames = set h.frames t (filled (frame_at h t) k c);
      popped = set h.popped t (popped_at h t);
      worklists = set h.worklists t (worklist_at h t);
    }) in
    elim (cases_Bool (is_immortal c)) [
      | inl immortal ↦ subst P (sym immortal)
          (plain_sound h t c _ _ _ _ _ sound
          (up_fits h t c k _ sound ups (raises_immortal h t c sound (ltb-true c FIRST_MORTAL immortal))))
      | inr mortal ↦
          let high : FIRST_MORTAL ≤ c = ltb-false c FIRST_MORTAL mortal in
          let rest : counts_up_locally h.limit t (row_at h t).stage (cell_at h c) ≡ true =
          subst (λ b. (b || counts_up_locally h.limit t (row_at h t).stage (cell_at h c)) ≡ true) mortal at_cell.fits in
          let parts = and_parts _ _ rest in
          let own : Mine t (row_at h t).stage (cell_at h c) = mine t _ _ parts.0 in
          subst P (sym mortal) (plain_sound h t c _ _ _ _ _ sound
          (up_fits h t c k _ sound ups (raises_local h t c sound ups.hand high own.owner own.active
          (ltb-true _ _ parts.1) (source_held h t c source named high))))
    ]

-- ---- the owner counts down

down_target : (h : Heap) (t : ℕ) (drop : Dropped) (o : Option ℕ) → IsSound h → May h t (LocalDown drop)
    → dropped_cell (frame_at h t) (worklist_at h t) (entries_at h) drop ≡ o
    → target_ok h t (row_at h t) (LocalDown drop) o ≡ true
    → IsSound (after_target h t (LocalDown drop) o)
down_target h t drop None sound may named ok = absurd (true≢false (sym ok))
down_target h t drop (Some c) sound may named ok =
    let at_cell : OnCell h t (LocalDown drop) c = on_cell h t (LocalDown drop) c ok in
    let f : List (Option ℕ) = frame_without (Some drop) (frame_at h t) in
    let es : List (List ℕ) = entries_without (Some drop) h.entries in
    let downs : Downs h t c f es = drop_downs h t c drop sound (acts h t (LocalDown drop) may refl refl refl)
    at_cell.inside (free_hand _ may.hand) named in
    let P : Bool → Type 0 = λ b. IsSound (record h {
      cells = set h.cells c (if b then cell_at h c else record (cell_at h c) { local = (cell_at h c).local - 1 });
      entries = es;
      rows = set h.rows t (record (row_at h t) {
        hand = if not b && ((cell_at h c).local == 1) then hands.Busy
            phases.Zero c else (row_at h t).hand;
      });
      frames = set h.frames t f;
      popped = set h.popped t (popped_at h t);
      worklists = set h.worklists t (worklist_at h t);
    }) in
    elim (cases_Bool (is_immortal c)) [
      | inl immortal ↦ subst P (sym immortal)
          (plain_sound h t c _ _ _ _ _ sound
          (down_fits h t c _ _ f es sound downs
          (lowers_immortal h t c f es sound downs (ltb-true c FIRST_MORTAL immortal))))
      | inr mortal ↦
          let high : FIRST_MORTAL ≤ c = ltb-false c FIRST_MORTAL mortal in
          let own : Mine t (row_at h t).stage (cell_at h c) =
          mine t _ _ (subst (λ b. (b || is_mine t (row_at h t).stage (cell_at h c)) ≡ true) mortal at_cell.fits) in
          subst P (sym mortal) (plain_sound h t c _ _ _ _ _ sound
          (down_fits h t c _ _ f es sound downs (lowers_local h t c f es sound downs high own.owner own.active)))
    ]

-- ---- all steps of threads

pub step_sound : (h : Heap) (t : ℕ) (s : Step) → IsSound h → thread_may h t s ≡ true
    → IsSound (after_target h t s (target_at h t s))
step_sound h t (Claim c) sound ok = claim_sound h t c sound ok
step_sound h t (InitLocal c) sound ok = local_sound h t c sound ok
step_sound h t (InitShared c) sound ok = shared_sound h t c sound ok
step_sound h t (Birth c kind k) sound ok = birth_sound h t c kind k sound ok
step_sound h t (LocalUp source k) sound ok = let may : May h t (LocalUp source k) =
    may_parts h t (LocalUp source k) ok in up_target h t k source _ sound may refl may.on_target
step_sound h t (LocalDown drop) sound ok = let may : May h t (LocalDown drop) = may_parts h t (LocalDown drop) ok in
    down_target h t drop _ sound may refl may.on_target
step_sound h t (SeeZero c) sound ok = see_sound h t c sound ok
step_sound h t (Free c) sound ok = free_sound h t c sound ok
step_sound h t (Untie c) sound ok = untie_sound h t c sound ok
step_sound h t (MergeZero c) sound ok = merge_zero_sound h t c sound ok
step_sound h t (SharedUp source k) sound ok = let may : May h t (SharedUp source k) =
    may_parts h t (SharedUp source k) ok in shared_up_sound h t k source _ sound may refl may.on_target
step_sound h t (SharedDown drop) sound ok = let may : May h t (SharedDown drop) = may_parts h t (SharedDown drop) ok in
    shared_down_sound h t drop _ sound may refl may.on_target
step_sound h t (Ask drop) sound ok = let may : May h t (Ask drop) = may_parts h t (Ask drop) ok in
    ask_sound h t drop _ sound may refl may.on_target
step_sound h t (LastDown (lasts.Dropped drop)) sound ok =
    let may : May h t (LastDown (lasts.Dropped drop)) = may_parts h t (LastDown (lasts.Dropped drop)) ok in
    last_dropped_sound h t drop _ sound may refl may.on_target
step_sound h t (LastDown (lasts.Popped c)) sound ok = last_popped_sound h t c sound ok
step_sound h t (LastDown lasts.Hand) sound ok = let may : May h t (LastDown lasts.Hand) =
    may_parts h t (LastDown lasts.Hand) ok in last_hand_sound h t _ sound may refl may.on_target
step_sound h t (Enqueue c) sound ok = enqueue_sound h t c sound ok
step_sound h t (Drain k) sound ok = drain_sound h t k sound ok
step_sound h t (MergeAdd c) sound ok = merge_add_sound h t c sound ok
step_sound h t (Close k) sound ok = close_sound h t k sound ok
step_sound h t (Offer c) sound ok = offer_sound h t c sound ok
step_sound h t (Reopen k) sound ok = reopen_sound h t k sound ok
step_sound h t (Nudge u k) sound ok = nudge_sound h t u k sound
step_sound h t Wake sound ok = wake_sound h t sound
step_sound h t (Lock k) sound ok = let may : May h t (Lock k) = may_parts h t (Lock k) ok in
    lock_sound h t k _ sound may refl may.on_target
step_sound h t (Unlock change) sound ok = let may : May h t (Unlock change) = may_parts h t (Unlock change) ok in
    unlock_sound h t change _ sound may refl may.on_target
step_sound h t (Register u) sound ok = absurd (true≢false (sym (may_parts h t (Register u) ok).hand))
step_sound h t (Gather u) sound ok = absurd (true≢false (sym (may_parts h t (Gather u) ok).hand))
