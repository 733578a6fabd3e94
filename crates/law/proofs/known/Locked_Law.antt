-- What a thread has locked, and with which entries, is what its own items say.
use Rattle.std.proofs.Common.{◌≡◌, ◌≢◌, ℕ, Bool, true, false, List, [], Option, Some, None, refl, sym, ◌∙◌, ap, subst}
use Rattle.std.proofs.Common.{inl, inr, arith}
use Rattle.std.proofs.lemmas.List.{get_or_push}
use Rattle.std.proofs.lemmas.Bool.{cases_Bool, true≢false}
use Rattle.law.specs.declared.world.event.Event.{Event}
use Rattle.law.specs.declared.world.event.Source.TheVariants as sources
use Rattle.law.specs.declared.world.event.Step.{Step}
use Rattle.law.specs.declared.world.event.Step.TheVariants.{LocalUp, SharedUp, Lock, Unlock}
use Rattle.law.specs.declared.world.row.Row.{Row}
use Rattle.law.specs.world.Lists.{place_at, filled, is_marked}
use Rattle.law.specs.known.Start.{start_of}
use Rattle.law.specs.world.Heap.{Heap, entries_at, row_at, frame_at, worklist_at, no_row, new_row, again_row}
use Rattle.law.specs.world.Heap.{is_registered, AreOptions}
use Rattle.law.specs.world.Steps.{enabled, after, after_target, stepped, target_at, target_ok, lock_ok, locked_cell}
use Rattle.law.specs.world.Steps.{locked_after, locked_at, gathered_in}
use Rattle.law.specs.world.Runs.{IsReached}
use Rattle.law.specs.world.Sound.{IsSound}
use Rattle.law.specs.lasting.Staying.{IsAnothers, SameOwn}
use Rattle.law.specs.known.Items.{Stepped, ItemRun, AreItems, events_of, world_of_items, own, found, found_at, part_of}
use Rattle.law.specs.known.Items.{IsPart}
use Rattle.law.specs.known.Locked.{locked_on, locked_of, place_locked, KnowsWhatIsLocked}
use Rattle.law.proofs.world.Asking.{May, Vacant, vacant}
use Rattle.law.proofs.world.Changes.{read_here}
use Rattle.law.proofs.world.Framing.{place_at-filled_else}
use Rattle.law.proofs.world.Reached.{reached_sound}
use Rattle.law.proofs.lasting.Lasting.{others_own, locked_stays, locked_mutex, dead_unlocked}
use Rattle.law.proofs.known.Starting.{run_reached}
use Rattle.law.proofs.known.Items_Law.{parts_are_told}
use Rattle.law.proofs.known.Items_Runs.{events_run}
use Rattle.law.proofs.known.Items_Tells.{Follows, tells}
use Rattle.law.proofs.known.Taken_Law.{unmarked_unlisted}

-- the thread has locked the cell in this place, which has these entries
record LocksFound (h : Heap) (t place : ℕ) (entries : List ℕ) : Type 0 where
  locked : (row_at h t).locked ≡ Some place
  cell : ℕ
  named : locked_at h t ≡ Some cell
  has : entries_at h cell ≡ entries

-- the world's lock is this one
abbrev LockIs : Heap → ℕ → Option (ℕ × List ℕ) → Type 0
LockIs h t None = (row_at h t).locked ≡ None
LockIs h t (Some lock) = LocksFound h t lock.0 lock.1

-- ---- others change nothing of it

others_lock : (h : Heap) (e : Event) (t : ℕ) (lock : Option (ℕ × List ℕ)) → IsReached h → enabled h e ≡ true
    → IsAnothers t e → LockIs h t lock → LockIs (after h e) t lock
others_lock h e t None reached ok others is = ap (λ (r : Row). r.locked)
    (others_own h e t (reached_sound h reached) ok others).row ∙ is
others_lock h e t (Some lock) reached ok others is =
    let sound : IsSound h = reached_sound h reached in
    let same : SameOwn t h (after h e) = others_own h e t sound ok others in
    record {
      locked = ap (λ (r : Row). r.locked) same.row ∙ is.locked;
      cell = is.cell;
      named = ap (λ (r : Row). locked_cell (frame_at (after h e) t) r.locked) same.row
          ∙ ap (λ f. locked_cell f (row_at h t).locked) same.frame ∙ is.named;
      has = (locked_stays h e t is.cell sound ok others.other is.named).2 ∙ is.has;
    }

-- ---- an own step that neither locks nor unlocks

abbrev changes_lock : Step → Bool
changes_lock (Lock k) = true
changes_lock (Unlock change) = true
changes_lock _ = false

same_locked : (s : Step) (locked : Option ℕ) → changes_lock s ≡ false → locked_after s locked ≡ locked
same_locked (Lock k) locked apart = absurd (true≢false apart)
same_locked (Unlock change) locked apart = absurd (true≢false apart)
same_locked _ locked apart = refl

-- the locked place isn't the vacant one that is filled
still_locked : (h w : Heap) (t k c place : ℕ) (entries : List ℕ) → Vacant (frame_at h t) k
    → (row_at w t).locked ≡ (row_at h t).locked → frame_at w t ≡ filled (frame_at h t) k c
    → ((d : ℕ) → entries_at w d ≡ entries_at h d) → LocksFound h t place entries → LocksFound w t place entries
still_locked h w t k c place entries room row frame same is =
    let there : place_at (frame_at h t) place ≡ Some is.cell = sym (ap (locked_cell (frame_at h t)) is.locked)
    ∙ is.named in
    let apart : place ≢ k = λ at. (let bad : None ≡ Some is.cell = sym room.none ∙ ap (place_at (frame_at h t)) (sym at)
    ∙ there in cc) in
    record {
      locked = row ∙ is.locked;
      cell = is.cell;
      named = ap (locked_cell (frame_at w t)) (row ∙ is.locked) ∙ ap (λ f. place_at f place) frame
          ∙ place_at-filled_else (frame_at h t) k c place apart ∙ there;
      has = same is.cell ∙ is.has;
    }

-- while it has a lock, a thread only counts up from the entries
under_lock : (h : Heap) (t : ℕ) (s : Step) (c place : ℕ) (entries : List ℕ) → IsSound h → May h t s
    → changes_lock s ≡ false → LocksFound h t place entries → LocksFound (stepped h t s c) t place entries
under_lock h t (LocalUp (sources.Entry i) k) c place entries sound may apart is =
    still_locked h (stepped h t (LocalUp (sources.Entry i) k) c) t k c place entries (vacant _ k may.own)
    (ap (λ (r : Row). r.locked) (read_here h.rows t _ no_row may.inside))
    (read_here h.frames t _ [] (omega (arith, sound.shaped.frames, may.inside))) (λ d. refl) is
under_lock h t (SharedUp (sources.Entry i) k) c place entries sound may apart is =
    still_locked h (stepped h t (SharedUp (sources.Entry i) k) c) t k c place entries (vacant _ k may.own)
    (ap (λ (r : Row). r.locked) (read_here h.rows t _ no_row may.inside))
    (read_here h.frames t _ [] (omega (arith, sound.shaped.frames, may.inside))) (λ d. refl) is
under_lock h t (Unlock change) c place entries sound may apart is = absurd (true≢false apart)
under_lock h t s c place entries sound may apart is =
    absurd (true≢false (sym (ap (λ o. lock_ok o s) (sym is.locked) ∙ may.lock)))

same_lock : (h : Heap) (t : ℕ) (s : Step) (o : Option ℕ) (lock : Option (ℕ × List ℕ)) → IsSound h → May h t s
    → changes_lock s ≡ false → LockIs h t lock → LockIs (after_target h t s o) t lock
same_lock h t s None None sound may apart is = ap (λ (r : Row). r.locked) (read_here h.rows t _ no_row may.inside) ∙ is
same_lock h t s (Some c) None sound may apart is = ap (λ (r : Row). r.locked) (read_here h.rows t _ no_row may.inside)
    ∙ same_locked s (row_at h t).locked apart ∙ is
same_lock h t s None (Some lock) sound may apart is =
    let row : (row_at (after_target h t s None) t).locked ≡ (row_at h t).locked = ap (λ (r : Row). r.locked)
    (read_here h.rows t _ no_row may.inside) in
    record {
      locked = row ∙ is.locked;
      cell = is.cell;
      named = ap (locked_cell (frame_at h t)) row
          ∙ is.named;
      has = is.has;
    }
same_lock h t s (Some c) (Some lock) sound may apart is = under_lock h t s c lock.0 lock.1 sound may apart is

-- ---- an own step that locks, or unlocks

newly_locked : (h : Heap) (t k : ℕ) (entries : List ℕ) (o : Option ℕ) → IsSound h → May h t (Lock k)
    → target_at h t (Lock k) ≡ o → entries ≡ found_at h (Lock k) o
    → LocksFound (after_target h t (Lock k) o) t k entries
newly_locked h t k entries None sound may named are =
    absurd (true≢false (sym (subst (λ o. target_ok h t (row_at h t) (Lock k) o ≡ true) named may.on_target)))
newly_locked h t k entries (Some c) sound may named are =
    let w : Heap = stepped h t (Lock k) c in
    let row : (row_at w t).locked ≡ Some k = ap (λ (r : Row). r.locked) (read_here h.rows t _ no_row may.inside) in
    let frame : frame_at w t ≡ frame_at h t = read_here h.frames t _ []
    (omega (arith, sound.shaped.frames, may.inside)) in
    record {
      locked = row;
      cell = c;
      named = ap (locked_cell (frame_at w t)) row ∙ ap (λ f. place_at f k) frame
          ∙ named;
      has = sym are;
    }

owns_lock : (h : Heap) (t : ℕ) (s : Step) (number : ℕ) (entries : List ℕ) (lock : Option (ℕ × List ℕ)) → IsSound h
    → May h t s → entries ≡ found h t s → LockIs h t lock
    → LockIs (after_target h t s (target_at h t s)) t (locked_on (Stepped s number entries) lock)
owns_lock h t (Lock k) number entries lock sound may are is = newly_locked h t k entries (target_at h t (Lock k)) sound
    may refl are
owns_lock h t (Unlock change) number entries lock sound may are is =
    by_cell (target_at h t (Unlock change)) may.on_target
  where
    by_cell : (o : Option ℕ) → target_ok h t (row_at h t) (Unlock change) o ≡ true
        → (row_at (after_target h t (Unlock change) o) t).locked ≡ None
    by_cell None ok = absurd (true≢false (sym ok))
    by_cell (Some c) ok = ap (λ (r : Row). r.locked) (read_here h.rows t _ no_row may.inside)
owns_lock h t s number entries lock sound may are is = same_lock h t s (target_at h t s) lock sound may refl is

-- ---- the law

gathered_lock : (h : Heap) (u t : ℕ) (lock : Option (ℕ × List ℕ)) → LockIs h t lock → LockIs (gathered_in h u) t lock
gathered_lock h u t None is = is
gathered_lock h u t (Some lock) is = record { locked = is.locked; cell = is.cell; named = is.named; has = is.has }

locked_follows : (t cells : ℕ) → Follows t cells (λ h log. LockIs h t (locked_of log))
locked_follows t cells = record {
  starts = λ h reached size last. ap (λ (r : Row). r.locked) (get_or_push h.rows new_row no_row t (sym last));
  again = λ h number entries reached size vacated. ap (λ (r : Row). r.locked)
      (read_here h.rows t again_row no_row vacated.inside);
  others = λ h e log reached ok others before. others_lock h e t (locked_of log) reached ok others before;
  owns = λ h s number entries log reached size fit may told_is found_is before. owns_lock h t s number entries
      (locked_of log) (reached_sound h reached) may found_is before;
  gathers = λ h u log before. gathered_lock h u t (locked_of log) before;
  saw = λ h word number log reached shows before. before;
  lost = λ h word number log reached shows before. before;
}

-- a registered thread's lock, and the entries of what it has locked, are what its own items say
lock_is_told : (cells limit : ℕ) (items : ItemRun) (t : ℕ) → AreOptions cells limit
    → AreItems (start_of cells limit) items
    → is_registered (world_of_items (start_of cells limit) items) t ≡ true
    → LockIs (world_of_items (start_of cells limit) items) t (locked_of (own t items))
lock_is_told cells limit items t options are there = tells t cells (λ h log. LockIs h t (locked_of log))
    (locked_follows t cells) limit items options are there

-- ---- the same of the thread's own part

row_locked : (h : Heap) (t : ℕ) (lock : Option (ℕ × List ℕ)) → LockIs h t lock → (row_at h t).locked ≡ place_locked lock
row_locked h t None is = is
row_locked h t (Some lock) is = is.locked

pub place_is_told : (cells limit : ℕ) (items : ItemRun) (t : ℕ) → AreOptions cells limit
    → AreItems (start_of cells limit) items
    → is_registered (world_of_items (start_of cells limit) items) t ≡ true
    → (part_of cells (own t items)).row.locked ≡ place_locked (locked_of (own t items))
place_is_told cells limit items t options are there =
    let h : Heap = world_of_items (start_of cells limit) items in
    let part : IsPart h t (part_of cells (own t items)) = parts_are_told cells limit items t options are there in
    ap (λ (r : Row). r.locked) (sym part.row_is)
    ∙ row_locked h t (locked_of (own t items)) (lock_is_told cells limit items t options are there)

-- and the cell in the locked place has the entries found
pub locked_is_told : (cells limit : ℕ) (items : ItemRun) (t place : ℕ) (entries : List ℕ) → AreOptions cells limit
    → AreItems (start_of cells limit) items
    → is_registered (world_of_items (start_of cells limit) items) t ≡ true
    → locked_of (own t items) ≡ Some (place, entries)
    → KnowsWhatIsLocked cells (world_of_items (start_of cells limit) items) t (own t items) place entries
locked_is_told cells limit items t place entries options are there lock =
    let h : Heap = world_of_items (start_of cells limit) items in
    let reached : IsReached h = run_reached cells limit (events_of items) options
    (events_run (start_of cells limit) items are) in
    let is : LocksFound h t place entries = subst (LockIs h t) lock
    (lock_is_told cells limit items t options are there) in
    let part : IsPart h t (part_of cells (own t items)) = parts_are_told cells limit items t options are there in
    let at : place_at (frame_at h t) place ≡ Some is.cell = sym (ap (locked_cell (frame_at h t)) is.locked)
    ∙ is.named in
    let mutex = locked_mutex h t is.cell (reached_sound h reached) is.named in
    let off : is_marked (worklist_at h t) is.cell ≡ false = elim (cases_Bool (is_marked (worklist_at h t) is.cell)) [
      | inr off ↦ off
      | inl on ↦ absurd (omega (arith, mutex.0, mutex.1, dead_unlocked h t is.cell reached on))
    ] in
    record {
      cell = is.cell;
      names = ap (λ f. place_at f place) (sym part.frame_is) ∙ at;
      locked = is.named;
      has = is.has;
      part_has = sym (part.locked_has is.cell is.named) ∙ is.has;
      unlisted = unmarked_unlisted cells limit items t is.cell options are there off;
    }
