-- What a thread's locking found is there until it unlocks: nobody else puts that cell's block home.
use Rattle.std.proofs.Common.{◌≡◌, ◌≢◌, ◌⊎◌, ℕ, ◌<◌, ◌==◌, nat_lt, true, false, not, if◌then◌else◌, List, [], ◌∷◌}
use Rattle.std.proofs.Common.{length, set, get_or, Option, Some, None, refl, sym, ◌∙◌, ap, subst, inl, inr, arith}
use Rattle.std.proofs.lemmas.List.{get_or_push}
use Rattle.std.proofs.lemmas.Bool.{cases_eq, cases_Bool, ne_eqb, eqb-true, true≢false}
use Rattle.law.specs.declared.world.event.Change.{Change}
use Rattle.law.specs.declared.world.event.Event.{Event}
use Rattle.law.specs.declared.world.event.Source.TheVariants as sources
use Rattle.law.specs.declared.world.event.Step.{Step}
use Rattle.law.specs.declared.world.event.Step.TheVariants.{Birth, LocalUp, SharedUp, Lock, Unlock, Register, Gather}
use Rattle.law.specs.declared.world.row.Row.{Row}
use Rattle.law.specs.declared.world.row.Phase.TheVariants as phases
use Rattle.law.specs.world.Lists.{place_at, filled}
use Rattle.law.specs.known.Start.{start_of}
use Rattle.law.specs.world.Heap.{Heap, cell_at, row_at, frame_at, no_row, new_row, again_row, AreOptions}
use Rattle.law.specs.world.Sound.{IsSound}
use Rattle.law.specs.world.Steps.{enabled, after, after_target, root_after, root_may, thread_may, target_at, locked_at}
use Rattle.law.specs.world.Steps.{locked_cell, lock_ok, stepped, kept_cells, row_after, is_shut}
use Rattle.law.specs.world.Runs.{IsReached}
use Rattle.law.proofs.world.Asking.{May, may_parts, vacant}
use Rattle.law.proofs.world.Changes.{read_here}
use Rattle.law.proofs.world.Counting.{lock_stays}
use Rattle.law.proofs.world.Reached.{reached_sound}
use Rattle.law.proofs.world.Reusing.{fresh, reused, registers}
use Rattle.law.specs.lasting.Staying.{SameOwn, is_about}
use Rattle.law.proofs.lasting.Lasting.{others_own, locked_mutex, held_live, not_bearing}
use Rattle.law.proofs.known.Starting.{run_reached}
use Rattle.law.specs.known.Items.{MayCome, events_of, is_start}
use Rattle.law.proofs.known.Items_Runs.{events_run}
use Rattle.law.specs.declared.rule.contents.Contents.{Contents}
use Rattle.law.specs.declared.rule.told.Moved.{Moved}
use Rattle.law.specs.declared.rule.told.Moved.TheVariants as moves
use Rattle.law.specs.declared.rule.told.LogItem.{LogItem}
use Rattle.law.specs.declared.rule.told.LogItem.TheVariants.{Stepped, Loaded, Lost}
use Rattle.law.specs.rule.Logs.{item_of, Run, items_of, own_of, world, contents_at, puts, takes_of, MovesWith, IsMoved}
use Rattle.law.specs.rule.Logs.{IsLegal, keeps}
use Rattle.law.specs.rule.Seen.{contents_on, contents_locked}
use Rattle.law.proofs.rule.Own_Logs.{own_more, own_same}
use Rattle.law.proofs.rule.Stepping.{moved_on, no_start}

none_some : {A : Type 0} (a : A) → None ≡ Some a → ⊥
none_some a bad = absurd (cc)

-- ---- who puts home what is locked

-- nobody but the thread itself, by its unlocking
only_unlocks : (h : Heap) (t u : ℕ) (s : Step) (c : ℕ) → IsSound h → locked_at h t ≡ Some c → May h u s
    → puts h u s ≡ Some c → (u ≡ t) × ((change : Change) × (s ≡ Unlock change))
only_unlocks h t u (Birth d kind k) c sound named may is =
    let at = locked_mutex h t c sound named in
    absurd (not_bearing h u c d phases.Ready sound (inr (inr refl)) may.hand (number_same d c is)
    (held_live h c sound at.2))
  where
    number_same : (d c : ℕ) → Some d ≡ Some c → d ≡ c
    number_same d c e = cc
only_unlocks h t u (Unlock change) c sound named may is =
    (sym (locked_mutex h u c sound is).1 ∙ (locked_mutex h t c sound named).1, (change, refl))
only_unlocks h t u _ c sound named may is = absurd (cc)

-- ---- a thread's own lock over its own step

-- an unlocked thread stays unlocked, but for a Lock
still_open : (h : Heap) (t : ℕ) (s : Step) (c d : ℕ) → IsSound h → May h t s → (row_at h t).locked ≡ None
    → target_at h t s ≡ Some c → locked_at (stepped h t s c) t ≡ Some d
    → (k : ℕ) × (s ≡ Lock k) × (c ≡ d)
still_open h t (Lock k) c d sound may open_lock target now =
    let inside : t < length h.rows = may.inside in
    let row : row_at (stepped h t (Lock k) c) t ≡ row_after (Lock k) c (cell_at h c) (is_shut h c) (row_at h t) =
    read_here h.rows t _ no_row inside in
    let frame : frame_at (stepped h t (Lock k) c) t ≡ frame_at h t = read_here h.frames t _ []
    (omega (arith, sound.shaped.frames, inside)) in
    let is : place_at (frame_at h t) k ≡ Some d = sym (ap (λ (f : List (Option ℕ)). place_at f k) frame)
    ∙ sym (ap (λ (r : Row). locked_cell (frame_at (stepped h t (Lock k) c) t) r.locked) row) ∙ now in
    (k, refl, number_same c d (sym target ∙ is))
  where
    number_same : (c d : ℕ) → Some c ≡ Some d → c ≡ d
    number_same c d e = cc
still_open h t (Unlock change) c d sound may open_lock target now =
    absurd (none_some c (sym (ap (locked_cell (frame_at h t)) open_lock) ∙ target))
still_open h t s c d sound may open_lock target now =
    let row : row_at (stepped h t s c) t ≡ row_after s c (cell_at h c) (is_shut h c) (row_at h t) =
    read_here h.rows t _ no_row may.inside in
    absurd (none_some d (sym (ap (λ (r : Row). locked_cell (frame_at (stepped h t s c) t) r.locked) row
    ∙ ap (locked_cell (frame_at (stepped h t s c) t)) open_lock) ∙ now))

-- a locked thread keeps its lock, but for an Unlock
still_locked : (h : Heap) (t : ℕ) (s : Step) (c d k : ℕ) → IsSound h → May h t s → (row_at h t).locked ≡ Some k
    → locked_at (stepped h t s c) t ≡ Some d → locked_at h t ≡ Some d
still_locked h t (LocalUp (sources.Entry i) j) c d k sound may locked now =
    let s : Step = LocalUp (sources.Entry i) j in
    let row : row_at (stepped h t s c) t ≡ row_after s c (cell_at h c) (is_shut h c) (row_at h t) =
    read_here h.rows t _ no_row may.inside in
    let frame : frame_at (stepped h t s c) t ≡ filled (frame_at h t) j c = read_here h.frames t _ []
    (omega (arith, sound.shaped.frames, may.inside)) in
    ap (locked_cell (frame_at h t)) locked
    ∙ sym (lock_stays h t j c sound (vacant (frame_at h t) j may.own).none k locked)
    ∙ sym (ap (λ (f : List (Option ℕ)). place_at f k) frame)
    ∙ sym (ap (locked_cell (frame_at (stepped h t s c) t)) locked)
    ∙ sym (ap (λ (r : Row). locked_cell (frame_at (stepped h t s c) t) r.locked) row) ∙ now
still_locked h t (SharedUp (sources.Entry i) j) c d k sound may locked now =
    let s : Step = SharedUp (sources.Entry i) j in
    let row : row_at (stepped h t s c) t ≡ row_after s c (cell_at h c) (is_shut h c) (row_at h t) =
    read_here h.rows t _ no_row may.inside in
    let frame : frame_at (stepped h t s c) t ≡ filled (frame_at h t) j c = read_here h.frames t _ []
    (omega (arith, sound.shaped.frames, may.inside)) in
    ap (locked_cell (frame_at h t)) locked
    ∙ sym (lock_stays h t j c sound (vacant (frame_at h t) j may.own).none k locked)
    ∙ sym (ap (λ (f : List (Option ℕ)). place_at f k) frame)
    ∙ sym (ap (locked_cell (frame_at (stepped h t s c) t)) locked)
    ∙ sym (ap (λ (r : Row). locked_cell (frame_at (stepped h t s c) t) r.locked) row) ∙ now
still_locked h t (Unlock change) c d k sound may locked now =
    let s : Step = Unlock change in
    let row : row_at (stepped h t s c) t ≡ row_after s c (cell_at h c) (is_shut h c) (row_at h t) =
    read_here h.rows t _ no_row may.inside in
    absurd (none_some d (sym (ap (λ (r : Row). locked_cell (frame_at (stepped h t s c) t) r.locked) row) ∙ now))
still_locked h t s c d k sound may locked now =
    absurd (true≢false (sym (sym (ap (λ l. lock_ok l s) locked) ∙ may.lock)))

-- a step on no cell
off_cells : (h : Heap) (t : ℕ) (s : Step) (d : ℕ) → May h t s → locked_at (kept_cells h t s) t ≡ Some d
    → locked_at h t ≡ Some d
off_cells h t s d may now =
    sym (ap (λ l. locked_cell (frame_at h t) l)
    (ap (λ (r : Row). r.locked) (read_here h.rows t _ no_row may.inside))) ∙ now

-- an own step: the cell was locked before, or the step locks it
own_lock : (h : Heap) (t : ℕ) (s : Step) (o : Option ℕ) (d : ℕ) → IsSound h → May h t s → target_at h t s ≡ o
    → locked_at (after_target h t s o) t ≡ Some d
    → (locked_at h t ≡ Some d) ⊎ ((k : ℕ) × (s ≡ Lock k) × (o ≡ Some d))
own_lock h t s None d sound may target now = inl (off_cells h t s d may now)
own_lock h t s (Some c) d sound may target now = by_lock (row_at h t).locked refl
  where
    by_lock : (l : Option ℕ) → (row_at h t).locked ≡ l
        → (locked_at h t ≡ Some d) ⊎ ((k : ℕ) × (s ≡ Lock k) × (Some c ≡ Some d))
    by_lock None is =
        let lock = still_open h t s c d sound may is target now in
        inr (lock.0, lock.1, ap Some lock.2)
    by_lock (Some k) is = inl (still_locked h t s c d k sound may is now)

-- ---- over runs

-- what isn't put home is as it was
pub not_put : (run : Run) (t : ℕ) (s : Step) (number : ℕ) (moved : Moved) (h : Heap) (c : ℕ) → MovesWith h run t s moved
    → (puts h t s ≡ Some c → ⊥)
    → contents_at ((t, Stepped s number moved) ∷ run) c ≡ contents_at run c
not_put run t s number moves.Nothing h c goes other = refl
not_put run t s number (moves.Found d contents) h c goes other = refl
not_put run t s number (moves.Put d contents) h c goes other = ap (λ b. if b then contents else contents_at run c)
    (ne_eqb d c (λ same. other (goes.cell ∙ ap Some same)))

-- the log says what its thread's locked cell has
Says : Run → ℕ → ℕ → Type 0
Says run t c = contents_locked (own_of t run) ≡ Some (contents_at run c)

-- a step that keeps the lock keeps what was found
kept_found : (s : Step) (number : ℕ) (moved : Moved) (before : Option Contents) → ((k : ℕ) → s ≢ Lock k)
    → ((change : Change) → s ≢ Unlock change) → contents_on (Stepped s number moved) before ≡ before
kept_found (Lock k) number moved before no_lock no_unlock = absurd (no_lock k refl)
kept_found (Unlock change) number moved before no_lock no_unlock = absurd (no_unlock change refl)
kept_found _ number moved before no_lock no_unlock = refl

-- an unlocked thread has no locked cell
unlocks_open : (h : Heap) (t : ℕ) (change : Change) (o : Option ℕ) (d : ℕ) → May h t (Unlock change)
    → target_at h t (Unlock change) ≡ o → locked_at (after_target h t (Unlock change) o) t ≡ Some d → ⊥
unlocks_open h t change None d may target now = none_some d (sym target ∙ off_cells h t (Unlock change) d may now)
unlocks_open h t change (Some c) d may target now =
    let row : row_at (stepped h t (Unlock change) c) t ≡ row_after (Unlock change) c (cell_at h c) (is_shut h c)
    (row_at h t) = read_here h.rows t _ no_row may.inside in
    none_some d (sym (ap (λ (r : Row). locked_cell (frame_at (stepped h t (Unlock change) c) t) r.locked) row) ∙ now)

-- who has locked doesn't lock
locks_once : (h : Heap) (t k c : ℕ) → May h t (Lock k) → locked_at h t ≡ Some c → ⊥
locks_once h t k c may named = by_lock (row_at h t).locked refl
  where
    by_lock : (l : Option ℕ) → (row_at h t).locked ≡ l → ⊥
    by_lock None is = none_some c (sym (ap (locked_cell (frame_at h t)) is) ∙ named)
    by_lock (Some j) is = true≢false (sym (sym (ap (λ l. lock_ok l (Lock k)) is) ∙ may.lock))

found_there : (run : Run) (h : Heap) (t k number c : ℕ) (moved : Moved) → target_at h t (Lock k) ≡ Some c
    → MovesWith h run t (Lock k) moved
    → (before : Option Contents) → contents_on (Stepped (Lock k) number moved) before ≡ Some
    (contents_at ((t, Stepped (Lock k) number moved) ∷ run) c)
found_there run h t k number c moves.Nothing target goes before =
    absurd (none_some c (sym goes.1 ∙ ap (takes_of h (Lock k)) target))
found_there run h t k number c (moves.Put d contents) target goes before =
    absurd (none_some c (sym goes.finds_none ∙ ap (takes_of h (Lock k)) target))
found_there run h t k number c (moves.Found d contents) target goes before =
    ap Some (goes.there ∙ ap (contents_at run) (same_cell d c (sym goes.cell ∙ ap (takes_of h (Lock k)) target)))
  where
    same_cell : (d c : ℕ) → Some d ≡ Some c → d ≡ c
    same_cell d c e = cc

no_about : (h : Heap) (u : ℕ) (s : Step) (t : ℕ) → May h u s → is_about t s ≡ false
no_about h u (Register v) t may = absurd (true≢false (sym may.hand))
no_about h u (Gather v) t may = absurd (true≢false (sym may.hand))
no_about h u _ t may = refl

-- a thread that is registered has locked nothing
registered_unlocked : (h : Heap) (v : ℕ) → IsSound h → root_may h (Register v) ≡ true
    → (row_at (root_after h (Register v)) v).locked ≡ None
registered_unlocked h v sound may = elim (registers h v sound may) [
  | fresh next most few is ↦ ap (λ z. (row_at z v).locked) is
      ∙ ap (λ (r : Row). r.locked) (get_or_push h.rows new_row no_row v (sym next))
  | reused vacated few is ↦ ap (λ z. (row_at z v).locked) is
      ∙ ap (λ (r : Row). r.locked) (read_here h.rows v again_row no_row vacated.inside)
]

module _ (n limit : ℕ) where
  -- the thread's own step
  own_says : (run : Run) (t : ℕ) (s : Step) (number : ℕ) (moved : Moved) (c : ℕ) → IsSound (world n limit run)
      → May (world n limit run) t s → MovesWith (world n limit run) run t s moved
      → (locked_at (world n limit run) t ≡ Some c → Says run t c) → locked_at (moved_on (world n limit run) t s) t
      ≡ Some c → Says ((t, Stepped s number moved) ∷ run) t c
  unfolding Says
  own_says run t s number moved c sound may goes before now =
      let h : Heap = world n limit run in
      ap contents_locked (own_more t (Stepped s number moved) run (no_start h t s number moved may t))
      ∙ elim (own_lock h t s (target_at h t s) c sound may refl now) [
        | inr locks ↦
            subst (λ z. MovesWith h run t z moved → target_at h t z ≡ Some c
            → contents_on (Stepped z number moved) (contents_locked (own_of t run)) ≡ Some
            (contents_at ((t, Stepped z number moved) ∷ run) c)) (sym locks.1)
            (λ goes target. found_there run h t locks.0 number c moved target goes (contents_locked (own_of t run)))
            goes locks.2
        | inl named ↦
            let no_unlock : (change : Change) → s ≢ Unlock change = λ change is. unlocks_open h t change
            (target_at h t (Unlock change)) c (subst (May h t) is may) refl
            (subst (λ z. locked_at (moved_on h t z) t ≡ Some c) is now) in
            let no_lock : (k : ℕ) → s ≢ Lock k = λ k is. locks_once h t k c (subst (May h t) is may) named in
            kept_found s number moved (contents_locked (own_of t run)) no_lock no_unlock ∙ before named
            ∙ ap Some (sym (not_put run t s number moved h c goes
            (λ is. let who = only_unlocks h t t s c sound named may is in no_unlock who.1.0 who.1.1)))
      ]

  -- another's event
  others_says : (run : Run) (t u : ℕ) (s : Step) (number : ℕ) (moved : Moved) (c : ℕ) → u ≢ t
      → is_start t (item_of (Stepped s number moved)) ≡ false → MovesWith (world n limit run) run u s moved
      → (puts (world n limit run) u s ≡ Some c → ⊥) → Says run t c → Says ((u, Stepped s number moved) ∷ run) t c
  unfolding Says
  others_says run t u s number moved c other older goes no_put before =
      ap contents_locked (own_same u t (Stepped s number moved) run older other) ∙ before
      ∙ ap Some (sym (not_put run u s number moved (world n limit run) c goes no_put))

  -- what lasts of the thread's frame and row
  still_named : (h new : Heap) (t c : ℕ) → SameOwn t h new → locked_at new t ≡ Some c → locked_at h t ≡ Some c
  still_named h new t c same now = sym (ap (λ (f : List (Option ℕ)). locked_cell f (row_at h t).locked) same.frame)
      ∙ sym (ap (λ (r : Row). locked_cell (frame_at new t) r.locked) same.row) ∙ now

  root_says : (run : Run) (t : ℕ) (s : Step) (number : ℕ) (moved : Moved) (c : ℕ) → IsSound (world n limit run)
      → root_may (world n limit run) s ≡ true → enabled (world n limit run) (record { thread = 0; step = s }) ≡ true
      → MovesWith (world n limit run) run 0 s moved → (locked_at (world n limit run) t ≡ Some c → Says run t c)
      → locked_at (root_after (world n limit run) s) t ≡ Some c → 0 < t → Says ((0, Stepped s number moved) ∷ run) t c
  root_says run t (Gather v) number moved c sound ok on goes before now some_thread =
      others_says run t 0 (Gather v) number moved c (λ e. omega (arith, e, some_thread)) refl goes
      (λ bad. none_some c bad) (before now)
  root_says run t (Register v) number moved c sound ok on goes before now some_thread = elim (cases_Bool (v == t)) [
    | inr apart ↦
        let h : Heap = world n limit run in
        let e : Event = record { thread = 0; step = Register v } in
        let same : SameOwn t h (after h e) = others_own h e t sound on
        (record { other = λ e. omega (arith, e, some_thread); apart = apart }) in
        others_says run t 0 (Register v) number moved c (λ e. omega (arith, e, some_thread)) apart goes
        (λ bad. none_some c bad) (before (still_named h (after h e) t c same now))
    | inl mine ↦
        let h : Heap = world n limit run in
        let none : (row_at (root_after h (Register v)) t).locked ≡ None =
        ap (λ i. (row_at (root_after h (Register v)) i).locked) (sym (eqb-true v t mine))
        ∙ registered_unlocked h v sound ok in
        absurd (none_some c (sym (ap (locked_cell (frame_at (root_after h (Register v)) t)) none) ∙ now))
  ]
  root_says run t s number moved c sound ok on goes before now some_thread = absurd (true≢false (sym ok))

  -- a note leaves all as it is
  noted_says : (run : Run) (t u : ℕ) (x : LogItem) (c : ℕ) → ((v : ℕ) → is_start v (item_of x) ≡ false)
      → ((before : Option Contents) → contents_on x before ≡ before) → contents_at ((u, x) ∷ run) c ≡ contents_at run c
      → Says run t c → Says ((u, x) ∷ run) t c
  unfolding Says
  noted_says run t u x c older same here before = elim (cases_eq u t) [
    | inl mine ↦ subst (λ v. contents_locked (own_of t ((v, x) ∷ run)) ≡ Some (contents_at ((u, x) ∷ run) c)) (sym mine)
        (ap contents_locked (own_more t x run (older t)) ∙ same (contents_locked (own_of t run)) ∙ before
        ∙ ap Some (sym here))
    | inr other ↦ ap contents_locked (own_same u t x run (older t) other) ∙ before ∙ ap Some (sym here)
  ]

  step_says : (run : Run) (t u : ℕ) (s : Step) (number : ℕ) (moved : Moved) (c : ℕ) → IsSound (world n limit run)
      → enabled (world n limit run) (record { thread = u; step = s }) ≡ true
      → MovesWith (world n limit run) run u s moved → 0 < t → (locked_at (world n limit run) t ≡ Some c → Says run t c)
      → locked_at (after (world n limit run) (record { thread = u; step = s })) t ≡ Some c
      → Says ((u, Stepped s number moved) ∷ run) t c
  step_says run t u s number moved c sound ok goes some_thread before now =
      let h : Heap = world n limit run in
      let walked : Heap = moved_on h u s in
      elim (cases_Bool (u == 0)) [
        | inl root ↦
            let is : after h (record { thread = u; step = s }) ≡ root_after h s =
            ap (λ b. if b then root_after h s else walked) root in
            let zero_is : u ≡ 0 = eqb-true u 0 root in
            subst (λ v. Says ((v, Stepped s number moved) ∷ run) t c) (sym zero_is)
            (root_says run t s number moved c sound
            (subst (λ b. (if b then root_may h s else thread_may h u s) ≡ true) root ok)
            (subst (λ v. enabled h (record { thread = v; step = s }) ≡ true) zero_is ok)
            (subst (λ v. MovesWith h run v s moved) zero_is goes) before
            (sym (ap (λ z. locked_at z t) is) ∙ now) some_thread)
        | inr thread ↦
            let is : after h (record { thread = u; step = s }) ≡ walked =
            ap (λ b. if b then root_after h s else walked) thread in
            let may : May h u s = may_parts h u s
            (subst (λ b. (if b then root_may h s else thread_may h u s) ≡ true) thread ok) in
            elim (cases_eq u t) [
              | inl mine ↦ subst (λ v. Says ((v, Stepped s number moved) ∷ run) t c) (sym mine)
                  (own_says run t s number moved c sound (subst (λ v. May h v s) mine may)
                  (subst (λ v. MovesWith h run v s moved) mine goes) before
                  (subst (λ v. locked_at (moved_on h v s) t ≡ Some c) mine (sym (ap (λ z. locked_at z t) is) ∙ now)))
              | inr other ↦
                  let same : SameOwn t h (after h (record { thread = u; step = s })) =
                  others_own h (record { thread = u; step = s }) t sound ok
                  (record { other = other; apart = no_about h u s t may }) in
                  let named : locked_at h t ≡ Some c = still_named h (after h (record { thread = u; step = s })) t c
                  same now in
                  others_says run t u s number moved c other (no_start h u s number moved may t) goes
                  (λ bad. other (only_unlocks h t u s c sound named may bad).0) (before named)
            ]
      ]

  item_says : (run : Run) (t u : ℕ) (x : LogItem) (c : ℕ) → IsSound (world n limit run)
      → MayCome (world n limit run) u (item_of x) → IsMoved (world n limit run) run u x → 0 < t
      → (locked_at (world n limit run) t ≡ Some c → Says run t c) → locked_at (world n limit ((u, x) ∷ run)) t ≡ Some c
      → Says ((u, x) ∷ run) t c
  item_says run t u (Stepped s number moved) c sound comes goes some_thread before now =
      step_says run t u s number moved c sound comes.0 goes some_thread before now
  item_says run t u (Loaded word number) c sound comes goes some_thread before now = noted_says run t u
      (Loaded word number) c
      (λ v. refl) (λ b. refl) refl (before now)
  item_says run t u (Lost word number) c sound comes goes some_thread before now =
      noted_says run t u (Lost word number) c (λ v. refl) (λ b. refl) refl (before now)

  says : (run : Run) (t c : ℕ) → AreOptions n limit → IsLegal n limit run → 0 < t
      → locked_at (world n limit run) t ≡ Some c → Says run t c
  says [] t c options legal some_thread named =
      absurd (none_some c (sym (ap (λ (r : Row). locked_cell (frame_at (start_of n limit) t) r.locked)
      (opening_row t)) ∙ named))
    where
      opening_row : (t : ℕ) → row_at (start_of n limit) t ≡ no_row
      opening_row Rattle.std.proofs.Common.zero = refl
      opening_row (Rattle.std.proofs.Common.suc t) = refl
  says (x ∷ run) t c options legal some_thread named =
      let older : IsLegal n limit run = record { items = legal.items.0; moved = legal.moved.0 } in
      let reached : IsReached (world n limit run) = run_reached n limit (events_of (items_of run)) options
      (events_run (start_of n limit) (items_of run) older.items) in
      item_says run t x.0 x.1 c (reached_sound (world n limit run) reached) legal.items.1 legal.moved.1 some_thread
      (says run t c options older some_thread) named

  -- what the thread's locking found in the locked cell is what was put home there last
  pub locked_contents : (run : Run) (t c : ℕ) → AreOptions n limit → IsLegal n limit run → 0 < t
      → locked_at (world n limit run) t ≡ Some c → contents_locked (own_of t run) ≡ Some (contents_at run c)
  unfolding Says
  locked_contents run t c options legal some_thread named = says run t c options legal some_thread named

-- what a step finds, and what an unlock keeps, is what was put home last
pub found_is_put : (n limit : ℕ) (run : Run) (t : ℕ) (s : Step) (number c : ℕ) (p : Contents)
    → IsLegal n limit ((t, Stepped s number (moves.Found c p)) ∷ run) → p ≡ contents_at run c
found_is_put n limit run t s number c p legal = legal.moved.1.there

pub kept_is_put : (n limit : ℕ) (run : Run) (t : ℕ) (s : Step) (number c : ℕ) (p : Contents)
    → IsLegal n limit ((t, Stepped s number (moves.Put c p)) ∷ run) → keeps s ≡ true → p ≡ contents_at run c
kept_is_put n limit run t s number c p legal keep = legal.moved.1.kept keep
