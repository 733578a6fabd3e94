-- Locks: an object is locked, and changed as it is unlocked, entries and places of the frame together.
use Rattle.std.proofs.Common.{◌≡◌, ◌≢◌, ℕ, ◌+◌, ◌-◌, ◌<◌, ◌≤◌, ◌==◌, ◌||◌, Bool, true, false, if◌then◌else◌, List, []}
use Rattle.std.proofs.Common.{◌∷◌, ◌++◌, length, get_or, set, Option, Some, None, sum_by, refl, sym, ◌∙◌, ap, subst}
use Rattle.std.proofs.Common.{inl, inr, arith, length-append, replicate, append-nil}
use Rattle.std.proofs.lemmas.List.{get_or-set_same, get_or-set_other, length-set, get_or_past, set-get_or}
use Rattle.std.proofs.lemmas.List.Edits.{length-remove}
use Rattle.std.proofs.lemmas.List.Sums.{sum_by-set, sum_by-append, sum_by-remove}
use Rattle.std.proofs.lemmas.Bool.{cases_eq, cases_lt, cases_Bool, eqb-true, and_parts, ltb-true, true≢false}
use Rattle.std.proofs.lemmas.Int.{ints}
use Rattle.brc_words.specs.declared.limits.TheConstants.{FIRST_MORTAL, GLOBALS, MOST_ENTRIES, MOST_PLACES}
use Rattle.brc_words.specs.declared.kind.Kind.{Kind}
use Rattle.brc_words.specs.declared.kind.Kind.TheVariants as kinds
use Rattle.brc_words.specs.Kinds.{is_container}
use Rattle.law.specs.declared.world.cell.Cell.{Cell}
use Rattle.law.specs.declared.world.event.Change.{Change}
use Rattle.law.specs.declared.world.event.Change.TheVariants as changes
use Rattle.law.specs.declared.world.event.Step.{Step}
use Rattle.law.specs.declared.world.event.Step.TheVariants.{Lock, Unlock}
use Rattle.law.specs.declared.world.row.Row.{Row}
use Rattle.law.specs.declared.world.row.Hand.TheVariants as hands
use Rattle.law.specs.declared.world.row.Stage.TheVariants as stages
use Rattle.law.specs.world.Lists.{one, times, names, entry_times, place_at, filled, reaching, number_in}
use Rattle.law.specs.world.Heap.{Heap, cell_at, entries_at, row_at, frame_at, popped_at, worklist_at, no_cell, no_row}
use Rattle.law.specs.world.Heap.{is_gathered, immortal_kind}
use Rattle.law.specs.world.Steps.{after_target, target_ok, locked_cell, change_ok, locked_entries, is_keep}
use Rattle.law.specs.world.Steps.{frame_changed, entries_changed}
use Rattle.law.specs.world.Holding.{lives}
use Rattle.law.specs.world.Sound.{IsSound, CellFits, ImmortalFits, WorklistFits, Locks, in_entries, rests_at}
use Rattle.law.proofs.world.Naming.{some_there, free_hand, same_phase}
use Rattle.law.proofs.world.Framing.{times-filled, times-vacated, length-filled, length-vacated}
use Rattle.law.proofs.world.Asking.{May, OnCell, on_cell, Vacant, vacant}
use Rattle.law.proofs.world.Birthing.{active_from, active_fits, no_lock}
use Rattle.law.proofs.world.Changes.{New, Fits, Fewer, LocksFit, changed, changed_sound, same_entries, same_bits}
use Rattle.law.proofs.world.Changes.{kept_bits, read_by, read_here, read_there, kept_resting}
use Rattle.law.proofs.world.Merging.{held_owner}
use Rattle.law.proofs.world.Dropping.{held_by_place}

-- ---- no clause but the two on locks looks at the mutex

mutex_work : (m t q : ℕ) (x : Cell) → WorklistFits t q x → WorklistFits t q (record x { mutex = m })
mutex_work m t q x fits = record { mortal = fits.mortal; lives = fits.lives; total = fits.total; whose = fits.whose }

mutex_cell : (m threads limit : ℕ) (resting : ℕ → Bool) (x : Cell) (old new : List ℕ)
    → (lives x.owner ≡ false → new ≡ []) → (is_container x.kind ≡ false → new ≡ []) → length new ≤ MOST_ENTRIES
    → CellFits threads limit resting x old → CellFits threads limit resting (record x { mutex = m }) new
mutex_cell m threads limit resting x old new dead plain few fits = record {
  default = fits.default;
  owned_unmerged = fits.owned_unmerged;
  owned_by_bearer = fits.owned_by_bearer;
  rested = fits.rested;
  dead_empty = dead;
  dead_count = fits.dead_count;
  born = fits.born;
  limited = fits.limited;
  plain = plain;
  few = few;
}

mutex_immortal : (m c : ℕ) (x : Cell) (old new : List ℕ) → (c ≢ GLOBALS → new ≡ []) → length new ≤ MOST_ENTRIES
    → ImmortalFits c x old → ImmortalFits c (record x { mutex = m }) new
mutex_immortal m c x old new empty few fits = record {
  owner = fits.owner;
  local = fits.local;
  count = fits.count;
  state = fits.state;
  kind = fits.kind;
  empty = empty;
  few = few;
}

-- ---- a step that changes one cell's mutex, the thread's lock, its frame and the cell's entries

record Turns (h : Heap) (t c m : ℕ) (locked : Option ℕ) (f : List (Option ℕ)) (es : List ℕ) : Type 0 where
  thread : 0 < t
  inside : t < length h.rows
  cell_inside : c < length h.cells
  active : (row_at h t).stage ≡ stages.Active
  here : is_gathered h t ≡ false
  free : (row_at h t).hand ≡ hands.Free
  -- what leaves the frame joins the entries, and the other way round
  moved : (q : ℕ) → times q f + entry_times q es ≡ times q (frame_at h t) + entry_times q (entries_at h c)
  dead : FIRST_MORTAL ≤ c → lives (cell_at h c).owner ≡ false → es ≡ []
  plain : FIRST_MORTAL ≤ c → is_container (cell_at h c).kind ≡ false → es ≡ []
  immortal : c < FIRST_MORTAL → c ≢ GLOBALS → es ≡ []
  few : length es ≤ MOST_ENTRIES
  places : length f ≤ MOST_PLACES

abbrev turned : Heap → ℕ → ℕ → ℕ → Option ℕ → List (Option ℕ) → List ℕ → New
turned h t c m locked f es = record {
  cell = record (cell_at h c) { mutex = m };
  row = record (row_at h t) { locked = locked };
  frame = f;
  popped = popped_at h t;
  worklist = worklist_at h t;
  entries = set h.entries c es;
  queues = h.queues;
  past_allocs = h.past_allocs;
  past_frees = h.past_frees;
}

turned_fits : (h : Heap) (t c m : ℕ) (locked : Option ℕ) (f : List (Option ℕ)) (es : List ℕ) → IsSound h
    → Turns h t c m locked f es → LocksFit (changed h t c (turned h t c m locked f es))
    → Fits h t c (turned h t c m locked f es)
turned_fits h t c m locked f es sound turns locks =
    let at_entries : c < length h.entries = omega (arith, sound.shaped.entries, turns.cell_inside) in
    let here : get_or (set h.entries c es) c [] ≡ es = get_or-set_same h.entries c es [] at_entries in
    let sum : (q : ℕ) → sum_by (entry_times q) (set h.entries c es) + entry_times q (entries_at h c) ≡ in_entries h q
    + entry_times q es = λ q. sum_by-set (entry_times q) h.entries c es [] at_entries in
    let here_fits : FIRST_MORTAL ≤ c → CellFits (length h.rows) h.limit (rests_at h)
    (record (cell_at h c) { mutex = m }) (get_or (set h.entries c es) c []) = λ mortal.
    subst (λ xs. CellFits (length h.rows) h.limit (rests_at h) (record (cell_at h c) { mutex = m }) xs) (sym here)
    (mutex_cell m _ _ _ (cell_at h c) (entries_at h c) es (turns.dead mortal) (turns.plain mortal) turns.few
    (sound.cells c mortal)) in
    record {
      thread = turns.thread;
      thread_inside = turns.inside;
      cell_inside = turns.cell_inside;
      marks = refl;
      lists = length-set h.entries c es;
      words = refl;
      queues = refl;
      queue_words = λ s. refl;
      counted_here = λ _. omega (arith, ints, turns.moved c, sum c);
      counted_else = λ q _ _. omega (arith, turns.moved q, sum q);
      gripped_here = λ _. refl;
      gripped_else = λ q _ _. refl;
      most_here = λ mortal. omega (arith, sound.most c mortal);
      least_here = λ mortal. omega (arith, sound.least c mortal);
      asks_else = λ q _ _. refl;
      offers_else = λ q _ _. refl;
      hand = λ p d e. let bad : hands.Free ≡ hands.Busy p d = sym turns.free ∙ e in absurd (cc);
      hands_else = λ s p _ busy. same_phase h.edition s (row_at h s) (popped_at h s) (cell_at h c)
          (record (cell_at h c) { mutex = m }) _ c p refl refl refl refl (sound.hands s c p busy).fits;
      cell = here_fits;
      immortal = λ low. subst (λ xs. ImmortalFits c (record (cell_at h c) { mutex = m }) xs) (sym here)
          (mutex_immortal m c (cell_at h c) (entries_at h c) es (turns.immortal low) turns.few (sound.immortals c low));
      fewer = λ q ne. subst (λ xs. Fewer (entries_at h q) xs) (sym (get_or-set_other h.entries c q es [] ne))
          (same_entries (entries_at h q));
      works_here = λ on. mutex_work m t c (cell_at h c) (sound.worklists t c on);
      works_own = λ q _ on. on;
      works_else = λ s _ on. mutex_work m s c (cell_at h c) (sound.worklists s c on);
      closes = λ _ k closed. closed;
      resting = kept_resting h t c (record (cell_at h c) { mutex = m }) (set h.entries c es) (row_at h t).stage sound
          turns.cell_inside refl here_fits;
      own = active_fits _ _ (row_at h t) (record (row_at h t) { locked = locked }) (frame_at h t) f _ (worklist_at h t)
          (worklist_at h t) _ _ turns.active turns.here refl
          (λ k _. turns.free) (sound.threads t).births turns.places;
      queues_else = λ s k _. (sound.threads s).closed k;
      bits = same_bits h t c (turned h t c m locked f es) sound turns.cell_inside (kept_bits h t sound turns.inside)
          (inl refl);
      locks = locks;
      ledger = refl;
      past = sound.past.0;
    }

-- the place whose cell the thread has locked
pub lock_place : (h : Heap) (t c : ℕ) (o : Option ℕ) → locked_cell (frame_at h t) o ≡ Some c → (row_at h t).locked ≡ o
    → (k : ℕ) × ((row_at h t).locked ≡ Some k) × (place_at (frame_at h t) k ≡ Some c)
lock_place h t c None named is = absurd (cc)
lock_place h t c (Some k) named is = (k, is, named)

-- no cell has too many entries
pub any_few : (h : Heap) (c : ℕ) → IsSound h → length (entries_at h c) ≤ MOST_ENTRIES
any_few h c sound = elim (cases_lt c FIRST_MORTAL) [
  | inl low ↦ (sound.immortals c low).few
  | inr high ↦ (sound.cells c high).few
]

-- ---- locking

unlocked_mutex : (h : Heap) (t c k : ℕ) → IsSound h → 0 < t → t < length h.rows → c < length h.cells
    → (row_at h t).locked ≡ None → (cell_at h c).mutex ≡ 0 → place_at (frame_at h t) k ≡ Some c
    → LocksFit (changed h t c (turned h t c t (Some k) (frame_at h t) (entries_at h c)))
unlocked_mutex h t c k sound some inside cell_inside unlocked vacant_mutex named =
    let n : New = turned h t c t (Some k) (frame_at h t) (entries_at h c) in
    let h' : Heap = changed h t c n in
    let frames : (j : ℕ) → frame_at h' j ≡ frame_at h j = read_by (λ j frame. frame ≡ frame_at h j) h.frames t
    (frame_at h t) [] (omega (arith, sound.shaped.frames, inside)) refl (λ j _. refl) in
    let own_row : (row_at h' t).locked ≡ Some k = ap (λ (row : Row). row.locked)
    (read_here h.rows t n.row no_row inside) in
    let rows : (j : ℕ) → j ≢ t → (row_at h' j).locked ≡ (row_at h j).locked = λ j ne. ap (λ (row : Row). row.locked)
    (read_there h.rows t j n.row no_row ne) in
    let own_cell : (cell_at h' c).mutex ≡ t = ap (λ (x : Cell). x.mutex)
    (read_here h.cells c n.cell no_cell cell_inside) in
    let cells : (q : ℕ) → q ≢ c → (cell_at h' q).mutex ≡ (cell_at h q).mutex = λ q ne. ap (λ (x : Cell). x.mutex)
    (read_there h.cells c q n.cell no_cell ne) in
    let own : (s : ℕ) → s ≡ t → Locks h' s k c = λ s same. subst (λ j. Locks h' j k c) (sym same)
    (record { thread = some; place = own_row; names = ap (λ f. place_at f k) (frames t) ∙ named }) in
    record {
      locks = λ s j locked. elim (cases_eq s t) [
        | inl same ↦
            let e : Some k ≡ Some j = sym own_row ∙ ap (λ i. (row_at h' i).locked) (sym same) ∙ locked in
            let kj : k ≡ j = cc in
            (c, subst (λ i. Locks h' s i c) kj (own s same), own_cell ∙ sym same)
        | inr other ↦
            let old : (q : ℕ) × Locks h s j q × ((cell_at h q).mutex ≡ s) = sound.locks s j (sym (rows s other)
            ∙ locked) in (
              old.0,
              record {
                thread = old.1.thread;
                place = locked;
                names = ap (λ f. place_at f j) (frames s)
                    ∙ old.1.names;
              },
              cells old.0 (λ e. omega (
                arith,
                old.1.thread,
                old.2,
                vacant_mutex,
                ap (λ i. (cell_at h i).mutex) e,
              )) ∙ old.2,
            )
      ];
      mutexes = λ s q positive is. elim (cases_eq q c) [
        | inl same ↦ (
          k,
          subst (λ i. Locks h' s k i) (sym same)
              (own s (sym is ∙ ap (λ i. (cell_at h' i).mutex) same ∙ own_cell)),
        )
        | inr other ↦
            let old : (j : ℕ) × Locks h s j q = sound.mutexes s q positive (sym (cells q other) ∙ is) in (
              old.0,
              record {
                thread = positive;
                place = rows s (λ same. let e : None ≡ Some old.0 = sym unlocked
                    ∙ ap (λ i. (row_at h i).locked) (sym same) ∙ old.1.place in absurd (cc)) ∙ old.1.place;
                names = ap (λ f. place_at f old.0) (frames s) ∙ old.1.names;
              },
            )
      ];
    }

pub lock_sound : (h : Heap) (t k : ℕ) (o : Option ℕ) → IsSound h → May h t (Lock k) → place_at (frame_at h t) k ≡ o
    → target_ok h t (row_at h t) (Lock k) o ≡ true
    → IsSound (after_target h t (Lock k) o)
lock_sound h t k None sound may named ok = absurd (true≢false (sym ok))
lock_sound h t k (Some c) sound may named ok =
    let at_cell : OnCell h t (Lock k) c = on_cell h t (Lock k) c ok in
    let n : New = turned h t c t (Some k) (frame_at h t) (entries_at h c) in
    let fits : Fits h t c n = turned_fits h t c t (Some k) (frame_at h t) (entries_at h c) sound (record {
      thread = may.some_thread;
      inside = may.inside;
      cell_inside = at_cell.inside;
      active = active_from _ (Lock k) may.stage refl refl refl;
      here = may.not_gathered;
      free = free_hand _ may.hand;
      moved = λ q. refl;
      dead = λ mortal. (sound.cells c mortal).dead_empty;
      plain = λ mortal. (sound.cells c mortal).plain;
      immortal = λ low. (sound.immortals c low).empty;
      few = any_few h c sound;
      places = (sound.threads t).places;
    }) (unlocked_mutex h t c k sound may.some_thread may.inside at_cell.inside (no_lock _ (Lock k) may.lock refl)
    (eqb-true _ _ at_cell.fits) named) in
    subst (λ entries. IsSound
    (record h {
      cells = set h.cells c n.cell;
      entries = entries;
      rows = set h.rows t n.row;
      frames = set h.frames t
          (frame_at h t);
      popped = set h.popped t (popped_at h t);
      worklists = set h.worklists t (worklist_at h t);
    }))
    (set-get_or h.entries c []) (changed_sound h t c n sound fits)

-- ---- unlocking

-- the thread's lock goes, and with it the one cell's mutex
released_mutex : (h : Heap) (t c k : ℕ) (f : List (Option ℕ)) (es : List ℕ) → IsSound h → t < length h.rows
    → c < length h.cells → (row_at h t).locked ≡ Some k → place_at (frame_at h t) k ≡ Some c
    → LocksFit (changed h t c (turned h t c 0 None f es))
released_mutex h t c k f es sound inside cell_inside locked named =
    let n : New = turned h t c 0 None f es in
    let h' : Heap = changed h t c n in
    let lock : (q : ℕ) × Locks h t k q × ((cell_at h q).mutex ≡ t) = sound.locks t k locked in
    let is_c : lock.0 ≡ c = let e : Some lock.0 ≡ Some c = sym lock.1.names ∙ named in cc in
    let mutex : (cell_at h c).mutex ≡ t = ap (λ i. (cell_at h i).mutex) (sym is_c) ∙ lock.2 in
    let frames : (j : ℕ) → j ≢ t → frame_at h' j ≡ frame_at h j = λ j ne. read_there h.frames t j f [] ne in
    let own_row : (row_at h' t).locked ≡ None = ap (λ (row : Row). row.locked)
    (read_here h.rows t n.row no_row inside) in
    let rows : (j : ℕ) → j ≢ t → (row_at h' j).locked ≡ (row_at h j).locked = λ j ne. ap (λ (row : Row). row.locked)
    (read_there h.rows t j n.row no_row ne) in
    let own_cell : (cell_at h' c).mutex ≡ 0 = ap (λ (x : Cell). x.mutex)
    (read_here h.cells c n.cell no_cell cell_inside) in
    let cells : (q : ℕ) → q ≢ c → (cell_at h' q).mutex ≡ (cell_at h q).mutex = λ q ne. ap (λ (x : Cell). x.mutex)
    (read_there h.cells c q n.cell no_cell ne) in
    record {
      locks = λ s j is. elim (cases_eq s t) [
        | inl same ↦ absurd (let e : None ≡ Some j = sym own_row ∙ ap (λ i. (row_at h' i).locked) (sym same) ∙ is in cc)
        | inr other ↦
            let old : (q : ℕ) × Locks h s j q × ((cell_at h q).mutex ≡ s) = sound.locks s j (sym (rows s other)
            ∙ is) in (
              old.0,
              record {
                thread = old.1.thread;
                place = is;
                names = ap (λ f. place_at f j) (frames s other)
                    ∙ old.1.names;
              },
              cells old.0 (λ e. other (sym old.2 ∙ ap (λ i. (cell_at h i).mutex) e ∙ mutex)) ∙ old.2,
            )
      ];
      mutexes = λ s q positive is. elim (cases_eq q c) [
        | inl same ↦ absurd (omega (arith, positive, sym is ∙ ap (λ i. (cell_at h' i).mutex) same ∙ own_cell))
        | inr other ↦
            let old : (j : ℕ) × Locks h s j q = sound.mutexes s q positive (sym (cells q other) ∙ is) in
            let apart : s ≢ t = λ same.
            let e : Some old.0 ≡ Some k = sym old.1.place ∙ ap (λ i. (row_at h i).locked) same ∙ locked in
            let jk : old.0 ≡ k = cc in
            let g : Some q ≡ Some c = sym old.1.names ∙ ap (λ i. place_at (frame_at h i) old.0) same
            ∙ ap (place_at (frame_at h t)) jk ∙ named in
            other (cc) in (
              old.0,
              record {
                thread = positive;
                place = rows s apart ∙ old.1.place;
                names = ap (λ f. place_at f old.0)
                    (frames s apart) ∙ old.1.names;
              },
            )
      ];
    }

-- a place gets a cell in place of what it had
times-refilled : (q : ℕ) (frame : List (Option ℕ)) (k c d : ℕ) → place_at frame k ≡ Some d
    → times q (filled frame k c) + one (d == q) ≡ times q frame + one (c == q)
times-refilled q frame k c d there =
    let f : Option ℕ → ℕ = λ x. one (names q x) in
    let inside : k < length frame = elim (cases_lt k (length frame)) [
      | inl low ↦ low
      | inr past ↦ absurd (let e : None ≡ Some d = sym (get_or_past frame k None past) ∙ there in cc)
    ] in
    let same : reaching frame k ≡ frame = reached_already frame k inside in
    let put = sum_by-set f frame k (Some c) None inside in
    let was : f (place_at frame k) ≡ one (d == q) = ap f there in
    omega (arith, put, was, ap (λ (xs : List (Option ℕ)). sum_by f (set xs k (Some c))) same)
  where
    reached_already : (frame : List (Option ℕ)) (k : ℕ) → k < length frame → reaching frame k ≡ frame
    reached_already frame k inside =
        let none : k + 1 - length frame ≡ 0 = omega (arith, inside) in
        ap (λ n. frame ++ replicate n None) none ∙ append-nil frame

-- what each change moves
unlock_moved : (h : Heap) (t c : ℕ) (locked : Option ℕ) (change : Change)
    → change_ok locked (frame_at h t) (entries_at h c) change ≡ true
    → (q : ℕ) → times q (frame_changed change (entries_at h c) (frame_at h t)) + entry_times q
    (entries_changed change (frame_at h t) (entries_at h c)) ≡ times q (frame_at h t) + entry_times q (entries_at h c)
unlock_moved h t c locked changes.Keep ok q = refl
unlock_moved h t c locked (changes.Put j) ok q =
    let parts = and_parts _ _ (and_parts _ _ ok).0 in
    let x : ℕ = number_in (place_at (frame_at h t) j) in
    let there : place_at (frame_at h t) j ≡ Some x = some_there _ parts.1 in
    omega (arith, times-vacated q (frame_at h t) j x there, sum_by-append (λ y. one (y == q)) (entries_at h c) (x ∷ []))
unlock_moved h t c locked (changes.Take i j) ok q =
    let parts = and_parts _ _ (and_parts _ _ ok).0 in
    let place : Vacant (frame_at h t) j = vacant (frame_at h t) j parts.1 in
    omega (
      arith,
      times-filled q (frame_at h t) j (get_or (entries_at h c) i 0) place.none,
      sum_by-remove (λ y. one (y == q)) (entries_at h c) i 0 (ltb-true _ _ parts.0),
    )
unlock_moved h t c locked (changes.Swap i j) ok q =
    let parts = and_parts _ _ (and_parts _ _ ok).0 in
    let x : ℕ = number_in (place_at (frame_at h t) j) in
    let there : place_at (frame_at h t) j ≡ Some x = some_there _ parts.1 in
    omega (
      arith,
      times-refilled q (frame_at h t) j (get_or (entries_at h c) i 0) x there,
      sum_by-set (λ y. one (y == q)) (entries_at h c) i x 0 (ltb-true _ _ parts.0),
    )

-- and how long frame and entries are then
unlock_lengths : (h : Heap) (t c : ℕ) (locked : Option ℕ) (change : Change) → IsSound h
    → change_ok locked (frame_at h t) (entries_at h c) change ≡ true
    → (length (entries_changed change (frame_at h t) (entries_at h c)) ≤ MOST_ENTRIES)
    × (length (frame_changed change (entries_at h c) (frame_at h t)) ≤ MOST_PLACES)
unlock_lengths h t c locked changes.Keep sound ok = (any_few h c sound, (sound.threads t).places)
unlock_lengths h t c locked (changes.Put j) sound ok =
    let parts = and_parts _ _ (and_parts _ _ ok).0 in
    let room : length (entries_at h c) < MOST_ENTRIES = ltb-true _ _ parts.0 in (
      omega (arith, length-append (entries_at h c) (number_in (place_at (frame_at h t) j) ∷ []), room),
      length-vacated (frame_at h t) j (sound.threads t).places,
    )
unlock_lengths h t c locked (changes.Take i j) sound ok =
    let parts = and_parts _ _ (and_parts _ _ ok).0 in
    let place : Vacant (frame_at h t) j = vacant (frame_at h t) j parts.1 in (
      omega (arith, length-remove (entries_at h c) i (ltb-true _ _ parts.0), any_few h c sound),
      length-filled (frame_at h t) j (get_or (entries_at h c) i 0) place.low (sound.threads t).places,
    )
unlock_lengths h t c locked (changes.Swap i j) sound ok =
    let parts = and_parts _ _ (and_parts _ _ ok).0 in
    let there : place_at (frame_at h t) j ≡ Some (number_in (place_at (frame_at h t) j)) = some_there _ parts.1 in
    let inside : j < length (frame_at h t) = elim (cases_lt j (length (frame_at h t))) [
      | inl low ↦ low
      | inr past ↦ absurd (let e : None ≡ Some (number_in (place_at (frame_at h t) j)) =
          sym (get_or_past (frame_at h t) j None past) ∙ there in cc)
    ] in (
      omega (arith, length-set (entries_at h c) i (number_in (place_at (frame_at h t) j)), any_few h c sound),
      length-filled (frame_at h t) j (get_or (entries_at h c) i 0) (omega (arith, inside, (sound.threads t).places))
          (sound.threads t).places,
    )

-- only the globals are an immortal container
pub immortal_container : (c : ℕ) → is_container (immortal_kind c) ≡ true → c ≡ GLOBALS
immortal_container c container = eqb-true c GLOBALS (globals_alone (c == 0) (c == 1) (c == 2) (c == GLOBALS) container)
  where
    globals_alone : (a b d e : Bool)
        → is_container (if a then kinds.Nothing
        else (if b then kinds.False else (if d then kinds.True else (if e then kinds.Dict else kinds.Int)))) ≡ true
        → e ≡ true
    globals_alone true b d e container = absurd (true≢false (sym container))
    globals_alone false true d e container = absurd (true≢false (sym container))
    globals_alone false false true e container = absurd (true≢false (sym container))
    globals_alone false false false true container = refl
    globals_alone false false false false container = absurd (true≢false (sym container))

-- keeping changes nothing, and else the object is a container
kept_or_container : (change : Change) (kind : Kind) (frame : List (Option ℕ)) (entries : List ℕ)
    → (is_keep change || is_container kind) ≡ true → is_container kind ≡ false → entries ≡ []
    → entries_changed change frame entries ≡ []
kept_or_container changes.Keep kind frame entries ok plain empty = empty
kept_or_container (changes.Put j) kind frame entries ok plain empty = absurd (true≢false (sym ok ∙ plain))
kept_or_container (changes.Take i j) kind frame entries ok plain empty = absurd (true≢false (sym ok ∙ plain))
kept_or_container (changes.Swap i j) kind frame entries ok plain empty = absurd (true≢false (sym ok ∙ plain))

pub unlock_sound : (h : Heap) (t : ℕ) (change : Change) (o : Option ℕ) → IsSound h → May h t (Unlock change)
    → locked_cell (frame_at h t) (row_at h t).locked ≡ o → target_ok h t (row_at h t) (Unlock change) o ≡ true
    → IsSound (after_target h t (Unlock change) o)
unlock_sound h t change None sound may named ok = absurd (true≢false (sym ok))
unlock_sound h t change (Some c) sound may named ok =
    let s : Step = Unlock change in
    let at_cell : OnCell h t s c = on_cell h t s c ok in
    let es : List ℕ = entries_changed change (frame_at h t) (entries_at h c) in
    let f : List (Option ℕ) = frame_changed change (entries_at h c) (frame_at h t) in
    let lock : (k : ℕ) × ((row_at h t).locked ≡ Some k) × (place_at (frame_at h t) k ≡ Some c) =
    lock_place h t c (row_at h t).locked named refl in
    let fine : change_ok (row_at h t).locked (frame_at h t) (entries_at h c) change ≡ true =
    subst (λ d. change_ok (row_at h t).locked (frame_at h t) (locked_entries (entries_at h) d) change ≡ true) named
    may.own in
    let lengths = unlock_lengths h t c (row_at h t).locked change sound fine in
    let kept = kept_or_container change (cell_at h c).kind (frame_at h t) (entries_at h c) at_cell.fits in
    changed_sound h t c (turned h t c 0 None f es) sound (turned_fits h t c 0 None f es sound (record {
      thread = may.some_thread;
      inside = may.inside;
      cell_inside = at_cell.inside;
      active = active_from _ s may.stage refl refl refl;
      here = may.not_gathered;
      free = free_hand _ may.hand;
      moved = unlock_moved h t c (row_at h t).locked change fine;
      dead = λ mortal dead. absurd
          (true≢false (sym (held_owner h c sound mortal (held_by_place h t lock.0 c lock.2)) ∙ dead));
      plain = λ mortal plain. kept plain ((sound.cells c mortal).plain plain);
      immortal = λ low ne. kept (plain_kind c low ne) ((sound.immortals c low).empty ne);
      few = lengths.0;
      places = lengths.1;
    }) (released_mutex h t c lock.0 f es sound may.inside at_cell.inside lock.1 lock.2))
  where
    plain_kind : (c : ℕ) → c < FIRST_MORTAL → c ≢ GLOBALS → is_container (cell_at h c).kind ≡ false
    plain_kind c low ne = elim (cases_Bool (is_container (cell_at h c).kind)) [
      | inl container ↦ absurd
          (ne (immortal_container c (sym (ap is_container (sound.immortals c low).kind) ∙ container)))
      | inr plain ↦ plain
    ]
