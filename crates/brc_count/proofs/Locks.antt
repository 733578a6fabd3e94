-- What locking and unlocking make of what a frame keeps, and that an unlocking may be made.
use Rattle.std.proofs.Common.{◌≡◌, ◌≢◌, ℕ, ◌<◌, ◌||◌, Bool, true, false, if◌then◌else◌, length, arith, inl, inr, List}
use Rattle.std.proofs.Common.{◌∷◌, Option, Some, None, is_some, refl, sym, ◌∙◌, ap, subst, remove, slice_get, slice_set}
use Rattle.std.proofs.Common.{slice_index_or}
use Rattle.std.proofs.lemmas.Bool.{eq-eqb, ne_eqb, lt-ltb, cases_eq, cases_lt}
use Rattle.std.proofs.lemmas.Option.{get_or_from_slice_get, slice_get_within}
use Rattle.std.proofs.lemmas.List.{length-set, get_or-set_same, get_or_past}
use Rattle.brc_count.specs.Places.{PlacesSeen, held_at, Updates, cell_held}
use Rattle.atomic_table.specs.Table.{rest}
use Rattle.brc_words.specs.Kinds.{is_container}
use Rattle.brc_words.specs.declared.limits.TheConstants.{MOST_PLACES}
use Rattle.brc_table.specs.block.declared.payload.Payload.{Payload}
use Rattle.brc_table.specs.law.declared.world.event.Change.{Change}
use Rattle.brc_table.specs.law.declared.world.event.Change.TheVariants as changes
use Rattle.brc_table.specs.law.declared.world.event.Dropped.TheVariants as drops
use Rattle.brc_table.specs.law.declared.world.event.Step.TheVariants.{Lock, Unlock}
use Rattle.brc_table.specs.law.declared.world.row.Hand.TheVariants as hands
use Rattle.brc_table.specs.law.declared.world.row.Stage.{Stage}
use Rattle.brc_table.specs.law.declared.world.row.Stage.TheVariants as stages
use Rattle.brc_table.specs.law.world.Lists.{names, number_in, place_at, filled, vacated}
use Rattle.brc_table.specs.law.world.Steps.{is_active, is_keep, stage_ok, locked_cell, change_ok, frame_changed, entries_changed}
use Rattle.brc_table.proofs.law.world.Framing.{place_at-filled_here, place_at-filled_else, place_at-vacated_else}
use Rattle.brc_table.specs.law.known.Items.{Part, put}
use Rattle.brc_table.specs.law.known.Going_On.{locking, unlocking}
use Rattle.brc_table.specs.law.known.Taken.{Blocks, listed_at}
use Rattle.brc_table.specs.law.declared.rule.contents.Contents.{Contents}
use Rattle.brc_table.specs.law.declared.rule.contents.Contents.TheVariants as contents
use Rattle.brc_table.specs.law.rule.Keys.{keys_in, KeysGo}
use Rattle.brc_table.specs.law.rule.Logs.{entries_in, kind_in}
use Rattle.brc_table.specs.law.rule.Seen.{part_seen, taken_seen, contents_locked}
use Rattle.brc_table.specs.law.steps.Owing.{MayCarry, MayUnlock}
use Rattle.brc_table.specs.Knowing.{known_seen, KeepsNotes}
use Rattle.brc_table.specs.Moving.{found_or, found_locked}
use Rattle.brc_table.specs.Seated.{TableSeen, SeatSeen}
use Rattle.brc_table.specs.Shown.{shows, contents_of}
use Rattle.brc_biased.specs.Up.{KnowsPart}
use Rattle.brc_count.specs.declared.held.PlaceEntry.{PlaceEntry}
use Rattle.brc_count.specs.declared.ledger.Ledger.{Ledger}
use Rattle.brc_count.specs.Frames.{place_seen, locked_place, lock_seen, slots_out, Buried, Holding}
use Rattle.brc_count.specs.Frames.{FrameSeen, IsActive}
use Rattle.brc_count.specs.Locking.{KnowsLock, IsLocked, ChangesPlace, cell_in, place_locked, cell_locked}
use Rattle.brc_count.specs.Locking.{contents_found, entries_found, keys_found}

-- ---- places

nothing_there : {X : Type 0} {a : X} → None ≡ Some a → ⊥
nothing_there same = cc

same_there : {a b : PlaceEntry} → Some a ≡ Some b → a ≡ b
same_there same = cc

not_both : {b : Bool} → b ≡ true → b ≡ false → ⊥
not_both is isnt = cc

same_number : {a b : ℕ} → Some a ≡ Some b → a ≡ b
same_number same = cc

may_lock : (stage : Stage) (k : ℕ) → is_active stage ≡ true → stage_ok stage (Lock k) ≡ true
may_lock stages.Active k is = refl
may_lock (stages.Closing words) k is = cc
may_lock stages.Left k is = cc
may_lock (stages.Opening words) k is = cc

may_unlock : (stage : Stage) (change : Change) → is_active stage ≡ true → stage_ok stage (Unlock change) ≡ true
may_unlock stages.Active change is = refl
may_unlock (stages.Closing words) change is = cc
may_unlock stages.Left change is = cc
may_unlock (stages.Opening words) change is = cc

some_of : (o : Option ℕ) → is_some o ≡ true → (c : ℕ) × (o ≡ Some c)
some_of None is = cc
some_of (Some c) is = (c, refl)

or_true : (b : Bool) → (b || true) ≡ true
or_true true = refl
or_true false = refl

vacant_here : (frame : List (Option ℕ)) (k : ℕ) → place_at (vacated frame k) k ≡ None
vacant_here frame k = elim (cases_lt k (length frame)) [
  | inl inside ↦ get_or-set_same frame k None None inside
  | inr past ↦ get_or_past (vacated frame k) k None (omega (arith, past, length-set frame k None))
]

-- The places are those of this frame; what is marked as seen risen was there before, and all that is there are cells of
-- the heap.
pub record Refits (n : ℕ) (frame : List (Option ℕ)) (old places : PlacesSeen) : Type 0 where
  pub placed : (j : ℕ) → place_at frame j ≡ cell_held (held_at places j)
  pub risen : (j : ℕ) (held : PlaceEntry) → held_at places j ≡ Some held → held.risen ≡ true → held_at old j ≡ Some held
  pub inside : (j : ℕ) (held : PlaceEntry) → held_at places j ≡ Some held → held.cell < n

module _ (n : ℕ) (frame : List (Option ℕ)) {old places : PlacesSeen} where
  -- a place's reference is gone
  pub refits_vacated : (k : ℕ) → ((j : ℕ) → place_at frame j ≡ cell_held (held_at old j))
      → ((j : ℕ) (held : PlaceEntry) → held_at old j ≡ Some held → held.cell < n)
      → Updates old places k None → Refits n (vacated frame k) old places
  refits_vacated k placed inside updates = record {
    placed = λ j. elim (cases_eq j k) [
      | inl same ↦ ap (place_at (vacated frame k)) same ∙ vacant_here frame k
          ∙ sym (ap cell_held (ap (held_at places) same ∙ updates.changed))
      | inr other ↦ place_at-vacated_else frame k j other ∙ placed j ∙ sym (ap cell_held (updates.others j other))
    ];
    risen = λ j held there is. elim (cases_eq j k) [
      | inl same ↦ absurd (nothing_there (sym updates.changed ∙ ap (held_at places) (sym same) ∙ there))
      | inr other ↦ sym (updates.others j other) ∙ there
    ];
    inside = λ j held there. elim (cases_eq j k) [
      | inl same ↦ absurd (nothing_there (sym updates.changed ∙ ap (held_at places) (sym same) ∙ there))
      | inr other ↦ inside j held (sym (updates.others j other) ∙ there)
    ];
  }

  -- a place has a reference that wasn't seen risen
  pub refits_filled : (k c : ℕ) → ((j : ℕ) → place_at frame j ≡ cell_held (held_at old j))
      → ((j : ℕ) (held : PlaceEntry) → held_at old j ≡ Some held → held.cell < n) → c < n
      → Updates old places k (Some (record { cell = c; risen = false })) → Refits n (filled frame k c) old places
  refits_filled k c placed inside low updates =
      let here : (j : ℕ) (held : PlaceEntry) → j ≡ k → held_at places j ≡ Some held
      → record { cell = c; risen = false } ≡ held =
      λ j held same there. same_there (sym updates.changed ∙ ap (held_at places) (sym same) ∙ there) in
      record {
        placed = λ j. elim (cases_eq j k) [
          | inl same ↦ ap (place_at (filled frame k c)) same ∙ place_at-filled_here frame k c
              ∙ sym (ap cell_held (ap (held_at places) same ∙ updates.changed))
          | inr other ↦ place_at-filled_else frame k c j other ∙ placed j ∙ sym (ap cell_held (updates.others j other))
        ];
        risen = λ j held there is. elim (cases_eq j k) [
          | inl same ↦ absurd (not_both is (ap (λ (x : PlaceEntry). x.risen) (sym (here j held same there))))
          | inr other ↦ sym (updates.others j other) ∙ there
        ];
        inside = λ j held there. elim (cases_eq j k) [
          | inl same ↦ subst (λ (x : PlaceEntry). x.cell < n) (here j held same there) low
          | inr other ↦ inside j held (sym (updates.others j other) ∙ there)
        ];
      }

-- the entries of a cell that isn't one of the dead blocks may be any
after_put : {n : ℕ} {marks : List Bool} {has : ℕ → List ℕ} {blocks : Blocks} (c : ℕ) (es : List ℕ)
    → Buried n marks has blocks
    → listed_at blocks c ≡ None → Buried n marks (put c es has) blocks
after_put {has = has} {blocks = blocks} c es b none = record {
  marked = b.marked;
  has_them = λ q xs at. elim (cases_eq q c) [
    | inl same ↦ absurd (nothing_there (sym none ∙ ap (listed_at blocks) (sym same) ∙ at))
    | inr other ↦ ap (λ t. if t then es else has q) (ne_eqb q c other) ∙ b.has_them q xs at
  ];
  inside = b.inside;
  are_cells = b.are_cells;
  apart = b.apart;
  only = b.only;
}

-- ---- the locking

module _ {A : Type 0} {heap : TableSeen} (before seat : SeatSeen A) {places : PlacesSeen}
    {works : List (ℕ × Payload A)}
    {popped : List ℕ} {ledger : Ledger} where
  -- a place's object may be locked
  pub lock_carries : (k c : ℕ) → Holding A heap before places works popped ledger
      → is_active (part_seen heap.cells before.log).row.stage ≡ true
      → locked_place heap.cells before.log ≡ None → place_seen heap.cells before.log k ≡ Some c
      → MayCarry heap.cells before.log (Lock k) c
  lock_carries k c keeps active unlocked there = record {
    own = rw (may_lock (part_seen heap.cells before.log).row.stage k active, unlocked, keeps.hand_is) refl;
    cell = there;
  }

  pub after_lock : (k c : ℕ) (found : Contents) → Holding A heap before places works popped ledger
      → locked_place heap.cells before.log ≡ None
      → place_seen heap.cells before.log k ≡ Some c → seat.slots ≡ (c, None) ∷ before.slots
      → KnowsPart heap.cells seat.log (locking k c (entries_in found) (known_seen heap.cells before.log))
      → KeepsNotes heap.cells before.log seat.log
      → listed_at (taken_seen heap.cells before.log) c ≡ None → contents_locked seat.log ≡ Some found
      → Holding A heap seat places works popped ledger
  after_lock k c found keeps unlocked there out knows goes_on fresh found_now =
      let places_now : (j : ℕ) → place_seen heap.cells seat.log j ≡ cell_held (held_at places j) =
      λ j. ap (λ (p : Part). place_at p.frame j) knows.part ∙ keeps.placed j in
      let place_now : locked_place heap.cells seat.log ≡ Some k = ap (λ (p : Part). p.row.locked) knows.part in
      let cell_now : lock_seen heap.cells seat.log ≡ Some c = ap (λ (p : Part). locked_cell p.frame p.row.locked)
      knows.part ∙ there in
      record {
        hand_is = ap (λ (p : Part). p.row.hand) knows.part ∙ keeps.hand_is;
        placed = places_now;
        risen = λ j held is_there is. goes_on.risen (drops.Frame j) held.cell (keeps.risen j held is_there is)
            ∙ ap (names held.cell) (places_now j ∙ ap cell_held is_there) ∙ eq-eqb held.cell held.cell refl;
        inside = keeps.inside;
        out = out ∙ ap (λ slots. (c, None) ∷ slots)
            (keeps.out ∙ ap (λ l. slots_out (locked_cell (part_seen heap.cells before.log).frame l) works) unlocked)
            ∙ sym (ap (λ l. slots_out l works) cell_now);
        lock_filled = λ j is. ap (λ (p : Part). is_some (place_at p.frame j)) knows.part
            ∙ ap (λ i. is_some (place_seen heap.cells before.log i)) (sym (same_number (sym place_now ∙ is)))
            ∙ ap is_some there;
        lock_has = λ d is. ap (λ (p : Part). p.has d) knows.part
            ∙ ap (λ t. if t then entries_in found else (part_seen heap.cells before.log).has d)
            (eq-eqb d c (same_number (sym is ∙ cell_now)))
            ∙ sym (ap (λ o. entries_in (found_or contents.Nothing o)) found_now);
        listed = knows.blocks ∙ keeps.listed;
        buried = rw (knows.part, knows.blocks) (after_put c (entries_in found) keeps.buried fresh);
        popped_is = keeps.popped_is ∙ sym (ap (λ (p : Part). p.popped) knows.part);
        words = keeps.words;
        bits = keeps.bits;
        allocs = keeps.allocs ∙ sym (ap (λ (p : Part). p.row.allocs) knows.part);
        frees = keeps.frees ∙ sym (ap (λ (p : Part). p.row.frees) knows.part);
      }

  -- the object is found locked, and nothing is known but that
  pub after_busy : Holding A heap before places works popped ledger → locked_place heap.cells before.log ≡ None
      → seat.slots ≡ before.slots
      → KnowsPart heap.cells seat.log (known_seen heap.cells before.log) → KeepsNotes heap.cells before.log seat.log
      → Holding A heap seat places works popped ledger
  after_busy keeps unlocked still knows goes_on =
      let places_now : (j : ℕ) → place_seen heap.cells seat.log j ≡ cell_held (held_at places j) =
      λ j. ap (λ (p : Part). place_at p.frame j) knows.part ∙ keeps.placed j in
      let none_now : locked_place heap.cells seat.log ≡ None = ap (λ (p : Part). p.row.locked) knows.part ∙ unlocked in
      let no_cell : lock_seen heap.cells seat.log ≡ None = ap (locked_cell (part_seen heap.cells seat.log).frame)
      none_now in
      record {
        hand_is = ap (λ (p : Part). p.row.hand) knows.part ∙ keeps.hand_is;
        placed = places_now;
        risen = λ j held is_there is. goes_on.risen (drops.Frame j) held.cell (keeps.risen j held is_there is)
            ∙ ap (names held.cell) (places_now j ∙ ap cell_held is_there) ∙ eq-eqb held.cell held.cell refl;
        inside = keeps.inside;
        out = still ∙ keeps.out ∙ ap (λ (p : Part). slots_out (locked_cell p.frame p.row.locked) works)
            (sym knows.part);
        lock_filled = λ j is. absurd (nothing_there (sym none_now ∙ is));
        lock_has = λ d is. absurd (nothing_there (sym no_cell ∙ is));
        listed = knows.blocks ∙ keeps.listed;
        buried = rw (knows.part, knows.blocks) keeps.buried;
        popped_is = keeps.popped_is ∙ sym (ap (λ (p : Part). p.popped) knows.part);
        words = keeps.words;
        bits = keeps.bits;
        allocs = keeps.allocs ∙ sym (ap (λ (p : Part). p.row.allocs) knows.part);
        frees = keeps.frees ∙ sym (ap (λ (p : Part). p.row.frees) knows.part);
      }

-- ---- the unlocking

module _ {A : Type 0} {heap : TableSeen} (before seat : SeatSeen A) {old places : PlacesSeen}
    {works : List (ℕ × Payload A)} {popped : List ℕ} {ledger : Ledger} where
  pub after_end : (change : Change) (c : ℕ) → Holding A heap before old works popped ledger
      → KnowsLock heap.cells before.log
      → lock_seen heap.cells before.log ≡ Some c → seat.slots ≡ rest before.slots
      → KnowsPart heap.cells seat.log (unlocking change c (known_seen heap.cells before.log))
      → KeepsNotes heap.cells before.log seat.log
      → Refits heap.cells (frame_changed change (entries_in (found_locked before.log))
      (part_seen heap.cells before.log).frame) old places
      → Holding A heap seat places works popped ledger
  after_end change c keeps lock locked home knows goes_on fits =
      let places_now : (j : ℕ) → place_seen heap.cells seat.log j ≡ cell_held (held_at places j) =
      λ j. ap (λ (p : Part). place_at p.frame j) knows.part
      ∙ ap (λ es. place_at (frame_changed change es (part_seen heap.cells before.log).frame) j)
      (keeps.lock_has c locked) ∙ fits.placed j in
      let none_now : lock_seen heap.cells seat.log ≡ None = ap (λ (p : Part). locked_cell p.frame p.row.locked)
      knows.part in
      record {
        hand_is = ap (λ (p : Part). p.row.hand) knows.part ∙ keeps.hand_is;
        placed = places_now;
        risen = λ j held there is. goes_on.risen (drops.Frame j) held.cell
            (keeps.risen j held (fits.risen j held there is) is)
            ∙ ap (names held.cell) (places_now j ∙ ap cell_held there) ∙ eq-eqb held.cell held.cell refl;
        inside = fits.inside;
        out = home ∙ ap rest (keeps.out ∙ ap (λ l. slots_out l works) locked)
            ∙ sym (ap (λ l. slots_out l works) none_now);
        lock_filled = λ j is. absurd (nothing_there (sym (ap (λ (p : Part). p.row.locked) knows.part) ∙ is));
        lock_has = λ d is. absurd (nothing_there (sym none_now ∙ is));
        listed = knows.blocks ∙ keeps.listed;
        buried = rw (knows.part, knows.blocks) (after_put c _ keeps.buried (lock.unlisted c locked));
        popped_is = keeps.popped_is ∙ sym (ap (λ (p : Part). p.popped) knows.part);
        words = keeps.words;
        bits = keeps.bits;
        allocs = keeps.allocs ∙ sym (ap (λ (p : Part). p.row.allocs) knows.part);
        frees = keeps.frees ∙ sym (ap (λ (p : Part). p.row.frees) knows.part);
      }

  -- an entry's reference is a place's: as the change fills the place
  pub after_end_filled : (change : Change) (c i k d : ℕ) → Holding A heap before old works popped ledger
      → KnowsLock heap.cells before.log
      → lock_seen heap.cells before.log ≡ Some c → slice_get (entries_in (found_locked before.log)) i ≡ Some d
      → ((frame : List (Option ℕ)) (es : List ℕ) → frame_changed change es frame ≡ filled frame k
      (slice_index_or es i 0))
      → seat.slots ≡ rest before.slots
      → KnowsPart heap.cells seat.log (unlocking change c (known_seen heap.cells before.log))
      → KeepsNotes heap.cells before.log seat.log
      → Updates old places k (Some (record { cell = d; risen = false }))
      → Holding A heap seat places works popped ledger
  after_end_filled change c i k d keeps lock locked entry fills home knows goes_on updates =
      let n = heap.cells in
      let frame = (part_seen n before.log).frame in
      let es = entries_in (found_locked before.log) in
      let here : filled frame k d ≡ frame_changed change es frame =
      ap (filled frame k) (sym (get_or_from_slice_get es i d 0 entry)) ∙ sym (fills frame es) in
      after_end change c keeps lock locked home knows goes_on
      (subst (λ f. Refits n f old places) here
      (refits_filled n frame k d keeps.placed keeps.inside (lock.cells i d entry) updates))

  -- a place's reference is an entry's
  pub after_end_put : (c k : ℕ) → Holding A heap before old works popped ledger → KnowsLock heap.cells before.log
      → lock_seen heap.cells before.log ≡ Some c → seat.slots ≡ rest before.slots
      → KnowsPart heap.cells seat.log (unlocking (changes.Put k) c (known_seen heap.cells before.log))
      → KeepsNotes heap.cells before.log seat.log
      → Updates old places k None → Holding A heap seat places works popped ledger
  after_end_put c k keeps lock locked home knows goes_on updates =
      after_end (changes.Put k) c keeps lock locked home knows goes_on
      (refits_vacated heap.cells (part_seen heap.cells before.log).frame k keeps.placed keeps.inside updates)

-- what the frame shows of a place that was changed
pub changes_place : {A : Type 0} (old new : FrameSeen A) {before after : PlacesSeen} (k : ℕ)
    (slot : Option PlaceEntry)
    → ((j : ℕ) → cell_in old j ≡ cell_held (held_at before j)) → ((j : ℕ) → cell_in new j ≡ cell_held (held_at after j))
    → Updates before after k slot → ChangesPlace old new k (cell_held slot)
changes_place old new k slot placed now updates = record {
  has = now k ∙ ap cell_held updates.changed;
  others = λ j other. now j ∙ ap cell_held (updates.others j other) ∙ sym (placed j);
}

-- ---- an unlocking may be made

-- the locked cell stands in the locked place
locked_there : (frame : List (Option ℕ)) (l : Option ℕ) (c : ℕ) → locked_cell frame l ≡ Some c
    → (k : ℕ) × (l ≡ Some k) × (place_at frame k ≡ Some c)
locked_there frame None c is = absurd (nothing_there is)
locked_there frame (Some k) c is = (k, refl, is)

module _ {A : Type 0} (frame : FrameSeen A) (block : ℕ × Payload A) where
  -- the block of a container, changed as is said, may go home
  unlocks : (change : Change) → IsActive frame → (part_seen frame.heap.cells frame.seat.log).row.hand ≡ hands.Free
      → IsLocked frame
      → cell_locked frame ≡ Some block.0 → is_container (kind_in (contents_found frame)) ≡ true
      → kind_in (contents_of block.1) ≡ kind_in (contents_found frame)
      → ((k : ℕ) → place_locked frame ≡ Some k → cell_in frame k ≡ Some block.0
      → change_ok (Some k) (part_seen frame.heap.cells frame.seat.log).frame (entries_found frame) change ≡ true)
      → entries_in (contents_of block.1) ≡ entries_changed change (part_seen frame.heap.cells frame.seat.log).frame
      (entries_found frame)
      → KeysGo change (contents_found frame) (contents_of block.1) → is_keep change ≡ false
      → MayUnlock frame.heap.cells frame.seat.log (shows block) (found_locked frame.seat.log) change block.0
  unlocks change active free lock locked container same_kind allowed entries keys changed =
      let n = frame.heap.cells in
      let log = frame.seat.log in
      let (k, place, there) = locked_there (part_seen n log).frame (part_seen n log).row.locked block.0 locked in
      record {
        own = rw (may_unlock (part_seen n log).row.stage change active, place, free, there, lock.has block.0 locked)
            (allowed k place there);
        cell = locked;
        of_cell = refl;
        was_found = lock.found;
        container = ap (λ t. is_keep change || t) container ∙ or_true (is_keep change);
        same_kind = same_kind;
        entries = entries;
        keys = keys;
        kept = λ is. absurd (not_both is changed);
      }

  -- an entry may go to a vacant place
  pub unlocks_take : (i j c : ℕ) → IsActive frame → (part_seen frame.heap.cells frame.seat.log).row.hand ≡ hands.Free
      → IsLocked frame
      → cell_locked frame ≡ Some block.0 → is_container (kind_in (contents_found frame)) ≡ true
      → kind_in (contents_of block.1) ≡ kind_in (contents_found frame)
      → slice_get (entries_found frame) i ≡ Some c → j < MOST_PLACES → cell_in frame j ≡ None
      → entries_in (contents_of block.1) ≡ remove (entries_found frame) i
      → keys_in (contents_of block.1) ≡ remove (keys_found frame) i
      → MayUnlock frame.heap.cells frame.seat.log (shows block) (found_locked frame.seat.log) (changes.Take i j) block.0
  unlocks_take i j c active free lock locked container same_kind entry low vacant entries keys =
      unlocks (changes.Take i j) active free lock locked container same_kind
      (λ k place there. rw (
        lt-ltb i (length (entries_found frame)) (slice_get_within (entries_found frame) i c entry),
        lt-ltb j MOST_PLACES low,
        vacant,
        ne_eqb k j (λ same. nothing_there (sym vacant ∙ ap (cell_in frame) (sym same) ∙ there)),
      ) refl)
      entries keys refl

  -- an entry and the reference of another place than the locked one may be exchanged
  pub unlocks_swap : (i j c : ℕ) → IsActive frame → (part_seen frame.heap.cells frame.seat.log).row.hand ≡ hands.Free
      → IsLocked frame
      → cell_locked frame ≡ Some block.0 → is_container (kind_in (contents_found frame)) ≡ true
      → kind_in (contents_of block.1) ≡ kind_in (contents_found frame)
      → slice_get (entries_found frame) i ≡ Some c → is_some (cell_in frame j) ≡ true → place_locked frame ≢ Some j
      → ((d : ℕ) → cell_in frame j ≡ Some d → entries_in (contents_of block.1) ≡ slice_set (entries_found frame) i d)
      → keys_in (contents_of block.1) ≡ keys_found frame
      → MayUnlock frame.heap.cells frame.seat.log (shows block) (found_locked frame.seat.log) (changes.Swap i j) block.0
  unlocks_swap i j c active free lock locked container same_kind entry filled apart entries keys =
      let (d, is) = some_of (cell_in frame j) filled in
      unlocks (changes.Swap i j) active free lock locked container same_kind
      (λ k place there. rw (
        lt-ltb i (length (entries_found frame)) (slice_get_within (entries_found frame) i c entry),
        filled,
        ne_eqb k j (λ same. apart (place ∙ ap Some same)),
      ) refl)
      (entries d is ∙ ap (λ o. slice_set (entries_found frame) i (number_in o)) (sym is)) keys refl
