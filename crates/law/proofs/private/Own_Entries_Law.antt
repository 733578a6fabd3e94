-- The entries of private cells are own ones, where the thread put own ones alone into them.
use Rattle.std.proofs.Common.{◌≡◌, ◌≢◌, ℕ, ◌<◌, ◌==◌, not, nat_lt, Bool, true, false, if◌then◌else◌, List, [], length}
use Rattle.std.proofs.Common.{get_or, set, slice_get, Option, Some, None, refl, sym, ◌∙◌, ap, subst, inl, inr, ◌⊎◌}
use Rattle.std.proofs.Common.{arith}
use Rattle.std.proofs.lemmas.Bool.{cases_eq, cases_lt, cases_Bool, and_parts, or_cases, or_left, or_right, eqb-true}
use Rattle.std.proofs.lemmas.Bool.{lt-ltb, true≢false}
use Rattle.brc_words.specs.declared.limits.TheConstants.{GLOBALS}
use Rattle.law.specs.declared.world.event.Change.{Change}
use Rattle.law.specs.declared.world.event.Event.{Event}
use Rattle.law.specs.declared.world.event.Step.{Step}
use Rattle.law.specs.declared.world.event.Step.TheVariants.{Birth, Free, Unlock, Register, Gather, Offer}
use Rattle.law.specs.declared.world.row.Row.{Row}
use Rattle.law.specs.known.Start.{start_of}
use Rattle.law.specs.world.Heap.{Heap, row_at, frame_at, cell_at, entries_at, is_registered, AreOptions}
use Rattle.law.specs.world.Sound.{IsSound, held}
use Rattle.law.specs.world.Steps.{enabled, after, after_target, root_after, root_may, thread_may, target_at, target_ok}
use Rattle.law.specs.world.Steps.{needs_no_cell, locked_cell, locked_at, is_active, entries_changed, born_cell, gone}
use Rattle.law.specs.world.Steps.{stepped, registered, registered_again}
use Rattle.law.proofs.world.Asking.{may_parts, on_cell}
use Rattle.law.proofs.world.Changes.{read_here, read_there}
use Rattle.law.proofs.world.Counting.{marked_unheld}
use Rattle.law.proofs.world.Dropping.{held_by_entry}
use Rattle.law.proofs.world.Reached.{reached_sound}
use Rattle.law.specs.lasting.Staying.{IsAnothers}
use Rattle.law.proofs.lasting.Lasting.{others_own}
use Rattle.law.specs.known.Items.{Item, ItemRun, AreItems, world_of_items, own, Part, part_of}
use Rattle.law.proofs.known.Items_Tells.{Follows, tells}
use Rattle.law.specs.private.Private.{Isolated, is_in, is_shared, place_put, is_plain, private_by, private_of}
use Rattle.law.specs.private.Own_Entries.{is_own, is_own_or_none, puts_own, keeps_own, OwnEntries}
use Rattle.law.proofs.private.Brought.{entries_fewer, emptied}
use Rattle.law.proofs.private.Going_On.{same_set}
use Rattle.law.proofs.private.In_Entries.{in_changed}
use Rattle.law.proofs.private.Others_Leave.{others_leave}
use Rattle.law.proofs.private.Private_Law.{ApartNow, apart_follows, active_or_opens, opens_none, joined, by_part}
use Rattle.law.proofs.private.Private_Law.{to_world}

-- ---- others' steps

-- what a step other than an unlock leaves in entries was there
left_there : (h : Heap) (u : ℕ) (s : Step) (d f i e : ℕ) → (f ≢ d) ⊎ ((change : Change) → s ≢ Unlock change)
    → slice_get (entries_at (stepped h u s d) f) i ≡ Some e → slice_get (entries_at h f) i ≡ Some e
left_there h u (Unlock change) d f i e which at = elim which [
  | inl other ↦ ap (λ xs. slice_get xs i)
      (sym (read_there h.entries d f (entries_changed change (frame_at h u) (entries_at h d)) [] other)) ∙ at
  | inr never ↦ absurd (never change refl)
]
left_there h u s d f i e which at = entries_fewer h.entries (born_cell s) (gone s (cell_at h d)) f i e at

others_target : (h : Heap) (t u : ℕ) (s : Step) (mine : ℕ → Bool) (o : Option ℕ) → IsSound h → u ≢ t
    → thread_may h u s ≡ true → target_at h u s ≡ o → Isolated h t mine → OwnEntries h mine
    → OwnEntries (after_target h u s o) mine
others_target h t u s mine None sound other may named apart own_entries d i e is at = own_entries d i e is at
others_target h t u s mine (Some d) sound other may named apart own_entries f i e is at =
    own_entries f i e is (left_there h u s d f i e
    (inl (λ same. others_leave h t u mine s d sound apart other may named (ap mine (sym same) ∙ is))) at)

roots_event : (h : Heap) (s : Step) (mine : ℕ → Bool) → root_may h s ≡ true → OwnEntries h mine
    → OwnEntries (root_after h s) mine
roots_event h (Register u) mine may own_entries d i e is at = by_number (nat_lt u (length h.rows)) d i e is at
  where
    by_number : (b : Bool) → OwnEntries (if b then registered_again h u else registered h) mine
    by_number true d i e is at = own_entries d i e is at
    by_number false d i e is at = own_entries d i e is at
roots_event h (Gather u) mine may own_entries d i e is at = own_entries d i e is at
roots_event h s mine may own_entries d i e is at = absurd (true≢false (sym may))

others_event : (h : Heap) (t : ℕ) (e : Event) (mine : ℕ → Bool) → IsSound h → enabled h e ≡ true → IsAnothers t e
    → Isolated h t mine → OwnEntries h mine → OwnEntries (after h e) mine
others_event h t e mine sound ok others apart own_entries =
    let moved : Heap = after_target h e.thread e.step (target_at h e.thread e.step) in
    elim (cases_Bool (e.thread == 0)) [
      | inl root ↦ subst (λ b. OwnEntries (if b then root_after h e.step else moved) mine) (sym root)
          (roots_event h e.step mine
          (subst (λ b. (if b then root_may h e.step else thread_may h e.thread e.step) ≡ true) root ok) own_entries)
      | inr thread ↦ subst (λ b. OwnEntries (if b then root_after h e.step else moved) mine) (sym thread)
          (others_target h t e.thread e.step mine (target_at h e.thread e.step) sound others.other
          (subst (λ b. (if b then root_may h e.step else thread_may h e.thread e.step) ≡ true) thread ok) refl apart
          own_entries)
    ]

-- ---- own steps

-- more private cells, more own ones
own_more : (set more : ℕ → Bool) (e : ℕ) → (set e ≡ true → more e ≡ true) → is_own set e ≡ true → is_own more e ≡ true
own_more set more e less is = elim (or_cases (set e) (nat_lt e GLOBALS) is) [
  | inl mine ↦ or_left (more e) (nat_lt e GLOBALS) (less mine)
  | inr small ↦ or_right (more e) (nat_lt e GLOBALS) small
]

not_unlock : (s : Step) → is_plain s ≡ true → (change : Change) → s ≢ Unlock change
not_unlock s plain change is = true≢false (sym plain ∙ ap is_plain is)

module _ (h : Heap) (t : ℕ) (mine : ℕ → Bool) (sound : IsSound h) (own_entries : OwnEntries h mine) where
  born : (e k d : ℕ) (s : Step) → born_cell s ≡ Some e → target_at h t s ≡ Some d → e ≡ d
      → ((change : Change) → s ≢ Unlock change)
      → ((f : ℕ) → entries_at (stepped h t s d) f ≡ get_or (set h.entries e []) f [])
      → OwnEntries (stepped h t s d) (λ c. if e == c then true else mine c)
  born e k d s is_born named same never lists f i c is at = elim (cases_eq f e) [
    | inl here ↦ absurd (let none : None ≡ Some c = ap (λ (xs : List ℕ). slice_get xs i) (sym (emptied h.entries e)
        ∙ ap (λ j. get_or (set h.entries e []) j []) (sym here) ∙ sym (lists f)) ∙ at in cc)
    | inr off ↦ own_more mine (λ c. if e == c then true else mine c) c (λ was. still (e == c) (mine c) was)
        (own_entries f i c (older (e == f) (mine f) (λ same. off (sym (eqb-true e f same))) is)
        (left_there h t s d f i c (inr never) at))
  ]
    where
      still : (b m : Bool) → m ≡ true → (if b then true else m) ≡ true
      still true m is = refl
      still false m is = is

      older : (b m : Bool) → (b ≡ true → ⊥) → (if b then true else m) ≡ true → m ≡ true
      older true m off is = absurd (off refl)
      older false m off is = is

  freed : (e d : ℕ) → thread_may h t (Free e) ≡ true → target_at h t (Free e) ≡ Some d
      → OwnEntries (stepped h t (Free e) d) (λ c. if e == c then false else mine c)
  freed e d may named f i c is at =
      let was : slice_get (entries_at h f) i ≡ Some c = left_there h t (Free e) d f i c
      (inr (λ change never. (let bad : Free e ≡ Unlock change = never in cc))) at in
      let unheld : held h e ≡ 0 = marked_unheld h t e sound (and_parts _ _ (may_parts h t (Free e) may).own).0 in
      let other : e ≢ c = λ same. omega (arith, held_by_entry h f i c was, unheld, ap (held h) same) in
      own_more mine (λ c. if e == c then false else mine c) c
      (λ there. off (e == c) (mine c) (λ same. other (eqb-true e c same)) there)
      (own_entries f i c (older (e == f) (mine f) is) was)
    where
      off : (b m : Bool) → (b ≡ true → ⊥) → m ≡ true → (if b then false else m) ≡ true
      off true m never is = absurd (never refl)
      off false m never is = is

      older : (b m : Bool) → (if b then false else m) ≡ true → m ≡ true
      older true m is = absurd (true≢false (sym is))
      older false m is = is

  -- what was put into a private cell is own
  put_own : (frame : List (Option ℕ)) (into : Option ℕ) (change : Change) (d c : ℕ) → into ≡ Some d → mine d ≡ true
      → puts_own frame into mine (Unlock change) ≡ true → locked_cell frame (place_put change) ≡ Some c
      → is_own mine c ≡ true
  put_own frame into change d c named there puts put =
      elim (or_cases (not (is_in mine into)) (is_own_or_none mine (locked_cell frame (place_put change))) puts) [
        | inl out ↦ absurd (true≢false (sym out ∙ ap (λ o. not (is_in mine o)) named ∙ ap not there))
        | inr is ↦ ap (is_own_or_none mine) (sym put) ∙ is
      ]

  kept_own : (change : Change) (d : ℕ) → thread_may h t (Unlock change) ≡ true → target_at h t (Unlock change) ≡ Some d
      → puts_own (frame_at h t) (locked_at h t) mine (Unlock change) ≡ true
      → OwnEntries (stepped h t (Unlock change) d) mine
  kept_own change d may named puts f i c is at = elim (cases_lt c GLOBALS) [
    | inl small ↦ or_right (mine c) (nat_lt c GLOBALS) (lt-ltb c GLOBALS small)
    | inr large ↦ elim (cases_eq f d) [
      | inr off ↦ own_entries f i c is (left_there h t (Unlock change) d f i c (inl off) at)
      | inl same ↦
          let inside : d < length h.entries =
          omega (
            arith,
            sound.shaped.entries,
            (on_cell h t (Unlock change) d (subst (λ o. target_ok h t (row_at h t) (Unlock change) o ≡ true) named
                (may_parts h t (Unlock change) may).on_target)).inside,
          ) in
          let here : slice_get (entries_changed change (frame_at h t) (entries_at h d)) i ≡ Some c =
          ap (λ xs. slice_get xs i)
          (sym (read_here h.entries d (entries_changed change (frame_at h t) (entries_at h d)) [] inside))
          ∙ ap (λ j. slice_get (entries_at (stepped h t (Unlock change) d) j) i) (sym same) ∙ at in
          let there : mine d ≡ true = ap mine (sym same) ∙ is in
          elim (in_changed change (frame_at h t) (entries_at h d) i c (omega (arith, large)) here) [
            | inl old ↦ own_entries d old.0 c there old.1
            | inr put ↦ put_own (frame_at h t) (locked_at h t) change d c named there puts put
          ]
    ]
  ]

  unlocked : (change : Change) (d : ℕ) → thread_may h t (Unlock change) ≡ true → target_at h t (Unlock change) ≡ Some d
      → puts_own (frame_at h t) (locked_at h t) mine (Unlock change) ≡ true
      → OwnEntries (stepped h t (Unlock change) d) (private_by (frame_at h t) (locked_at h t) (Unlock change) mine)
  unlocked change d may named puts = by_shared (is_shared mine (frame_at h t) (locked_at h t) change)
    where
      by_shared : (b : Bool) → OwnEntries (stepped h t (Unlock change) d) (λ c. if b then false else mine c)
      by_shared true f i c is at = absurd (true≢false (sym is))
      by_shared false f i c is at = kept_own change d may named puts f i c is at

  offers : (e d : ℕ) → OwnEntries (stepped h t (Offer e) d) (private_by (frame_at h t) (locked_at h t) (Offer e) mine)
  offers e d = by_private (mine e)
    where
      by_private : (b : Bool) → OwnEntries (stepped h t (Offer e) d) (λ c. if b then false else mine c)
      by_private true f i c is at = absurd (true≢false (sym is))
      by_private false f i c is at =
          own_entries f i c is (left_there h t (Offer e) d f i c
          (inr (λ change never. (let bad : Offer e ≡ Unlock change = never in cc))) at)

  plainly : (s : Step) (d : ℕ) → is_plain s ≡ true
      → OwnEntries (stepped h t s d) (private_by (frame_at h t) (locked_at h t) s mine)
  plainly s d plain f i c is at =
      own_more mine (private_by (frame_at h t) (locked_at h t) s mine) c
      (λ was. same_set (frame_at h t) (locked_at h t) s mine c plain ∙ was)
      (own_entries f i c (sym (same_set (frame_at h t) (locked_at h t) s mine f plain) ∙ is)
      (left_there h t s d f i c (inr (not_unlock s plain)) at))

  own_on_cell : (s : Step) (d : ℕ) → thread_may h t s ≡ true → target_at h t s ≡ Some d
      → puts_own (frame_at h t) (locked_at h t) mine s ≡ true
      → OwnEntries (stepped h t s d) (private_by (frame_at h t) (locked_at h t) s mine)
  own_on_cell (Birth e kind k) d may named puts = born e k d (Birth e kind k) refl named (cc)
      (λ change never. (let bad : Birth e kind k ≡ Unlock change = never in cc)) (λ f. refl)
  own_on_cell (Free e) d may named puts = freed e d may named
  own_on_cell (Unlock change) d may named puts = unlocked change d may named puts
  own_on_cell (Offer e) d may named puts = offers e d
  own_on_cell s d may named puts = plainly s d refl

  same_own : (s : Step) → needs_no_cell s ≡ true → OwnEntries h (private_by (frame_at h t) (locked_at h t) s mine)
  same_own (Birth d kind k) none = absurd (true≢false (sym none))
  same_own (Free d) none = absurd (true≢false (sym none))
  same_own (Unlock change) none = absurd (true≢false (sym none))
  same_own (Offer d) none = absurd (true≢false (sym none))
  same_own s none = own_entries

  own_target : (s : Step) (o : Option ℕ) → thread_may h t s ≡ true → target_at h t s ≡ o
      → puts_own (frame_at h t) (locked_at h t) mine s ≡ true
      → OwnEntries (after_target h t s o) (private_by (frame_at h t) (locked_at h t) s mine)
  own_target s None may named puts =
      same_own s (subst (λ o. target_ok h t (row_at h t) s o ≡ true) named (may_parts h t s may).on_target)
  own_target s (Some d) may named puts = own_on_cell s d may named puts

-- ---- the law

-- beside the thread's part and its private cells
record OwnNow (t cells : ℕ) (h : Heap) (log : List Item) : Type 0 where
  now : ApartNow t cells h log
  own_entries : is_active (row_at h t).stage ≡ true → keeps_own cells log ≡ true → OwnEntries h (private_of cells log)

own_follows : (t cells : ℕ) → Follows t cells (OwnNow t cells)
own_follows t cells = record {
  starts = λ h reached size last. record {
    now = (apart_follows t cells).starts h reached size last;
    own_entries = λ active keeps d i e is. absurd (true≢false (sym is));
  };
  again = λ h number entries reached size vacated. record {
    now = (apart_follows t cells).again h number entries reached size vacated;
    own_entries = λ active keeps d i e is. absurd (true≢false (sym is));
  };
  others = λ h e log reached ok others before. record {
    now = (apart_follows t cells).others h e log reached ok others before.now;
    own_entries = λ active keeps.
        let was : is_active (row_at h t).stage ≡ true = ap (λ (r : Row). is_active r.stage)
        (sym (others_own h e t (reached_sound h reached) ok others).row) ∙ active in
        others_event h t e (private_of cells log) (reached_sound h reached) ok others (before.now.apart was)
        (before.own_entries was keeps);
  };
  owns = λ h s number entries log reached size fit may told_is found_is before. record {
    now = (apart_follows t cells).owns h s number entries log reached size fit may told_is found_is before.now;
    own_entries = λ active keeps. elim (active_or_opens h t s (target_at h t s) may active) [
      | inr opens ↦ λ d i e is. absurd
          (true≢false (sym is ∙ opens_none cells s number entries log opens.0 opens.1
          (before.now.opening opens.0 opens.2) d))
      | inl was ↦
          let parts = and_parts _ _ keeps in
          let part : Part = part_of cells log in
          by_part h t (λ frame into. OwnEntries (after_target h t s (target_at h t s))
          (private_by frame into s (private_of cells log))) part before.now.part
          (own_target h t (private_of cells log) (reached_sound h reached) (before.own_entries was parts.0) s
          (target_at h t s) (joined h t s may) refl
          (to_world h t (λ frame into. puts_own frame into (private_of cells log) s ≡ true) part
          before.now.part parts.1))
    ];
  };
  gathers = λ h u log before. record {
    now = (apart_follows t cells).gathers h u log before.now;
    own_entries = before.own_entries;
  };
  saw = λ h word number log reached shows before. record {
    now = (apart_follows t cells).saw h word number log reached shows before.now;
    own_entries = λ active keeps. before.own_entries active (and_parts _ _ keeps).0;
  };
  lost = λ h word number log reached shows before. record {
    now = (apart_follows t cells).lost h word number log reached shows before.now;
    own_entries = λ active keeps. before.own_entries active (and_parts _ _ keeps).0;
  };
}

-- the entries of an active thread's private cells are own ones
pub entries_stay_own : (cells limit : ℕ) (items : ItemRun) (t : ℕ) → AreOptions cells limit
    → AreItems (start_of cells limit) items
    → is_registered (world_of_items (start_of cells limit) items) t ≡ true
    → is_active (row_at (world_of_items (start_of cells limit) items) t).stage ≡ true
    → keeps_own cells (own t items) ≡ true → OwnEntries (world_of_items (start_of cells limit) items)
    (private_of cells (own t items))
entries_stay_own cells limit items t options are there active keeps =
    (tells t cells (OwnNow t cells) (own_follows t cells) limit items options are there).own_entries active keeps
