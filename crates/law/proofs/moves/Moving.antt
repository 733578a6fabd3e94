-- The holder maps of two worlds: where they say the same, and that one of them is the other after a move.
use Rattle.std.proofs.Common.{◌≡◌, ◌≢◌, ℕ, ◌<◌, ◌≤◌, ◌==◌, ◌&&◌, ◌||◌, not, Bool, true, false, if◌then◌else◌, List, []}
use Rattle.std.proofs.Common.{length, get_or, set, slice_get, Option, Some, None, refl, sym, ◌∙◌, ap, subst, inl, inr}
use Rattle.std.proofs.Common.{arith}
use Rattle.std.proofs.lemmas.List.{get_or_past, get_or-set_same, length-set}
use Rattle.std.proofs.lemmas.Bool.{cases_eq, cases_lt, cases_Bool, eq-eqb, ne_eqb, eqb-true, and_parts, and_from}
use Rattle.std.proofs.lemmas.Bool.{and_right, or_left, or_right, or_parts, or_from, le-ltb, ltb-false, true≢false}
use Rattle.brc_words.specs.declared.limits.TheConstants.{FIRST_MORTAL}
use Rattle.brc_model.specs.declared.holder.Holder.{Holder}
use Rattle.brc_model.specs.declared.holder.Holder.TheVariants as holders
use Rattle.brc_model.specs.Holders.{Same, is_number, IsUnheld, IsVacant, put, same_holder, with_holder, without_holder}
use Rattle.brc_model.proofs.Places.{same_holder-true, same_holder-refl}
use Rattle.law.specs.declared.world.cell.Cell.{Cell}
use Rattle.law.specs.declared.world.event.Step.{Step}
use Rattle.law.specs.declared.world.event.Step.TheVariants.{Birth, LocalUp, LocalDown, Ask}
use Rattle.law.specs.declared.world.row.Row.{Row}
use Rattle.law.specs.declared.world.row.Hand.{Hand}
use Rattle.law.specs.world.Lists.{one, times, entry_times, bit_of, place_at, filled, vacated}
use Rattle.law.specs.world.Heap.{Heap, cell_at, entries_at, row_at, frame_at, popped_at, queue_at, no_cell, no_row}
use Rattle.law.specs.world.Heap.{is_immortal}
use Rattle.law.specs.world.Steps.{after_target, stepped, kept_cells, target_at, target_ok, needs_no_cell, thread_may}
use Rattle.law.specs.world.Steps.{cell_ok, cell_after, frame_after, popped_after, hand_after, queues_after, is_shut}
use Rattle.law.specs.world.Steps.{with_drained, drained_word}
use Rattle.law.specs.world.Holding.{lives_at, carries, is_birth}
use Rattle.law.specs.moves.Moves.{map_of, moves_of, MakesMoves}
use Rattle.law.specs.world.Sound.{IsSound}
use Rattle.law.proofs.world.Naming.{Unheld, one-false, sum_one}
use Rattle.law.proofs.world.Framing.{place_at-filled_here, place_at-filled_else, place_at-vacated_else, place_is_held}
use Rattle.law.proofs.world.Framing.{entry_is_held}
use Rattle.law.proofs.world.Asking.{May, may_parts, OnCell, on_cell}
use Rattle.law.proofs.world.Changes.{read_by, read_here, read_there}
use Rattle.law.proofs.world.Lifetimes.{is_of_life, step_lives, lives_stay, either_way}

-- ---- tests

pub eqb_turned : (a b : ℕ) → (a == b) ≡ (b == a)
eqb_turned a b = elim (cases_eq a b) [
  | inl same ↦ eq-eqb a b same ∙ sym (eq-eqb b a (sym same))
  | inr other ↦ ne_eqb a b other ∙ sym (ne_eqb b a (λ e. other (sym e)))
]

number_differs : (o : Option ℕ) (q : ℕ) → o ≢ Some q → is_number o q ≡ false
number_differs None q ne = refl
number_differs (Some x) q ne = ne_eqb x q (λ e. ne (ap Some e))

pub number_is : (o : Option ℕ) (q : ℕ) → o ≡ Some q → is_number o q ≡ true
number_is o q e = ap (λ x. is_number x q) e ∙ eq-eqb q q refl

pub mortal_number : (c : ℕ) → FIRST_MORTAL ≤ c → is_immortal c ≡ false
mortal_number c high = le-ltb c FIRST_MORTAL high

-- one value is put, and all others stay
pub put_after : {A : Type 0} (old new : ℕ → A) (c : ℕ) (v : A) → new c ≡ v → ((j : ℕ) → j ≢ c → new j ≡ old j) → (j : ℕ)
    → new j ≡ put {A = A} old c v j
put_after {A} old new c v here there j = elim (cases_eq j c) [
  | inl same ↦ ap new same ∙ here ∙ sym (ap (λ b. if b then v else old j) (eq-eqb j c same))
  | inr other ↦ there j other ∙ sym (ap (λ b. if b then v else old j) (ne_eqb j c other))
]

pub from_one : (b : Bool) → one b ≡ 1 → b ≡ true
from_one true e = refl
from_one false e = absurd (omega (arith, e))

-- ---- one holder among all

-- this object and this place
abbrev pub is_this : ℕ → Holder → ℕ → Holder → Bool
is_this c g q p = (q == c) && same_holder p g

-- one of two
abbrev pub is_either : ℕ → Holder → ℕ → Holder → ℕ → Holder → Bool
is_either c g d k q p = is_this c g q p || is_this d k q p

abbrev pub is_none : ℕ → Holder → Bool
is_none q p = false

pub this_one : (c : ℕ) (g : Holder) → is_this c g c g ≡ true
this_one c g = and_from (c == c) (same_holder g g) (eq-eqb c c refl) (same_holder-refl g)

pub either_first : (c : ℕ) (g : Holder) (d : ℕ) (k : Holder) → is_either c g d k c g ≡ true
either_first c g d k = or_left (is_this c g c g) (is_this d k c g) (this_one c g)

pub either_second : (c : ℕ) (g : Holder) (d : ℕ) (k : Holder) → is_either c g d k d k ≡ true
either_second c g d k = or_right (is_this c g d k) (is_this d k d k) (this_one d k)

pub apart : (c : ℕ) (g : Holder) (q : ℕ) (p : Holder) → is_this c g q p ≡ false → q ≡ c → p ≢ g
apart c g q p none same e = true≢false (sym (this_one c g) ∙ sym (ap (λ r. is_this c g c r) e)
    ∙ sym (ap (λ n. is_this c g n p) same) ∙ none)

-- a place that names its cell, of another cell
pub other_cell : (c : ℕ) (place : ℕ → Holder) (q : ℕ) → is_this c (place c) q (place q) ≡ false → q ≢ c
other_cell c place q none same = apart c (place c) q (place q) none same (ap place same)

pub other_place : (t k c q i : ℕ) → is_this c (holders.Frame t k) q (holders.Frame t i) ≡ false → i ≡ k → q ≢ c
other_place t k c q i none place same = apart c (holders.Frame t k) q (holders.Frame t i) none same
    (ap (holders.Frame t) place)

-- what holds of the one holds where the test says so
pub at_this : (P : ℕ → Holder → Type 0) (c : ℕ) (g : Holder) (q : ℕ) (p : Holder) → is_this c g q p ≡ true
    → P c g → P q p
at_this P c g q p same here =
    let parts = and_parts (q == c) (same_holder p g) same in
    subst (λ n. P n p) (sym (eqb-true q c parts.0)) (subst (P c) (sym (same_holder-true p g parts.1)) here)

-- one holder is added
pub with_as : (held held' : ℕ → Holder → Bool) (c : ℕ) (g : Holder) → held' c g ≡ true
    → ((q : ℕ) (p : Holder) → is_this c g q p ≡ false → held' q p ≡ held q p)
    → (q : ℕ) (p : Holder) → with_holder held c g q p ≡ held' q p
with_as held held' c g there others q p = elim (cases_Bool (is_this c g q p)) [
  | inl same ↦ ap (λ b. b || held q p) same ∙ sym (at_this (λ n r. held' n r ≡ true) c g q p same there)
  | inr kept ↦ ap (λ b. b || held q p) kept ∙ sym (others q p kept)
]

-- one holder is removed
pub without_as : (held held' : ℕ → Holder → Bool) (c : ℕ) (g : Holder) → held' c g ≡ false
    → ((q : ℕ) (p : Holder) → is_this c g q p ≡ false → held' q p ≡ held q p)
    → (q : ℕ) (p : Holder) → without_holder held c g q p ≡ held' q p
without_as held held' c g there others q p = elim (cases_Bool (is_this c g q p)) [
  | inl same ↦ ap (λ b. not b && held q p) same ∙ sym (at_this (λ n r. held' n r ≡ false) c g q p same there)
  | inr kept ↦ ap (λ b. not b && held q p) kept ∙ sym (others q p kept)
]

-- one is removed, and then one is added
pub instead_as : (held held' : ℕ → Holder → Bool) (c : ℕ) (g : Holder) (d : ℕ) (k : Holder)
    → (is_this d k c g ≡ false → held' c g ≡ false) → held' d k ≡ true
    → ((q : ℕ) (p : Holder) → is_either c g d k q p ≡ false → held' q p ≡ held q p)
    → (q : ℕ) (p : Holder) → with_holder (without_holder held c g) d k q p ≡ held' q p
instead_as held held' c g d k gone there others =
    with_as (without_holder held c g) held' d k there (λ q p kept. elim (cases_Bool (is_this c g q p)) [
      | inl same ↦ at_this (λ n r. is_this d k n r ≡ false → held' n r ≡ false) c g q p same gone kept
          ∙ sym (ap (λ b. not b && held q p) same)
      | inr other ↦ others q p (or_from _ _ other kept) ∙ sym (ap (λ b. not b && held q p) other)
    ])

-- ---- where two worlds show the same holders

-- but for these, all places that aren't entries are as they were
pub record Elsewhere (h h' : Heap) (these : ℕ → Holder → Bool) : Type 0 where
  pub frames : (j i q : ℕ) → is_immortal q ≡ false → these q (holders.Frame j i) ≡ false
      → is_number (place_at (frame_at h' j) i) q ≡ is_number (place_at (frame_at h j) i) q
  pub queues : (j q : ℕ) → these q (holders.Queue j q) ≡ false → bit_of (queue_at h' j) q ≡ bit_of (queue_at h j) q
  pub popped : (j q : ℕ) → these q (holders.Popped j q) ≡ false → bit_of (popped_at h' j) q ≡ bit_of (popped_at h j) q
  pub hands : (j q : ℕ) → these q (holders.Hand j q) ≡ false
      → carries q (row_at h' j).hand ≡ carries q (row_at h j).hand

-- of a place that names its cell
named_alike : (d q : ℕ) (a b : Bool) → (d ≡ q → a ≡ b)
    → (not (is_immortal q) && ((d == q) && a)) ≡ (not (is_immortal q) && ((d == q) && b))
named_alike d q a b alike = elim (cases_eq d q) [
  | inl same ↦ ap (λ x. not (is_immortal q) && ((d == q) && x)) (alike same)
  | inr other ↦ ap (λ x. not (is_immortal q) && (x && a)) (ne_eqb d q other)
      ∙ sym (ap (λ x. not (is_immortal q) && (x && b)) (ne_eqb d q other))
]

pub elsewhere : (h h' : Heap) (these : ℕ → Holder → Bool) → Elsewhere h h' these → (q : ℕ) (p : Holder)
    → these q p ≡ false → (map_of h').held q p ≡ (map_of h).held q p
elsewhere h h' these same q (holders.Frame j i) kept = elim (cases_Bool (is_immortal q)) [
  | inl immortal ↦ ap (λ b. not b && is_number (place_at (frame_at h' j) i) q) immortal
      ∙ sym (ap (λ b. not b && is_number (place_at (frame_at h j) i) q) immortal)
  | inr mortal ↦ ap (λ b. not (is_immortal q) && b) (same.frames j i q mortal kept)
]
elsewhere h h' these same q (holders.Entry d i) kept = refl
elsewhere h h' these same q (holders.Queue j d) kept =
    named_alike d q _ _ (λ e. ap (λ n. n == 1)
    (same.queues j q (subst (λ n. these q (holders.Queue j n) ≡ false) e kept)))
elsewhere h h' these same q (holders.Popped j d) kept =
    named_alike d q _ _ (λ e. ap (λ n. n == 1)
    (same.popped j q (subst (λ n. these q (holders.Popped j n) ≡ false) e kept)))
elsewhere h h' these same q (holders.Hand j d) kept =
    named_alike d q _ _ (λ e. same.hands j q (subst (λ n. these q (holders.Hand j n) ≡ false) e kept))

-- the thread's own places in the new world; those of other threads are as they were
pub record Own (h h' : Heap) (t : ℕ) (f : List (Option ℕ)) (words : List ℕ) (carried : Hand) : Type 0 where
  pub frame : frame_at h' t ≡ f
  pub popped : popped_at h' t ≡ words
  pub hand : (row_at h' t).hand ≡ carried
  pub frames : (j : ℕ) → j ≢ t → frame_at h' j ≡ frame_at h j
  pub poppeds : (j : ℕ) → j ≢ t → popped_at h' j ≡ popped_at h j
  pub hands : (j : ℕ) → j ≢ t → (row_at h' j).hand ≡ (row_at h j).hand

-- what holds of the thread's own and of the others' old parts holds of all
pub by_owner : {A : Type 0} (P : ℕ → A → Type 0) (old new : ℕ → A) (t : ℕ) (v : A) → new t ≡ v
    → ((j : ℕ) → j ≢ t → new j ≡ old j) → P t v → ((j : ℕ) → P j (old j)) → (j : ℕ) → P j (new j)
by_owner {A} P old new t v own others here there j = elim (cases_eq j t) [
  | inl same ↦ subst (λ n. P n (new n)) (sym same) (subst (P t) (sym own) here)
  | inr other ↦ subst (P j) (sym (others j other)) (there j)
]

pub own_elsewhere : (h h' : Heap) (t : ℕ) (frame : List (Option ℕ)) (popped : List ℕ) (hand : Hand) (these : ℕ → Holder
    → Bool) → Own h h' t frame popped hand
    → ((i q : ℕ) → is_immortal q ≡ false → these q (holders.Frame t i) ≡ false
    → is_number (place_at frame i) q ≡ is_number (place_at (frame_at h t) i) q)
    → ((q : ℕ) → these q (holders.Popped t q) ≡ false → bit_of popped q ≡ bit_of (popped_at h t) q)
    → ((q : ℕ) → these q (holders.Hand t q) ≡ false → carries q hand ≡ carries q (row_at h t).hand)
    → ((j q : ℕ) → these q (holders.Queue j q) ≡ false → bit_of (queue_at h' j) q ≡ bit_of (queue_at h j) q)
    → Elsewhere h h' these
own_elsewhere h h' t frame popped hand these own frames pops hands queues = record {
  frames = λ j i q mortal.
      by_owner (λ n (f : List (Option ℕ)). these q (holders.Frame n i) ≡ false
      → is_number (place_at f i) q ≡ is_number (place_at (frame_at h n) i) q)
      (frame_at h) (frame_at h') t frame own.frame own.frames (frames i q mortal) (λ n _. refl) j;
  queues = queues;
  popped = λ j q.
      by_owner (λ n (words : List ℕ). these q (holders.Popped n q) ≡ false → bit_of words q ≡ bit_of (popped_at h n) q)
      (popped_at h) (popped_at h') t popped own.popped own.poppeds (pops q) (λ n _. refl) j;
  hands = λ j q.
      by_owner (λ n (x : Hand). these q (holders.Hand n q) ≡ false → carries q x ≡ carries q (row_at h n).hand)
      (λ n. (row_at h n).hand) (λ n. (row_at h' n).hand) t hand own.hand own.hands (hands q) (λ n _. refl) j;
}

pub stepped_own : (h : Heap) (t : ℕ) (s : Step) (c : ℕ) → IsSound h → t < length h.rows
    → Own h (stepped h t s c) t (frame_after s c (cell_at h c) (entries_at h c) (frame_at h t))
    (popped_after s (popped_at h t)) (hand_after s c (cell_at h c) (is_shut h c) (row_at h t).hand)
stepped_own h t s c sound inside = record {
  frame = read_here h.frames t _ [] (omega (arith, sound.shaped.frames, inside));
  popped = read_here h.popped t _ [] (omega (arith, sound.shaped.popped, inside));
  hand = ap (λ (row : Row). row.hand) (read_here h.rows t _ no_row inside);
  frames = λ j other. read_there h.frames t j _ [] other;
  poppeds = λ j other. read_there h.popped t j _ [] other;
  hands = λ j other. ap (λ (row : Row). row.hand) (read_there h.rows t j _ no_row other);
}

pub kept_own : (h : Heap) (t : ℕ) (s : Step) → IsSound h → t < length h.rows
    → Own h (kept_cells h t s) t (frame_at h t) (with_drained (drained_word s) (queue_at h t) (popped_at h t))
    (row_at h t).hand
kept_own h t s sound inside = record {
  frame = refl;
  popped = read_here h.popped t _ [] (omega (arith, sound.shaped.popped, inside));
  hand = ap (λ (row : Row). row.hand) (read_here h.rows t _ no_row inside);
  frames = λ j other. refl;
  poppeds = λ j other. read_there h.popped t j _ [] other;
  hands = λ j other. ap (λ (row : Row). row.hand) (read_there h.rows t j _ no_row other);
}

-- ---- lives and kinds stay

pub record Lasting (h h' : Heap) : Type 0 where
  pub live : (q : ℕ) → lives_at h' q ≡ lives_at h q
  pub kind : (q : ℕ) → (cell_at h' q).kind ≡ (cell_at h q).kind

pub kind_kept : (t : ℕ) (s : Step) (c : ℕ) (x : Cell) → is_birth s ≡ false → (cell_after t s c x).kind ≡ x.kind
kind_kept t (Birth d kind k) c x plain = absurd (true≢false plain)
kind_kept t (LocalUp source k) c x plain = either_way (λ (y : Cell). y.kind) (is_immortal c) x _ x.kind refl refl
kind_kept t (LocalDown drop) c x plain = either_way (λ (y : Cell). y.kind) (is_immortal c) x _ x.kind refl refl
kind_kept t (Ask drop) c x plain = either_way (λ (y : Cell). y.kind) _ _ x x.kind refl refl
kind_kept t _ c x plain = refl

kinds_last : (h : Heap) (t : ℕ) (s : Step) (o : Option ℕ) (q : ℕ) → is_birth s ≡ false
    → target_ok h t (row_at h t) s o ≡ true → (cell_at (after_target h t s o) q).kind ≡ (cell_at h q).kind
kinds_last h t s None q plain ok = refl
kinds_last h t s (Some c) q plain ok =
    read_by (λ j (y : Cell). y.kind ≡ (cell_at h j).kind) h.cells c (cell_after t s c (cell_at h c)) no_cell
    (on_cell h t s c ok).inside (kind_kept t s c (cell_at h c) plain) (λ j _. refl) q

pub lasting : (h : Heap) (t : ℕ) (s : Step) → IsSound h → thread_may h t s ≡ true → is_of_life s ≡ false
    → Lasting h (after_target h t s (target_at h t s))
lasting h t s sound ok plain = record {
  live = λ q. step_lives h t s q sound ok ∙ lives_stay s q (lives_at h q) plain;
  kind = λ q. kinds_last h t s (target_at h t s) q (or_parts _ _ plain).0 (may_parts h t s ok).on_target;
}

-- ---- one move, where entries stay

pub same_held : (h h' : Heap) (held : ℕ → Holder → Bool) → Lasting h h' → ((q : ℕ) → entries_at h' q ≡ entries_at h q)
    → ((q : ℕ) (p : Holder) → held q p ≡ (map_of h').held q p)
    → Same (record (map_of h) { held = held }) (map_of h')
same_held h h' held last entries same = record {
  live = λ q. sym (last.live q);
  kind = λ q _. sym (last.kind q);
  entries = λ q. sym (entries q);
  held = same;
}

-- the same where one object's entries change
pub entries_map : (h h' : Heap) (c : ℕ) (xs : List ℕ) (held : ℕ → Holder → Bool) → c < length h.entries → Lasting h h'
    → ((q : ℕ) → entries_at h' q ≡ get_or (set h.entries c xs) q [])
    → ((q : ℕ) (p : Holder) → held q p ≡ (map_of h').held q p)
    → Same (record (map_of h) { entries = put (entries_at h) c xs; held = held }) (map_of h')
entries_map h h' c xs held within last entries same = record {
  live = λ q. sym (last.live q);
  kind = λ q _. sym (last.kind q);
  entries = λ q. sym (entries q ∙ put_after (entries_at h) (λ j. get_or (set h.entries c xs) j []) c xs
      (read_here h.entries c xs [] within) (λ j other. read_there h.entries c j xs [] other) q);
  held = same;
}

pub same_map : (h h' : Heap) → Lasting h h' → ((q : ℕ) → entries_at h' q ≡ entries_at h q) → Elsewhere h h' is_none
    → Same (map_of h) (map_of h')
same_map h h' last entries same = same_held h h' (map_of h).held last entries
    (λ q p. sym (elsewhere h h' is_none same q p refl))

pub added_map : (h h' : Heap) (c : ℕ) (g : Holder) → Lasting h h' → ((q : ℕ) → entries_at h' q ≡ entries_at h q)
    → (map_of h').held c g ≡ true → Elsewhere h h' (is_this c g)
    → Same (record (map_of h) { held = with_holder (map_of h).held c g }) (map_of h')
added_map h h' c g last entries there same = same_held h h' _ last entries
    (with_as (map_of h).held (map_of h').held c g there (elsewhere h h' (is_this c g) same))

pub removed_map : (h h' : Heap) (c : ℕ) (g : Holder) → Lasting h h' → ((q : ℕ) → entries_at h' q ≡ entries_at h q)
    → (map_of h').held c g ≡ false → Elsewhere h h' (is_this c g)
    → Same (record (map_of h) { held = without_holder (map_of h).held c g }) (map_of h')
removed_map h h' c g last entries gone same = same_held h h' _ last entries
    (without_as (map_of h).held (map_of h').held c g gone (elsewhere h h' (is_this c g) same))

pub passed_map : (h h' : Heap) (c : ℕ) (g : Holder) (d : ℕ) (k : Holder) → Lasting h h'
    → ((q : ℕ) → entries_at h' q ≡ entries_at h q)
    → (is_this d k c g ≡ false → (map_of h').held c g ≡ false) → (map_of h').held d k ≡ true
    → Elsewhere h h' (is_either c g d k)
    → Same (record (map_of h) { held = with_holder (without_holder (map_of h).held c g) d k }) (map_of h')
passed_map h h' c g d k last entries gone there same = same_held h h' _ last entries
    (instead_as (map_of h).held (map_of h').held c g d k gone there (elsewhere h h' (is_either c g d k) same))

-- ---- what the map of a world shows

pub frame_shows : (h : Heap) (t k c : ℕ) → FIRST_MORTAL ≤ c → place_at (frame_at h t) k ≡ Some c
    → (map_of h).held c (holders.Frame t k) ≡ true
frame_shows h t k c mortal there = ap (λ b. not b && is_number (place_at (frame_at h t) k) c) (mortal_number c mortal)
    ∙ number_is _ c there

pub frame_hides : (h : Heap) (t k q : ℕ) → is_number (place_at (frame_at h t) k) q ≡ false
    → (map_of h).held q (holders.Frame t k) ≡ false
frame_hides h t k q none = and_right (not (is_immortal q)) _ none

cell_shows : (q : ℕ) (b : Bool) → FIRST_MORTAL ≤ q → b ≡ true → (not (is_immortal q) && ((q == q) && b)) ≡ true
cell_shows q b mortal there = ap (λ i. not i && ((q == q) && b)) (mortal_number q mortal)
    ∙ ap (λ x. x && b) (eq-eqb q q refl) ∙ there

cell_hides : (q d : ℕ) (b : Bool) → b ≡ false → (not (is_immortal q) && ((d == q) && b)) ≡ false
cell_hides q d b none = and_right (not (is_immortal q)) _ (and_right (d == q) b none)

pub hand_shows : (h : Heap) (t c : ℕ) → FIRST_MORTAL ≤ c → carries c (row_at h t).hand ≡ true
    → (map_of h).held c (holders.Hand t c) ≡ true
hand_shows h t c mortal there = cell_shows c _ mortal there

pub hand_hides : (h : Heap) (t d q : ℕ) → carries q (row_at h t).hand ≡ false
    → (map_of h).held q (holders.Hand t d) ≡ false
hand_hides h t d q none = cell_hides q d _ none

zero_bit : (n : ℕ) → n ≡ 0 → (n == 1) ≡ false
zero_bit n e = ne_eqb n 1 (λ one. omega (arith, e, one))

pub queue_shows : (h : Heap) (t c : ℕ) → FIRST_MORTAL ≤ c → bit_of (queue_at h t) c ≡ 1
    → (map_of h).held c (holders.Queue t c) ≡ true
queue_shows h t c mortal there = cell_shows c _ mortal (eq-eqb _ 1 there)

pub queue_hides : (h : Heap) (t d q : ℕ) → bit_of (queue_at h t) q ≡ 0 → (map_of h).held q (holders.Queue t d) ≡ false
queue_hides h t d q none = cell_hides q d _ (zero_bit _ none)

pub popped_shows : (h : Heap) (t c : ℕ) → FIRST_MORTAL ≤ c → bit_of (popped_at h t) c ≡ 1
    → (map_of h).held c (holders.Popped t c) ≡ true
popped_shows h t c mortal there = cell_shows c _ mortal (eq-eqb _ 1 there)

pub popped_hides : (h : Heap) (t d q : ℕ) → bit_of (popped_at h t) q ≡ 0
    → (map_of h).held q (holders.Popped t d) ≡ false
popped_hides h t d q none = cell_hides q d _ (zero_bit _ none)

-- ---- what nothing holds has no holder in the map

place_unheld : (q : ℕ) (frame : List (Option ℕ)) (k : ℕ) → times q frame ≡ 0 → is_number (place_at frame k) q ≡ false
place_unheld q frame k none = number_differs (place_at frame k) q
    (λ e. omega (arith, none, place_is_held q frame k q e, ap one (eq-eqb q q refl)))

entry_unheld : (h : Heap) (q d i : ℕ) → Unheld h q → is_number (slice_get (entries_at h d) i) q ≡ false
entry_unheld h q d i none = number_differs (slice_get (entries_at h d) i) q
    (λ e. omega (
      arith,
      none.entries,
      entry_is_held q (entries_at h d) i q e,
      ap one (eq-eqb q q refl),
      sum_one (entry_times q) h.entries d [] refl,
    ))

-- no place that isn't an entry holds it
pub no_place : (h : Heap) (q : ℕ) (g : Holder) → Unheld h q → (map_of h).held q g ≡ false
no_place h q (holders.Frame t k) none = frame_hides h t k q (place_unheld q (frame_at h t) k (none.frames t))
no_place h q (holders.Entry d i) none = and_right (not (is_immortal q)) false refl
no_place h q (holders.Queue t d) none = queue_hides h t d q (omega (arith, none.bits t))
no_place h q (holders.Popped t d) none = popped_hides h t d q (omega (arith, none.bits t))
no_place h q (holders.Hand t d) none = hand_hides h t d q (one-false _ (none.hands t))

-- nor does any place of a map with the same entries and the same holders of it
pub unheld_in : (h : Heap) (q : ℕ) (held : ℕ → Holder → Bool) → Unheld h q → ((g : Holder) → held q g ≡ false)
    → IsUnheld (record (map_of h) { held = held }) q
unheld_in h q held none places (holders.Frame t k) = and_right (lives_at h q) _ (places (holders.Frame t k))
unheld_in h q held none places (holders.Entry d i) = and_right (lives_at h q) _ (entry_unheld h q d i none)
unheld_in h q held none places (holders.Queue t d) = and_right (lives_at h q) _ (places (holders.Queue t d))
unheld_in h q held none places (holders.Popped t d) = and_right (lives_at h q) _ (places (holders.Popped t d))
unheld_in h q held none places (holders.Hand t d) = and_right (lives_at h q) _ (places (holders.Hand t d))

pub is_unheld : (h : Heap) (q : ℕ) → Unheld h q → IsUnheld (map_of h) q
is_unheld h q none = unheld_in h q (map_of h).held none (λ g. no_place h q g none)

-- a place that shows no mortal cell is vacant in the map
pub is_vacant_place : (h : Heap) (t k : ℕ)
    → ((q : ℕ) → FIRST_MORTAL ≤ q → is_number (place_at (frame_at h t) k) q ≡ false) → IsVacant (map_of h) t k
is_vacant_place h t k none q = and_right (lives_at h q) _ (elim (cases_Bool (is_immortal q)) [
  | inl immortal ↦ ap (λ b. not b && is_number (place_at (frame_at h t) k) q) immortal
  | inr mortal ↦ frame_hides h t k q (none q (ltb-false q FIRST_MORTAL mortal))
])

-- ---- places of a frame

-- a frame that differs in one place
pub place_alike : (frame frame' : List (Option ℕ)) (k i q : ℕ)
    → ((j : ℕ) → j ≢ k → place_at frame' j ≡ place_at frame j)
    → (i ≡ k → is_number (place_at frame' k) q ≡ is_number (place_at frame k) q)
    → is_number (place_at frame' i) q ≡ is_number (place_at frame i) q
place_alike frame frame' k i q others here = elim (cases_eq i k) [
  | inl same ↦ ap (λ n. is_number (place_at frame' n) q) same ∙ here same
      ∙ sym (ap (λ n. is_number (place_at frame n) q) same)
  | inr other ↦ ap (λ o. is_number o q) (others i other)
]

pub vacated_here : (frame : List (Option ℕ)) (k : ℕ) → place_at (vacated frame k) k ≡ None
vacated_here frame k = elim (cases_lt k (length frame)) [
  | inl inside ↦ get_or-set_same frame k None None inside
  | inr past ↦ get_or_past (vacated frame k) k None (subst (λ n. n ≤ k) (sym (length-set frame k None)) past)
]

-- a filled place shows the cell; what stood there must have been another one than this
pub filled_alike : (frame : List (Option ℕ)) (k c i q : ℕ) → (i ≡ k → is_number (place_at frame k) q ≡ false)
    → (i ≡ k → q ≢ c)
    → is_number (place_at (filled frame k c) i) q ≡ is_number (place_at frame i) q
filled_alike frame k c i q old new = place_alike frame (filled frame k c) k i q
    (λ j other. place_at-filled_else frame k c j other)
    (λ same. ap (λ o. is_number o q) (place_at-filled_here frame k c) ∙ ne_eqb c q (λ e. new same (sym e))
    ∙ sym (old same))

pub vacated_alike : (frame : List (Option ℕ)) (k c i q : ℕ) → place_at frame k ≡ Some c → (i ≡ k → q ≢ c)
    → is_number (place_at (vacated frame k) i) q ≡ is_number (place_at frame i) q
vacated_alike frame k c i q there new = place_alike frame (vacated frame k) k i q
    (λ j other. place_at-vacated_else frame k j other)
    (λ same. ap (λ o. is_number o q) (vacated_here frame k)
    ∙ sym (ap (λ o. is_number o q) there ∙ ne_eqb c q (λ e. new same (sym e))))

pub none_shows : (frame : List (Option ℕ)) (k q : ℕ) → place_at frame k ≡ None → is_number (place_at frame k) q ≡ false
none_shows frame k q none = ap (λ o. is_number o q) none

-- ---- a thread's step at its cell

-- what stands at the cell of an enabled step that is no birth and no free
pub record AtCell (h : Heap) (t : ℕ) (s : Step) (c : ℕ) : Type 0 where
  pub named : target_at h t s ≡ Some c
  pub may : May h t s
  pub inside : c < length h.cells
  pub fits : cell_ok h.limit t (row_at h t) s c (cell_at h c) ≡ true
  pub lasting : Lasting h (stepped h t s c)
  pub own : Own h (stepped h t s c) t (frame_after s c (cell_at h c) (entries_at h c) (frame_at h t))
      (popped_after s (popped_at h t)) (hand_after s c (cell_at h c) (is_shut h c) (row_at h t).hand)

pub at_named : (h : Heap) (t : ℕ) (s : Step) (c : ℕ) → target_at h t s ≡ Some c → IsSound h → thread_may h t s ≡ true
    → is_of_life s ≡ false → AtCell h t s c
at_named h t s c named sound ok plain =
    let may : May h t s = may_parts h t s ok in
    let on : OnCell h t s c =
    on_cell h t s c (subst (λ o. target_ok h t (row_at h t) s o ≡ true) named may.on_target) in
    record {
      named = named;
      may = may;
      inside = on.inside;
      fits = on.fits;
      lasting = subst (λ o. Lasting h (after_target h t s o)) named (lasting h t s sound ok plain);
      own = stepped_own h t s c sound may.inside;
    }

-- a step that needs a cell has one
pub moves_at : (A : Type 0) (h : Heap) (t : ℕ) (s : Step) → IsSound h → thread_may h t s ≡ true → is_of_life s ≡ false
    → needs_no_cell s ≡ false
    → ((c : ℕ) → AtCell h t s c → MakesMoves {A = A} (map_of h) (moves_of h t s (Some c)) (map_of (stepped h t s c)))
    → MakesMoves {A = A} (map_of h) (moves_of h t s (target_at h t s)) (map_of (after_target h t s (target_at h t s)))
moves_at A h t s sound ok plain needs step = named_by (target_at h t s) refl
  where
    named_by : (o : Option ℕ) → target_at h t s ≡ o → MakesMoves {A = A} (map_of h) (moves_of h t s o)
        (map_of (after_target h t s o))
    named_by None named = absurd
        (true≢false (sym (subst (λ o. target_ok h t (row_at h t) s o ≡ true) named
        (may_parts h t s ok).on_target) ∙ needs))
    named_by (Some c) named = step c (at_named h t s c named sound ok plain)

-- a step that moves no reference
pub quiet_step : (h : Heap) (t : ℕ) (s : Step) (c : ℕ) → AtCell h t s c → frame_after s c (cell_at h c) (entries_at h c)
    (frame_at h t) ≡ frame_at h t → popped_after s (popped_at h t) ≡ popped_at h t
    → ((q : ℕ) → carries q (hand_after s c (cell_at h c) (is_shut h c) (row_at h t).hand) ≡ carries q (row_at h t).hand)
    → queues_after h s c ≡ h.queues
    → ((q : ℕ) → entries_at (stepped h t s c) q ≡ entries_at h q) → Same (map_of h) (map_of (stepped h t s c))
quiet_step h t s c at frame popped hand queues entries =
    same_map h (stepped h t s c) at.lasting entries
    (own_elsewhere h (stepped h t s c) t _ _ _ is_none at.own
    (λ i q _ _. ap (λ (f : List (Option ℕ)). is_number (place_at f i) q) frame)
    (λ q _. ap (λ words. bit_of words q) popped) (λ q _. hand q)
    (λ j q _. ap (λ (lists : List (List ℕ)). bit_of (get_or lists j []) q) queues))
