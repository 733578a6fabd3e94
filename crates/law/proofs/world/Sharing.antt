-- Everyone but the owner counts on the shared word: up, down, asking, and the last references.
use Rattle.std.proofs.Common.{◌≡◌, ◌≢◌, ℕ, ◌+◌, ◌<◌, ◌≤◌, ◌==◌, ◌&&◌, not, Bool, true, false, if◌then◌else◌, ℤ, pos}
use Rattle.std.proofs.Common.{negsuc, ◌+ℤ◌, ◌-ℤ◌, ◌≤ℤ◌, List, [], length, get_or, set, Option, Some, None, refl, sym}
use Rattle.std.proofs.Common.{◌∙◌, ap, subst, inl, inr, arith}
use Rattle.std.proofs.lemmas.Bool.{cases_Bool, eq-eqb, ne_eqb, and_parts, not-true, ltb-true, ltb-false, true≢false}
use Rattle.std.proofs.lemmas.Int.{ints}
use Rattle.brc_words.specs.declared.limits.TheConstants.{FIRST_MORTAL}
use Rattle.brc_words.specs.declared.owner.Owner.{Owner}
use Rattle.brc_words.specs.declared.owner.Owner.TheVariants as owners
use Rattle.brc_words.specs.declared.state.State.{State}
use Rattle.brc_words.specs.declared.state.State.TheVariants as states
use Rattle.law.specs.declared.world.row.Role.{Role}
use Rattle.law.specs.declared.world.row.Role.TheVariants as roles
use Rattle.law.specs.world.Phases.{role_of, refers, merges, ends, is_ending, has_reference, is_gripping}
use Rattle.law.specs.declared.world.cell.Cell.{Cell}
use Rattle.law.specs.declared.world.edition.Edition.{Edition}
use Rattle.law.specs.declared.world.event.Dropped.{Dropped}
use Rattle.law.specs.declared.world.event.LastDropped.TheVariants as lasts
use Rattle.law.specs.declared.world.event.Step.{Step}
use Rattle.law.specs.declared.world.event.Step.TheVariants.{SharedUp, SharedDown, Ask, LastDown}
use Rattle.law.specs.declared.world.event.Source.{Source}
use Rattle.law.specs.declared.world.row.Row.{Row}
use Rattle.law.specs.declared.world.row.Hand.{Hand}
use Rattle.law.specs.declared.world.row.Hand.TheVariants as hands
use Rattle.law.specs.declared.world.row.Phase.{Phase}
use Rattle.law.specs.declared.world.row.Phase.TheVariants as phases
use Rattle.law.specs.declared.world.row.Stage.{Stage}
use Rattle.law.specs.world.Lists.{one, is_marked}
use Rattle.law.specs.world.Heap.{Heap, cell_at, entries_at, row_at, frame_at, popped_at, worklist_at, is_immortal}
use Rattle.law.specs.world.Heap.{no_row}
use Rattle.law.specs.world.Steps.{after_target, target_ok, source_cell, dropped_cell, cell_in_hand, frame_without}
use Rattle.law.specs.world.Steps.{entries_without, is_default, is_queued, is_merged, is_zero, is_positive, is_nobody}
use Rattle.law.specs.world.Steps.{is_ending_hand, ends_ok}
use Rattle.law.specs.world.Holding.{lives, carries, count_of_state}
use Rattle.law.specs.world.Sound.{IsSound, CellFits, PhaseFits, WorklistFits, counted_in, grips_of, grips_by_owner}
use Rattle.law.specs.world.Sound.{grips, is_active_hand, held, asks, asks_least, asks_most, is_threads, rests_at}
use Rattle.law.specs.world.Sound.{offering, offered, Offered}
use Rattle.law.proofs.world.Naming.{merged_state, no_mark, one-le, free_hand, busy_carrier, live_counts, zero_count}
use Rattle.law.proofs.world.Naming.{default_state, grips_free, carries_free, sum_one, same_phase, offers_free}
use Rattle.law.proofs.world.Naming.{same_shut}
use Rattle.law.proofs.world.Asking.{May, OnCell, on_cell, vacant}
use Rattle.law.proofs.world.Birthing.{active_from, one_and}
use Rattle.law.proofs.world.Counting.{Raises, up_fits, Downs, held_unmarked}
use Rattle.law.proofs.world.Changes.{same_entries}
use Rattle.law.proofs.world.Plainly.{plain_sound}
use Rattle.law.proofs.world.Turning.{Acts, acts, Turn, turn_sound}
use Rattle.law.proofs.world.Merging.{held_owner, carried_held, taken_marks, marked_so, nonzero, busy_same}
use Rattle.law.proofs.world.Dropping.{source_held, dropped_held, drop_downs}

-- ---- the shared count alone changes

-- the words of a live object, at another shared count
pub moved_counts : (x : Cell) (n : ℤ) → lives x.owner ≡ true → counted_in (record x { count = n }) +ℤ x.count
    ≡ counted_in x +ℤ n
moved_counts x n live =
    let new = live_counts (record x { count = n }) live in
    let old = live_counts x live in
    omega (arith, ints, new, old, by_state x.state)
  where
    by_state : (s : State) → count_of_state s x.local n +ℤ x.count ≡ count_of_state s x.local x.count +ℤ n
    by_state states.Default = omega (arith, ints)
    by_state states.Queued = omega (arith, ints)
    by_state states.Merged = omega (arith, ints)

-- what grips the object doesn't hang on the count before the merge
same_grips : (o : Owner) (s : State) (local : ℕ) (n m : ℤ) → (is_merged s ≡ true → is_zero n ≡ is_zero m)
    → grips_by_owner o s local n ≡ grips_by_owner o s local m
same_grips owners.Nobody states.Default local n m same = refl
same_grips owners.Nobody states.Queued local n m same = refl
same_grips owners.Nobody states.Merged local n m same = ap one (same refl)
same_grips (owners.Thread t) s local n m same = refl
same_grips (owners.Claimed t) s local n m same = refl
same_grips owners.Free s local n m same = refl

-- no hand looks at the count
pub count_hands : (h : Heap) (t c : ℕ) (n : ℤ) → IsSound h → (s : ℕ) (p : Phase) → s ≢ t
    → (row_at h s).hand ≡ hands.Busy p c
    → PhaseFits h.edition s (row_at h s) (popped_at h s) (record (cell_at h c) { count = n })
    (row_at h (cell_at h c).bearer).stage c p
count_hands h t c n sound s p ne busy = same_phase h.edition s (row_at h s) (popped_at h s) (cell_at h c)
    (record (cell_at h c) { count = n }) _ c p refl refl refl refl (sound.hands s c p busy).fits

pub count_cell : (threads limit : ℕ) (resting : ℕ → Bool) (x : Cell) (n : ℤ) (old new : List ℕ) → lives x.owner ≡ true
    → (x.state ≡ states.Default → pos 0 ≤ℤ n) → (old ≡ [] → new ≡ []) → length new ≤ length old
    → CellFits threads limit resting x old → CellFits threads limit resting (record x { count = n }) new
count_cell threads limit resting x n old new live default empty few fits = record {
  default = default;
  owned_unmerged = fits.owned_unmerged;
  owned_by_bearer = fits.owned_by_bearer;
  rested = fits.rested;
  dead_empty = λ dead. absurd (true≢false (sym live ∙ dead));
  dead_count = λ dead. absurd (true≢false (sym live ∙ dead));
  born = fits.born;
  limited = fits.limited;
  plain = λ plain. empty (fits.plain plain);
  few = omega (arith, few, fits.few);
}

-- the count of a merged object is the number of its holders
merged_total : (s : State) (local : ℕ) (n : ℤ) → is_merged s ≡ true → count_of_state s local n ≡ n
merged_total states.Default local n merged = absurd (true≢false (sym merged))
merged_total states.Queued local n merged = absurd (true≢false (sym merged))
merged_total states.Merged local n merged = refl

merged_held : (h : Heap) (c : ℕ) → IsSound h → FIRST_MORTAL ≤ c → lives (cell_at h c).owner ≡ true
    → is_merged (cell_at h c).state ≡ true → (cell_at h c).count ≡ pos (held h c)
merged_held h c sound mortal live merged =
    let x : Cell = cell_at h c in
    sym (live_counts x live ∙ merged_total x.state x.local x.count merged) ∙ sound.counted c mortal

-- ---- up

raises_shared : (h : Heap) (t c : ℕ) → IsSound h → FIRST_MORTAL ≤ c → 1 ≤ held h c
    → Raises h t c (record (cell_at h c) { count = (cell_at h c).count +ℤ pos 1 })
raises_shared h t c sound mortal some =
    let x : Cell = cell_at h c in
    let live : lives x.owner ≡ true = held_owner h c sound mortal some in
    let merged : is_merged x.state ≡ true → is_zero (x.count +ℤ pos 1) ≡ is_zero x.count = λ merged.
    let count : x.count ≡ pos (held h c) = merged_held h c sound mortal live merged in
    nonzero (x.count +ℤ pos 1) (held h c + 1) (omega (arith, ints, count)) (omega arith)
    ∙ sym (nonzero x.count (held h c) count some) in
    record {
      immortal = λ low. absurd (omega (arith, low, mortal));
      mutex = refl;
      bearer = refl;
      owner = refl;
      state = refl;
      counted = λ _. omega (arith, ints, moved_counts x (x.count +ℤ pos 1) live);
      gripped = λ _. same_grips x.owner x.state x.local (x.count +ℤ pos 1) x.count merged;
      hands_else = count_hands h t c (x.count +ℤ pos 1) sound;
      cell = λ _. count_cell _ _ _ x (x.count +ℤ pos 1) (entries_at h c) (entries_at h c) live
          (λ e. omega (arith, ints, (sound.cells c mortal).default e)) (λ e. e) (omega arith) (sound.cells c mortal);
      worklists = λ s on. absurd (no_mark _ (held_unmarked h s c sound some) on);
    }

pub shared_up_sound : (h : Heap) (t k : ℕ) (source : Source) (o : Option ℕ) → IsSound h → May h t (SharedUp source k)
    → source_cell (row_at h t) (frame_at h t) (entries_at h) source ≡ o
    → target_ok h t (row_at h t) (SharedUp source k) o ≡ true
    → IsSound (after_target h t (SharedUp source k) o)
shared_up_sound h t k source None sound may named ok = absurd (true≢false (sym ok))
shared_up_sound h t k source (Some c) sound may named ok =
    let at_cell : OnCell h t (SharedUp source k) c = on_cell h t (SharedUp source k) c ok in
    let parts = and_parts _ _ at_cell.fits in
    let mortal : FIRST_MORTAL ≤ c = ltb-false c FIRST_MORTAL (not-true _ parts.0) in
    plain_sound h t c _ _ _ _ _ sound (up_fits h t c k _ sound (record {
      thread = may.some_thread;
      inside = may.inside;
      cell_inside = at_cell.inside;
      place = vacant _ k may.own;
      active = active_from _ (SharedUp source k) may.stage refl refl refl;
      here = may.not_gathered;
      hand = free_hand _ may.hand;
    }) (raises_shared h t c sound mortal (source_held h t c source named mortal)))

-- ---- one reference goes, or becomes the hand's

-- what is common to all that lets a place or an entry go
record Lets (h : Heap) (t c : ℕ) (x : Cell) (now : Hand) (f : List (Option ℕ)) (w : List Bool)
    (es : List (List ℕ)) : Type 0 where
  acts : Acts h t
  downs : Downs h t c f es
  mortal : FIRST_MORTAL ≤ c
  some : 1 ≤ held h c
  mutex : x.mutex ≡ (cell_at h c).mutex
  bearer : x.bearer ≡ (cell_at h c).bearer
  live : lives x.owner ≡ lives (cell_at h c).owner
  counted : counted_in x +ℤ pos 1 ≡ counted_in (cell_at h c) +ℤ pos (one (carries c now))
  gripped : grips_of x ≡ grips_of (cell_at h c) + one (is_marked w c)
  no_grip : one (grips c now) ≡ 0
  most : asks h c + one (carries c now) ≤ asks_most x
  least : asks_least x ≤ asks h c + offered h c + one (carries c now)
  after : (p : Phase) (d : ℕ) → now ≡ hands.Busy p d
      → (d ≡ c) × PhaseFits h.edition t (record (row_at h t) { hand = now }) (popped_at h t) x
      (row_at h x.bearer).stage c p
  idle : is_active_hand now ≡ false
  hands_else : (s : ℕ) (p : Phase) → s ≢ t → (row_at h s).hand ≡ hands.Busy p c
      → PhaseFits h.edition s (row_at h s) (popped_at h s) x (row_at h x.bearer).stage c p
  cell : CellFits (length h.rows) h.limit (rests_at h) x (get_or es c [])
  marks : length w ≡ length (worklist_at h t)
  works_here : is_marked w c ≡ true → WorklistFits t c x
  marks_else : (q : ℕ) → q ≢ c → is_marked w q ≡ is_marked (worklist_at h t) q

lets_turn : (h : Heap) (t c : ℕ) (x : Cell) (now : Hand) (f : List (Option ℕ)) (w : List Bool) (es : List (List ℕ))
    → IsSound h → Lets h t c x now f w es → Turn h t c x now f w es
lets_turn h t c x now f w es sound lets =
    let here : one (c == c) ≡ 1 = ap one (eq-eqb c c refl) in
    let free : (row_at h t).hand ≡ hands.Free = lets.downs.hand in
    record {
      acts = lets.acts;
      cell_inside = lets.downs.cell_inside;
      mortal = lets.mortal;
      mutex = lets.mutex;
      bearer = lets.bearer;
      live = lets.live;
      vacant = lets.downs.vacant;
      places = lets.downs.places;
      marks = lets.marks;
      lists = lets.downs.lists;
      counted_here = omega (arith, ints, lets.counted, lets.downs.let_go c, here, carries_free c _ free);
      part_else = λ q ne. omega (arith, lets.downs.let_go q, ap one (ne_eqb c q (λ e. ne (sym e))));
      gripped_here = omega (
        arith,
        lets.gripped,
        lets.no_grip,
        grips_free c _ free,
        held_unmarked h t c sound lets.some,
      );
      most_here = omega (arith, lets.most, carries_free c _ free);
      least_here = omega (arith, lets.least, carries_free c _ free, offers_free c _ free);
      before = λ p d e. let bad : hands.Free ≡ hands.Busy p d = sym free ∙ e in absurd (cc);
      after = lets.after;
      idle = λ _. lets.idle;
      hands_else = lets.hands_else;
      cell = lets.cell;
      fewer = λ q _. lets.downs.fewer q;
      works_here = lets.works_here;
      marks_else = lets.marks_else;
      works_else = λ s ne on. absurd (no_mark _ (held_unmarked h s c sound lets.some) on);
    }

others_mortal : (b : Bool) (c : ℕ) → (not (is_immortal c) && b) ≡ true → FIRST_MORTAL ≤ c
others_mortal b c ok = ltb-false c FIRST_MORTAL (not-true _ (and_parts _ _ ok).0)

-- ---- down

positive_count : (n : ℤ) → is_positive n ≡ true → pos 1 ≤ℤ n
positive_count (pos n) h = omega (arith, ints, ltb-true 0 n h)
positive_count (negsuc n) h = absurd (true≢false (sym h))

unmerged_default : (s : State) → is_default s ≡ true → is_merged s ≡ false
unmerged_default states.Default h = refl
unmerged_default states.Queued h = refl
unmerged_default states.Merged h = absurd (true≢false (sym h))

pub shared_down_sound : (h : Heap) (t : ℕ) (drop : Dropped) (o : Option ℕ) → IsSound h → May h t (SharedDown drop)
    → dropped_cell (frame_at h t) (worklist_at h t) (entries_at h) drop ≡ o
    → target_ok h t (row_at h t) (SharedDown drop) o ≡ true
    → IsSound (after_target h t (SharedDown drop) o)
shared_down_sound h t drop None sound may named ok = absurd (true≢false (sym ok))
shared_down_sound h t drop (Some c) sound may named ok =
    let at_cell : OnCell h t (SharedDown drop) c = on_cell h t (SharedDown drop) c ok in
    let x : Cell = cell_at h c in
    let n : ℤ = x.count -ℤ pos 1 in
    let parts = and_parts _ _ at_cell.fits in
    let default : is_default x.state ≡ true = (and_parts _ _ parts.0).1 in
    let mortal : FIRST_MORTAL ≤ c = others_mortal _ c (and_parts _ _ parts.0).0 in
    let free : (row_at h t).hand ≡ hands.Free = free_hand _ may.hand in
    let some : 1 ≤ held h c = dropped_held h t c drop named in
    let live : lives x.owner ≡ true = held_owner h c sound mortal some in
    let who : Acts h t = acts h t (SharedDown drop) may refl refl refl in
    let downs : Downs h t c (frame_without (Some drop) (frame_at h t)) (entries_without (Some drop) h.entries) =
    drop_downs h t c drop sound who at_cell.inside free named in
    turn_sound h t c (record x { count = n }) (row_at h t).hand _ (worklist_at h t) _ sound
    (lets_turn h t c (record x { count = n }) (row_at h t).hand _ (worklist_at h t) _ sound (record {
      acts = who;
      downs = downs;
      mortal = mortal;
      some = some;
      mutex = refl;
      bearer = refl;
      live = refl;
      counted = omega (arith, ints, moved_counts x n live, carries_free c _ free);
      gripped = omega (
        arith,
        same_grips x.owner x.state x.local n x.count
            (λ merged. absurd (true≢false (sym merged ∙ unmerged_default x.state default))),
        held_unmarked h t c sound some,
      );
      no_grip = grips_free c _ free;
      most = omega (arith, sound.most c mortal, carries_free c _ free);
      least = omega (arith, sound.least c mortal);
      after = λ p d e. let bad : hands.Free ≡ hands.Busy p d = sym free ∙ e in absurd (cc);
      idle = ap is_active_hand free;
      hands_else = count_hands h t c n sound;
      cell = count_cell _ _ _ x n (entries_at h c) _ live (λ _. omega (arith, ints, positive_count x.count parts.1))
          (downs.fewer c).empty (downs.fewer c).few (sound.cells c mortal);
      marks = refl;
      works_here = λ on. absurd (no_mark _ (held_unmarked h t c sound some) on);
      marks_else = λ q _. refl;
    }))

-- ---- asking

-- a hand that isn't bearing the object sees no difference between default and queued
queued_phase : (e : Edition) (s : ℕ) (row : Row) (popped : List ℕ) (x : Cell) (g : Stage) (c : ℕ) (p : Phase)
    → x.state ≡ states.Default → lives x.owner ≡ true
    → PhaseFits e s row popped x g c p → PhaseFits e s row popped (record x { state = states.Queued }) g c p
queued_phase e s row popped x g c phases.Claimed default live fits = record { claimed = fits.claimed; more = fits.more }
queued_phase e s row popped x g c phases.Counted default live fits =
    (record { claimed = fits.0.claimed; more = fits.0.more }, fits.1)
queued_phase e s row popped x g c phases.Ready default live fits =
    absurd (true≢false (sym live ∙ ap lives fits.0.claimed))
queued_phase e s row popped x g c phases.Untied default live fits =
    record { owner = fits.owner; local = fits.local; not_merged = refl; bearer = fits.bearer }
queued_phase e s row popped x g c phases.Held default live fits = let bad : states.Default ≡ states.Merged = sym default
    ∙ fits in absurd (cc)
queued_phase e s row popped x g c phases.Shut default live fits = same_shut e x (record x { state = states.Queued }) g c
    (λ is. is) fits
queued_phase e s row popped x g c phases.Offered default live fits = let bad : states.Default ≡ states.Queued =
    sym default ∙ fits.state in absurd (cc)
queued_phase e s row popped x g c phases.Yielding default live fits = let bad : states.Default ≡ states.Queued =
    sym default ∙ fits.state in absurd (cc)
queued_phase e s row popped x g c _ default live fits = fits

queued_grips : (o : Owner) (local : ℕ) (n : ℤ)
    → grips_by_owner o states.Queued local n ≡ grips_by_owner o states.Default local n
queued_grips owners.Nobody local n = refl
queued_grips (owners.Thread t) local n = refl
queued_grips (owners.Claimed t) local n = refl
queued_grips owners.Free local n = refl

asked_lets : (h : Heap) (t c : ℕ) (drop : Dropped) → IsSound h → Acts h t → c < length h.cells → FIRST_MORTAL ≤ c
    → (row_at h t).hand ≡ hands.Free
    → dropped_cell (frame_at h t) (worklist_at h t) (entries_at h) drop ≡ Some c → (cell_at h c).state ≡ states.Default
    → Lets h t c (record (cell_at h c) { state = states.Queued }) (hands.Busy phases.Asked c)
    (frame_without (Some drop) (frame_at h t)) (worklist_at h t) (entries_without (Some drop) h.entries)
asked_lets h t c drop sound who inside mortal free named default =
    let x : Cell = cell_at h c in
    let y : Cell = record x { state = states.Queued } in
    let some : 1 ≤ held h c = dropped_held h t c drop named in
    let live : lives x.owner ≡ true = held_owner h c sound mortal some in
    let here : one (c == c) ≡ 1 = ap one (eq-eqb c c refl) in
    let downs : Downs h t c (frame_without (Some drop) (frame_at h t)) (entries_without (Some drop) h.entries) =
    drop_downs h t c drop sound who inside free named in
    let fits : CellFits (length h.rows) h.limit (rests_at h) x (entries_at h c) = sound.cells c mortal in
    let none : asks h c ≡ 0 = omega (arith, sound.most c mortal, ap (λ s. one (not (is_default s))) default) in
    let same : counted_in y ≡ counted_in x = live_counts y live
    ∙ sym (live_counts x live ∙ ap (λ s. count_of_state s x.local x.count) default) in
    let grips : grips_of y ≡ grips_of x = queued_grips x.owner x.local x.count
    ∙ sym (ap (λ s. grips_by_owner x.owner s x.local x.count) default) in
    record {
      acts = who;
      downs = downs;
      mortal = mortal;
      some = some;
      mutex = refl;
      bearer = refl;
      live = refl;
      counted = omega (arith, ints, same, here);
      gripped = omega (arith, grips, held_unmarked h t c sound some);
      no_grip = refl;
      most = omega (arith, none, here);
      least = omega (arith, none, here, one-le (is_threads x.owner));
      after = λ p d e. let same = busy_same phases.Asked c (hands.Busy phases.Asked c) refl p d e in (
        same.0,
        subst (λ z. PhaseFits h.edition t (record (row_at h t) { hand = hands.Busy phases.Asked c })
            (popped_at h t) y (row_at h x.bearer).stage c z) (sym same.1) tt,
      );
      idle = refl;
      hands_else = λ s p ne busy. queued_phase h.edition s (row_at h s) (popped_at h s) x (row_at h x.bearer).stage c p
          default live (sound.hands s c p busy).fits;
      cell = record {
        default = λ e. let bad : states.Queued ≡ states.Default = e in absurd (cc);
        owned_unmerged = λ s e. refl;
        owned_by_bearer = fits.owned_by_bearer;
        rested = fits.rested;
        dead_empty = λ dead. (downs.fewer c).empty (fits.dead_empty dead);
        dead_count = fits.dead_count;
        born = fits.born;
        limited = fits.limited;
        plain = λ plain. (downs.fewer c).empty (fits.plain plain);
        few = omega (arith, (downs.fewer c).few, fits.few);
      };
      marks = refl;
      works_here = λ on. absurd (no_mark _ (held_unmarked h t c sound some) on);
      marks_else = λ q _. refl;
    }

-- nothing changes
still_turn : (h : Heap) (t c : ℕ) → IsSound h → Acts h t → c < length h.cells → FIRST_MORTAL ≤ c
    → (row_at h t).hand ≡ hands.Free
    → Turn h t c (cell_at h c) (row_at h t).hand (frame_at h t) (worklist_at h t) h.entries
still_turn h t c sound who inside mortal free = record {
  acts = who;
  cell_inside = inside;
  mortal = mortal;
  mutex = refl;
  bearer = refl;
  live = refl;
  vacant = λ j none. none;
  places = (sound.threads t).places;
  marks = refl;
  lists = refl;
  counted_here = refl;
  part_else = λ q _. refl;
  gripped_here = refl;
  most_here = omega (arith, sound.most c mortal);
  least_here = omega (arith, sound.least c mortal);
  before = λ p d e. let bad : hands.Free ≡ hands.Busy p d = sym free ∙ e in absurd (cc);
  after = λ p d e. let bad : hands.Free ≡ hands.Busy p d = sym free ∙ e in absurd (cc);
  idle = λ _. ap is_active_hand free;
  hands_else = λ s p _ busy. (sound.hands s c p busy).fits;
  cell = sound.cells c mortal;
  fewer = λ q _. same_entries _;
  works_here = sound.worklists t c;
  marks_else = λ q _. refl;
  works_else = λ s _ on. sound.worklists s c on;
}

pub ask_sound : (h : Heap) (t : ℕ) (drop : Dropped) (o : Option ℕ) → IsSound h → May h t (Ask drop)
    → dropped_cell (frame_at h t) (worklist_at h t) (entries_at h) drop ≡ o
    → target_ok h t (row_at h t) (Ask drop) o ≡ true
    → IsSound (after_target h t (Ask drop) o)
ask_sound h t drop None sound may named ok = absurd (true≢false (sym ok))
ask_sound h t drop (Some c) sound may named ok =
    let at_cell : OnCell h t (Ask drop) c = on_cell h t (Ask drop) c ok in
    let x : Cell = cell_at h c in
    let mortal : FIRST_MORTAL ≤ c = others_mortal _ c at_cell.fits in
    let free : (row_at h t).hand ≡ hands.Free = free_hand _ may.hand in
    let who : Acts h t = acts h t (Ask drop) may refl refl refl in
    let P : Bool → Type 0 = λ b. IsSound (record h {
      cells = set h.cells c (if b then record x { state = states.Queued } else x);
      entries = entries_without (if b then Some drop else None) h.entries;
      rows = set h.rows t (record (row_at h t) { hand = if b then hands.Busy phases.Asked c else (row_at h t).hand });
      frames = set h.frames t (frame_without (if b then Some drop else None) (frame_at h t));
      popped = set h.popped t (popped_at h t);
      worklists = set h.worklists t (worklist_at h t);
    }) in
    elim (cases_Bool (is_default x.state)) [
      | inl default ↦ subst P (sym default)
          (turn_sound h t c _ _ _ _ _ sound
          (lets_turn h t c _ _ _ _ _ sound (asked_lets h t c drop sound who at_cell.inside mortal free named
          (default_state x.state default))))
      | inr apart ↦ subst P (sym apart)
          (turn_sound h t c _ _ _ _ _ sound (still_turn h t c sound who at_cell.inside mortal free))
    ]

-- ---- the last references

-- the words of an object that was asked for or merged, one reference fewer
pub last_grips : (o : Owner) (s : State) (local : ℕ) (n m : ℤ) → lives o ≡ true
    → ((t : ℕ) → o ≡ owners.Thread t → is_merged s ≡ false) → (is_merged s ≡ true → is_zero m ≡ false)
    → grips_by_owner o s local n ≡ grips_by_owner o s local m + one (is_merged s && is_zero n)
last_grips owners.Nobody states.Default local n m live owned some = omega arith
last_grips owners.Nobody states.Queued local n m live owned some = omega arith
last_grips owners.Nobody states.Merged local n m live owned some = omega (arith, ap one (some refl))
last_grips (owners.Thread t) states.Default local n m live owned some = omega arith
last_grips (owners.Thread t) states.Queued local n m live owned some = omega arith
last_grips (owners.Thread t) states.Merged local n m live owned some = absurd (true≢false (owned t refl))
last_grips (owners.Claimed t) s local n m live owned some = absurd (true≢false (sym live))
last_grips owners.Free s local n m live owned some = absurd (true≢false (sym live))

-- the facts that all last references share
pub record Lasts (h : Heap) (t c : ℕ) : Type 0 where
  pub live : lives (cell_at h c).owner ≡ true
  pub counted : counted_in (record (cell_at h c) { count = (cell_at h c).count -ℤ pos 1 }) +ℤ pos 1 ≡ counted_in
      (cell_at h c)
  pub gripped : grips_of (record (cell_at h c) { count = (cell_at h c).count -ℤ pos 1 }) ≡ grips_of (cell_at h c) + one
      (is_merged (cell_at h c).state && is_zero ((cell_at h c).count -ℤ pos 1))
  pub dead : (is_merged (cell_at h c).state && is_zero ((cell_at h c).count -ℤ pos 1)) ≡ true
      → WorklistFits t c (record (cell_at h c) { count = (cell_at h c).count -ℤ pos 1 })

pub lasts_of : (h : Heap) (t c : ℕ) → IsSound h → FIRST_MORTAL ≤ c → 1 ≤ held h c → Lasts h t c
lasts_of h t c sound mortal some =
    let x : Cell = cell_at h c in
    let n : ℤ = x.count -ℤ pos 1 in
    let live : lives x.owner ≡ true = held_owner h c sound mortal some in
    record {
      live = live;
      counted = omega (arith, ints, moved_counts x n live);
      gripped = last_grips x.owner x.state x.local n x.count live (sound.cells c mortal).owned_unmerged
          (λ merged. nonzero x.count (held h c) (merged_held h c sound mortal live merged) some);
      dead = λ takes. let parts = and_parts _ _ takes in record {
        mortal = mortal;
        lives = live;
        total = merged_total x.state x.local n parts.0 ∙ zero_count n parts.1;
        whose = inl (merged_state x.state parts.0);
      };
    }

pub queued_or_merged : (s : State) → not (is_default s) ≡ true → s ≡ states.Default → ⊥
queued_or_merged s more e = true≢false (sym more ∙ ap (λ z. not (is_default z)) e)

-- a place or an entry
pub last_dropped_sound : (h : Heap) (t : ℕ) (drop : Dropped) (o : Option ℕ) → IsSound h
    → May h t (LastDown (lasts.Dropped drop))
    → dropped_cell (frame_at h t) (worklist_at h t) (entries_at h) drop ≡ o
    → target_ok h t (row_at h t) (LastDown (lasts.Dropped drop)) o ≡ true
    → IsSound (after_target h t (LastDown (lasts.Dropped drop)) o)
last_dropped_sound h t drop None sound may named ok = absurd (true≢false (sym ok))
last_dropped_sound h t drop (Some c) sound may named ok =
    let s : Step = LastDown (lasts.Dropped drop) in
    let at_cell : OnCell h t s c = on_cell h t s c ok in
    let x : Cell = cell_at h c in
    let n : ℤ = x.count -ℤ pos 1 in
    let takes : Bool = is_merged x.state && is_zero n in
    let parts = and_parts _ _ at_cell.fits in
    let mortal : FIRST_MORTAL ≤ c = others_mortal _ c parts.1 in
    let free : (row_at h t).hand ≡ hands.Free = free_hand _ may.hand in
    let some : 1 ≤ held h c = dropped_held h t c drop named in
    let last : Lasts h t c = lasts_of h t c sound mortal some in
    let who : Acts h t = acts h t s may refl refl refl in
    let downs : Downs h t c (frame_without (Some drop) (frame_at h t)) (entries_without (Some drop) h.entries) =
    drop_downs h t c drop sound who at_cell.inside free named in
    let within : c < length (worklist_at h t) = omega (
      arith,
      sound.shaped.marks t may.some_thread may.inside,
      at_cell.inside,
    ) in
    let marks = taken_marks (worklist_at h t) c within (held_unmarked h t c sound some) takes in
    turn_sound h t c (record x { count = n }) (row_at h t).hand _
    (if takes then set (worklist_at h t) c true else worklist_at h t) _ sound
    (lets_turn h t c (record x { count = n }) (row_at h t).hand _
    (if takes then set (worklist_at h t) c true else worklist_at h t) _ sound (record {
      acts = who;
      downs = downs;
      mortal = mortal;
      some = some;
      mutex = refl;
      bearer = refl;
      live = refl;
      counted = omega (arith, ints, last.counted, carries_free c _ free);
      gripped = omega (arith, last.gripped, marks.0);
      no_grip = grips_free c _ free;
      most = omega (arith, sound.most c mortal, carries_free c _ free);
      least = omega (arith, sound.least c mortal);
      after = λ p d e. let bad : hands.Free ≡ hands.Busy p d = sym free ∙ e in absurd (cc);
      idle = ap is_active_hand free;
      hands_else = count_hands h t c n sound;
      cell = count_cell _ _ _ x n (entries_at h c) _ last.live (λ e. absurd (queued_or_merged x.state parts.0 e))
          (downs.fewer c).empty (downs.fewer c).few (sound.cells c mortal);
      marks = marks.1;
      works_here = λ on. last.dead (marked_so takes _ (ap one on) marks.0);
      marks_else = marks.2;
    }))

-- what is in a hand whose reference may end, and that the object isn't its owner's any more
pub ending_hand : (hand : Hand) (c : ℕ) → is_ending_hand hand ≡ true → cell_in_hand hand ≡ Some c
    → (p : Phase) × (hand ≡ hands.Busy p c) × (is_ending p ≡ true)
ending_hand hands.Free c ends named = absurd (true≢false (sym ends))
ending_hand (hands.Busy p d) c ends named = (p, (let e : d ≡ c = cc in ap (hands.Busy p) e), ends)

-- what is said of a role is said of each phase that has it
pub ending_reference : (p : Phase) → is_ending p ≡ true → has_reference p ≡ true
ending_reference p = by_role (role_of p)
  where
    by_role : (r : Role) → ends r ≡ true → refers r ≡ true
    by_role roles.Carries ending = refl
    by_role _ ending = absurd (true≢false (sym ending))

ending_grips : (p : Phase) → is_ending p ≡ true → is_gripping p ≡ false
ending_grips p = by_role (role_of p)
  where
    by_role : (r : Role) → ends r ≡ true → merges r ≡ false
    by_role roles.Carries ending = refl
    by_role _ ending = absurd (true≢false (sym ending))

nobodys : (o : Owner) → is_nobody o ≡ true → is_threads o ≡ false
nobodys owners.Nobody nobody = refl
nobodys (owners.Thread t) nobody = absurd (true≢false (sym nobody))
nobodys (owners.Claimed t) nobody = refl
nobodys owners.Free nobody = refl

no_least : (h : Heap) (t c : ℕ) (p : Phase) → IsSound h → (row_at h t).hand ≡ hands.Busy p c → is_ending p ≡ true
    → ends_ok (hands.Busy p c) (cell_at h c) ≡ true → asks_least (cell_at h c) ≡ 0
no_least h t c phases.Asked sound busy ends ok = one_and (is_queued (cell_at h c).state)
    (is_threads (cell_at h c).owner) (nobodys _ ok)
no_least h t c phases.Shut sound busy ends ok = one_and (is_queued (cell_at h c).state) (is_threads (cell_at h c).owner)
    (nobodys _ ok)
no_least h t c phases.Held sound busy ends ok = ap (λ s. one (is_queued s && is_threads (cell_at h c).owner))
    (sound.hands t c phases.Held busy).fits
no_least h t c _ sound busy ends ok = absurd (true≢false (sym ends))

-- the one in the hand
pub last_hand_sound : (h : Heap) (t : ℕ) (o : Option ℕ) → IsSound h → May h t (LastDown lasts.Hand)
    → cell_in_hand (row_at h t).hand ≡ o → target_ok h t (row_at h t) (LastDown lasts.Hand) o ≡ true
    → IsSound (after_target h t (LastDown lasts.Hand) o)
last_hand_sound h t None sound may named ok = absurd (true≢false (sym ok))
last_hand_sound h t (Some c) sound may named ok =
    let s : Step = LastDown lasts.Hand in
    let at_cell : OnCell h t s c = on_cell h t s c ok in
    let x : Cell = cell_at h c in
    let n : ℤ = x.count -ℤ pos 1 in
    let takes : Bool = is_merged x.state && is_zero n in
    let parts = and_parts _ _ at_cell.fits in
    let hand : (p : Phase) × ((row_at h t).hand ≡ hands.Busy p c) × (is_ending p ≡ true) =
    ending_hand (row_at h t).hand c may.hand named in
    let mortal : FIRST_MORTAL ≤ c = (sound.hands t c hand.0 hand.1).mortal in
    let carried : one (carries c (row_at h t).hand) ≡ 1 = busy_carrier hand.0 c (row_at h t).hand
    (ending_reference hand.0 hand.2) hand.1 in
    let grip : one (grips c (row_at h t).hand) ≡ 0 = ap (λ z. one (grips c z)) hand.1
    ∙ ap (λ b. one (b && (c == c))) (ending_grips hand.0 hand.2) in
    let least : asks_least x ≡ 0 = no_least h t c hand.0 sound hand.1 hand.2
    (subst (λ g. ends_ok g x ≡ true) hand.1 parts.1) in
    let some : 1 ≤ held h c = carried_held h t c carried in
    let last : Lasts h t c = lasts_of h t c sound mortal some in
    let within : c < length (worklist_at h t) = omega (
      arith,
      sound.shaped.marks t may.some_thread may.inside,
      at_cell.inside,
    ) in
    let marks = taken_marks (worklist_at h t) c within (held_unmarked h t c sound some) takes in
    turn_sound h t c (record x { count = n }) hands.Free (frame_at h t)
    (if takes then set (worklist_at h t) c true else worklist_at h t) h.entries sound (record {
      acts = acts h t s may refl refl refl;
      cell_inside = at_cell.inside;
      mortal = mortal;
      mutex = refl;
      bearer = refl;
      live = refl;
      vacant = λ j none. none;
      places = (sound.threads t).places;
      marks = marks.1;
      lists = refl;
      counted_here = omega (arith, ints, last.counted, carried);
      part_else = λ q _. refl;
      gripped_here = omega (arith, last.gripped, marks.0, grip, held_unmarked h t c sound some);
      most_here = omega (arith, sound.most c mortal, carried);
      least_here = omega (
        arith,
        least,
        carried,
        sum_one (λ (row : Row). one (carries c row.hand)) h.rows t no_row refl,
        sum_one (λ (row : Row). one (offering c row.hand)) h.rows t no_row refl,
      );
      before = λ p d e. (busy_same hand.0 c (row_at h t).hand hand.1 p d e).0;
      after = λ p d e. let bad : hands.Free ≡ hands.Busy p d = e in absurd (cc);
      idle = λ _. refl;
      hands_else = count_hands h t c n sound;
      cell = count_cell _ _ _ x n (entries_at h c) (entries_at h c) last.live
          (λ e. absurd (queued_or_merged x.state parts.0 e)) (λ e. e) (omega arith) (sound.cells c mortal);
      fewer = λ q _. same_entries _;
      works_here = λ on. last.dead (marked_so takes _ (ap one on) marks.0);
      marks_else = marks.2;
      works_else = λ s ne on. absurd (no_mark _ (held_unmarked h s c sound some) on);
    })
