-- Lock takes the block of the cell, with the contents that were put home last; Unlock puts it home with those that the
-- change makes of them.
use Rattle.std.proofs.Common.{◌≡◌, ℕ, ◌<◌, ◌≤◌, ◌==◌, ◌||◌, true, if◌then◌else◌, List, [], ◌∷◌, length, set, get_or}
use Rattle.std.proofs.Common.{Option, Some, refl, sym, ◌∙◌, ap, subst, inl, inr, arith}
use Rattle.std.proofs.lemmas.Bool.{cases_eq, eq-eqb, ne_eqb, true≢false}
use mathlib.Core.Option.{some, none}
use lib.ListN.{get_elem?}
use prog.Atomic.{either}
use Rattle.atomic_table.specs.Table.{State as Table, Allows, keeps, takes, gives}
use Rattle.atomic_table.proofs.Lists.{set_here}
use Rattle.brc_words.specs.Kinds.{is_container}
use Rattle.law.specs.declared.world.cell.Cell.{Cell}
use Rattle.law.specs.declared.world.event.Change.{Change}
use Rattle.law.specs.declared.world.event.Change.TheVariants as changes
use Rattle.law.specs.declared.world.event.Step.{Step}
use Rattle.law.specs.declared.world.event.Step.TheVariants.{Lock, Unlock}
use Rattle.law.specs.world.Lists.{is_marked}
use Rattle.law.specs.world.Heap.{Heap, cell_at, entries_at, frame_at, worklist_at}
use Rattle.law.specs.world.Holding.{lives}
use Rattle.law.specs.world.Sound.{IsSound, held}
use Rattle.law.specs.world.Steps.{target_at, after_target, cell_after, stepped, is_keep, entries_changed}
use Rattle.law.proofs.world.Changes.{read_here}
use Rattle.law.proofs.world.Counting.{held_unmarked}
use Rattle.law.proofs.world.Dropping.{held_by_place}
use Rattle.law.proofs.world.Naming.{one-false}
use Rattle.law.proofs.world.Reached.{reached_sound}
use Rattle.law.proofs.lasting.Lasting.{held_live, live_owner, locked_mutex}
use Rattle.law.proofs.lasting.Progress.{inside}
use Rattle.law.specs.declared.known.word.Field.TheVariants.{Mutex}
use Rattle.law.specs.declared.known.word.Word.TheVariants.{Of}
use Rattle.law.specs.declared.rule.contents.Contents.{Contents}
use Rattle.law.specs.declared.rule.told.Moved.TheVariants as moves
use Rattle.law.specs.declared.rule.told.LogItem.{LogItem}
use Rattle.law.specs.declared.rule.told.LogItem.TheVariants.{Stepped, Lost}
use Rattle.law.specs.declared.rule.view.View.{View}
use Rattle.law.specs.rule.Layout.{spot}
use Rattle.law.specs.rule.Keys.{KeysGo}
use Rattle.law.specs.rule.Logs.{kind_in, entries_in, Run, own_of, world, contents_at, takes_of}
use Rattle.law.specs.rule.Homes.{LiesThere}
use Rattle.law.specs.rule.Rule.{with_told, Kept}
use Rattle.law.specs.rule.Seen.{contents_locked}
use Rattle.law.specs.steps.Owing.{MayCarry, MayUnlock}
use Rattle.law.specs.steps.Taking.{LockedOrBusy}
use Rattle.law.proofs.rule.Homing.{home_out}
use Rattle.law.proofs.rule.Knowing.{Known, knows, is_enabled, meant_there}
use Rattle.law.proofs.steps.Local_Steps.{fits_cell, read_cell}
use Rattle.law.proofs.rule.Looking.{lost, unmoved}
use Rattle.law.proofs.steps.Block_Steps.{block_moved}
use Rattle.law.proofs.steps.Taking_Steps.{unlisted_seen, found_cells, found_few}
use Rattle.law.specs.rule.Homes.{AtRest, ContentsFit}
use Rattle.law.proofs.rule.Contents_Law.{contents_fit}
use Rattle.law.proofs.rule.Locked_Contents.{locked_contents}
use Rattle.law.proofs.rule.Growing.{at_inside}
use Rattle.law.specs.payloads.Payloads.{FindsOwn}
use Rattle.law.proofs.payloads.Payloads_Law.{seats_own_locks}

-- what a place of a frame names is one of the heap's cells, alive, and on no worklist
record Named (h : Heap) (c : ℕ) : Type 0 where
  low : c < length h.cells
  rest : AtRest h c

named_rests : (n limit : ℕ) (h : Heap) (t : ℕ) (log : List LogItem) (c : ℕ) → Known n limit h t log → 1 ≤ held h c
    → Named h c
named_rests n limit h t log c known holds =
    let sound : IsSound h = reached_sound h known.reached in
    let live : lives (cell_at h c).owner ≡ true = held_live h c sound holds in
    record {
      low = inside h c (live_owner _ live);
      rest = record {
        live = live;
        off = λ u. one-false (is_marked (worklist_at h u) c)
            (held_unmarked h u c sound holds);
      };
    }

module _ {B : Type 0} (shows : B → ℕ × Contents) (n limit : ℕ) where
  abbrev Rule : Table (Option B) View → Type 0
  Rule = Kept shows n limit

  -- ---- Lock

  -- the block that the locking finds
  lies_there : (st : Table (Option B) View) (r : Rule st) (id : ℕ) (v : View) (k c : ℕ) → get_elem? st.views id ≡ some v
      → v.active ≡ true → 0 < v.thread → c < n → MayCarry n v.log (Lock k) c
      → get_or st.words (spot n (Of Mutex c)) 0 ≡ 0 → LiesThere shows st.homes c (contents_at r.run c)
  lies_there st r id v k c at active some_thread low carries zero =
      let h : Heap = world n limit r.run in
      let known : Known n limit h v.thread v.log = knows shows n limit st r id v at active some_thread in
      let named : target_at h v.thread (Lock k) ≡ Some c = meant_there n limit h v.thread v.log (Lock k)
      (Some c) known carries.cell in
      let cell : Named h c = named_rests n limit h v.thread v.log c known (held_by_place h v.thread k c named) in
      (r.each_home c low).lies cell.rest.live (sym (r.each_word (Of Mutex c) low) ∙ zero) cell.rest.off

  locking : (st : Table (Option B) View) (r : Rule st) (id : ℕ) (v : View) (k c : ℕ) → get_elem? st.views id ≡ some v
      → v.active ≡ true → 0 < v.thread → c < n → MayCarry n v.log (Lock k) c
      → get_or st.words (spot n (Of Mutex c)) 0 ≡ 0 → (lies : LiesThere shows st.homes c (contents_at r.run c))
      → Rule (record {
        words = set st.words (spot n (Of Mutex c)) v.thread;
        homes = set st.homes c none;
        views = set st.views id (with_told (Stepped (Lock k) 0 (moves.Found c (shows lies.block).1)) v);
      })
  locking st r id v k c at active some_thread low carries zero lies =
      let t : ℕ = v.thread in
      let s : Step = Lock k in
      let h : Heap = world n limit r.run in
      let x : Cell = cell_at h c in
      let known : Known n limit h t v.log = knows shows n limit st r id v at active some_thread in
      let named : target_at h t s ≡ Some c = meant_there n limit h t v.log s (Some c) known carries.cell in
      let cell : Named h c = named_rests n limit h t v.log c known (held_by_place h t k c named) in
      let free : x.mutex ≡ 0 = sym (r.each_word (Of Mutex c) low) ∙ zero in
      let now : cell_at (stepped h t s c) c ≡ cell_after t s c x = read_cell h t s c cell.low in
      block_moved shows n limit st r id v s c (Of Mutex c) t 0 (moves.Found c (shows lies.block).1) none at active low
      (record {
        some_thread = some_thread;
        may = is_enabled n limit h t v.log s some_thread known carries.own refl refl
            (fits_cell n limit h t v.log s c known named cell.low (eq-eqb x.mutex 0 free));
        target = named;
        low = cell.low;
        word = refl;
        shown = sym (ap (λ (y : Cell). y.mutex) now);
        told = sym free;
        entries = ap entries_in lies.holds ∙ (contents_fit n limit r.run c r.options r.legal cell.rest).entries;
        moves = record { puts_none = refl; cell = ap (takes_of h s) named; there = lies.holds };
        elsewhere = λ d other. refl;
      })
      (home_out shows (set st.homes c none) (stepped h t s c)
      ((t, Stepped s 0 (moves.Found c (shows lies.block).1)) ∷ r.run) c
      (λ bad. live_owner x.owner cell.rest.live (sym (ap (λ (y : Cell). y.owner) now) ∙ bad))
      (λ live unlocked off. omega (arith, some_thread, sym (ap (λ (y : Cell). y.mutex) now) ∙ unlocked)))

  -- What was found is the thread's own, where it is private to it: in a state of the rule each log says so of its
  -- lockings.
  found_own : (st : Table (Option B) View) (v : View) (id : ℕ) (k c : ℕ) (found : Contents) (words : List ℕ)
      (homes : List (mathlib.Core.Option.Option (Option B))) → get_elem? st.views id ≡ some v → v.active ≡ true
      → Rule (record {
        words = words;
        homes = homes;
        views = set st.views id
            (with_told (Stepped (Lock k) 0 (moves.Found c found)) v);
      }) → FindsOwn n v.log c found
  found_own st v id k c found words homes at active after =
      let told : View = with_told (Stepped (Lock k) 0 (moves.Found c found)) v in
      (seats_own_locks shows n limit _ after id told (set_here st.views id told (at_inside st.views id v at)) active).1

  pub locks_cell : (id : ℕ) (v : View) (slots : List (ℕ × Option B)) (k c : ℕ) → v.active ≡ true → 0 < v.thread → c < n
      → MayCarry n v.log (Lock k) c
      → Allows Rule n id (v, slots) (spot n (Of Mutex c)) (λ there. either (there == 0) v.thread there)
      (λ there me. LockedOrBusy shows n v slots k c there (there == 0) me)
  locks_cell id v slots k c active some_thread low carries st r deep at small =
      let w = Of Mutex c in
      let there : ℕ = get_or st.words (spot n w) 0 in
      elim (cases_eq there 0) [
        | inl same ↦
            let h : Heap = world n limit r.run in
            let known : Known n limit h v.thread v.log = knows shows n limit st r id v at active some_thread in
            let cell : Named h c = named_rests n limit h v.thread v.log c known
            (held_by_place h v.thread k c
            (meant_there n limit h v.thread v.log (Lock k) (Some c) known carries.cell)) in
            let lies : LiesThere shows st.homes c (contents_at r.run c) = lies_there st r id v k c at active some_thread
            low carries same in
            let are : entries_in (shows lies.block).1 ≡ entries_at h c = ap entries_in lies.holds
            ∙ (contents_fit n limit r.run c r.options r.legal cell.rest).entries in (
              with_told (Stepped (Lock k) 0 (moves.Found c (shows lies.block).1)) v,
              takes c (Some lies.block),
              lies.there,
              subst (λ b. Rule (record {
                words = set st.words (spot n w) (either b v.thread there);
                homes = set st.homes c none;
                views = set st.views id (with_told (Stepped (Lock k) 0 (moves.Found c (shows lies.block).1)) v);
              }))
                  (sym (eq-eqb there 0 same)) (locking st r id v k c at active some_thread low carries same lies),
              subst (λ b. LockedOrBusy shows n v slots k c there b
                  (with_told (Stepped (Lock k) 0 (moves.Found c (shows lies.block).1)) v, (c, Some lies.block) ∷ slots))
                  (sym (eq-eqb there 0 same))
                  (record {
                    took = record {
                      block = lies.block;
                      of_cell = lies.of_cell;
                      fresh = unlisted_seen n limit h v.thread v.log c known some_thread (cell.rest.off v.thread);
                      entries = found_cells n limit h v.thread v.log c _ known are;
                      few = found_few n limit h v.thread v.log c _ known are;
                      after_is = refl;
                    };
                    own = found_own st v id k c (shows lies.block).1 _ _ at active
                        (locking st r id v k c at active some_thread low carries same lies);
                  }),
            )
        | inr other ↦ (
          with_told (Lost w there) v,
          keeps,
          tt,
          subst (λ b. Rule (record {
            words = set st.words (spot n w) (either b v.thread there);
            homes = st.homes;
            views = set st.views id (with_told (Lost w there) v);
          })) (sym (ne_eqb there 0 other))
              (unmoved shows n limit st r id v w (Lost w there) at active low lost),
          subst (λ b. LockedOrBusy shows n v slots k c there b (with_told (Lost w there) v, slots))
              (sym (ne_eqb there 0 other)) refl,
        )
      ]

  -- ---- Unlock

  -- the entries after the change, by those that the locking found
  changed_entries : (h : Heap) (t c : ℕ) (change : Change) → c < length h.entries
      → entries_at (stepped h t (Unlock change) c) c ≡ entries_changed change (frame_at h t) (entries_at h c)
  changed_entries h t c change low =
      read_here h.entries c (entries_changed change (frame_at h t) (entries_at h c)) [] low

  unlocking : (st : Table (Option B) View) (r : Rule st) (id : ℕ) (v : View) (block : B) (found : Contents)
      (change : Change) (c : ℕ) → get_elem? st.views id ≡ some v → v.active ≡ true → 0 < v.thread → c < n
      → MayUnlock n v.log (shows block) found change c
      → Rule (record {
        words = set st.words (spot n (Of Mutex c)) 0;
        homes = set st.homes c (some (Some block));
        views = set st.views id (with_told (Stepped (Unlock change) 0 (moves.Put c (shows block).1)) v);
      })
  unlocking st r id v block found change c at active some_thread low unlocks =
      let t : ℕ = v.thread in
      let s : Step = Unlock change in
      let p : Contents = (shows block).1 in
      let h : Heap = world n limit r.run in
      let x : Cell = cell_at h c in
      let later : Run = (t, Stepped s 0 (moves.Put c p)) ∷ r.run in
      let known : Known n limit h t v.log = knows shows n limit st r id v at active some_thread in
      let sound : IsSound h = reached_sound h known.reached in
      let named : target_at h t s ≡ Some c = meant_there n limit h t v.log s (Some c) known unlocks.cell in
      let lock = locked_mutex h t c sound named in
      let cell : Named h c = named_rests n limit h t v.log c known lock.2 in
      let fits : ContentsFit h r.run c = contents_fit n limit r.run c r.options r.legal cell.rest in
      let there : found ≡ contents_at r.run c = same_contents found (contents_at r.run c)
      (sym unlocks.was_found ∙ ap contents_locked (sym (r.each_seat id v at active).log)
      ∙ locked_contents n limit r.run t c r.options r.legal some_thread named) in
      let kind_is : kind_in found ≡ x.kind = ap kind_in there ∙ fits.kind in
      let entries_are : entries_in found ≡ entries_at h c = ap entries_in there ∙ fits.entries in
      let now : cell_at (stepped h t s c) c ≡ cell_after t s c x = read_cell h t s c cell.low in
      let on_cell : after_target h t s (target_at h t s) ≡ stepped h t s c = ap (after_target h t s) named in
      let put_here : contents_at later c ≡ p = ap (λ b. if b then p else contents_at r.run c) (eq-eqb c c refl) in
      block_moved shows n limit st r id v s c (Of Mutex c) 0 0 (moves.Put c p) (some (Some block)) at active low
      (record {
        some_thread = some_thread;
        may = is_enabled n limit h t v.log s some_thread known unlocks.own refl refl
            (fits_cell n limit h t v.log s c known named cell.low
            (ap (λ kind. is_keep change || is_container kind) (sym kind_is) ∙ unlocks.container));
        target = named;
        low = cell.low;
        word = refl;
        shown = sym (ap (λ (y : Cell). y.mutex) now);
        told = refl;
        entries = refl;
        moves = record {
          cell = named;
          finds_none = ap (takes_of h s) named;
          kind = unlocks.same_kind ∙ kind_is ∙ sym (ap (λ (y : Cell). y.kind) now)
              ∙ sym (ap (λ z. (cell_at z c).kind) on_cell);
          entries = unlocks.entries ∙ ap (λ (f : List (Option ℕ)). entries_changed change f (entries_in found))
              (sym known.part.frame_is) ∙ ap (entries_changed change (frame_at h t)) entries_are
              ∙ sym (changed_entries h t c change (omega (arith, sound.shaped.entries, cell.low)))
              ∙ sym (ap (λ z. entries_at z c) on_cell);
          keys = subst (λ f. KeysGo change f p) there unlocks.keys;
          kept = λ keep. kept_there change keep unlocks.kept ∙ there;
        };
        elsewhere = λ d other. ap (λ b. if b then p else contents_at r.run d) (ne_eqb c d (λ e. other (sym e)));
      })
      (record {
        bare = λ bad. absurd (live_owner x.owner cell.rest.live (sym (ap (λ (y : Cell). y.owner) now) ∙ bad));
        lies = λ live unlocked off. record {
          block = block;
          there = set_here st.homes c (some (Some block)) (omega (arith, r.deep, low));
          of_cell = unlocks.of_cell;
          holds = sym put_here;
        };
      })
    where
      same_contents : (a b : Contents) → Some a ≡ Some b → a ≡ b
      same_contents a b is = cc

      kept_there : (change : Change) → Rattle.law.specs.rule.Logs.keeps (Unlock change) ≡ true
          → (is_keep change ≡ true → (shows block).1 ≡ found) → (shows block).1 ≡ found
      kept_there changes.Keep keep kept = kept refl
      kept_there (changes.Put j) keep kept = absurd (true≢false (sym keep))
      kept_there (changes.Take i j) keep kept = absurd (true≢false (sym keep))
      kept_there (changes.Swap i j) keep kept = absurd (true≢false (sym keep))

  pub unlocks_cell : (id : ℕ) (v : View) (rest : List (ℕ × Option B)) (block : B) (found : Contents) (change : Change)
      (c : ℕ) → v.active ≡ true → 0 < v.thread → c < n
      → MayUnlock n v.log (shows block) found change c
      → Allows Rule n id (v, (c, Some block) ∷ rest) (spot n (Of Mutex c)) (λ there. 0)
      (λ there me. me ≡ (with_told (Stepped (Unlock change) 0 (moves.Put c (shows block).1)) v, rest))
  unlocks_cell id v rest block found change c active some_thread low unlocks st r deep at small = (
    with_told (Stepped (Unlock change) 0 (moves.Put c (shows block).1)) v,
    gives,
    tt,
    unlocking st r id v block found change c at active some_thread low unlocks,
    refl,
  )
