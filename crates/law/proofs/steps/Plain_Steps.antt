-- Steps that move no block.
use Rattle.std.proofs.Common.{◌≡◌, ◌≢◌, ℕ, ◌<◌, ◌^◌, ◌==◌, true, false, if◌then◌else◌, List, [], ◌∷◌, length, set}
use Rattle.std.proofs.Common.{get_or, Option, Some, None, refl, sym, ◌∙◌, ap, subst, inl, inr, arith}
use Rattle.std.proofs.lemmas.Bool.{cases_eq, eq-eqb, ne_eqb}
use mathlib.Core.Option.{some}
use prog.Atomic.{either}
use lib.ListN.{get_elem?}
use lib.Seq.{set-get_or}
use Rattle.atomic_table.specs.Table.{State, Allows, keeps}
use Rattle.brc_words.specs.declared.owner.Owner.TheVariants as owners
use Rattle.law.specs.declared.world.cell.Cell.{Cell}
use Rattle.law.specs.declared.world.event.Step.{Step}
use Rattle.law.specs.world.Lists.{is_marked}
use Rattle.law.specs.world.Heap.{Heap, cell_at, worklist_at, no_cell}
use Rattle.law.specs.world.Holding.{lives}
use Rattle.law.specs.world.Steps.{thread_may, target_at, cell_after, after_target, stepped, kept_cells, is_free_step}
use Rattle.law.specs.world.Steps.{takes_block, worklist_with}
use Rattle.law.proofs.world.Changes.{read_here, read_there}
use Rattle.law.specs.declared.known.word.Word.{Word}
use Rattle.law.specs.known.Items.{IsWord, WordShows, ToldBy, IsNumberFound, meets_closed, told_at, found, found_at}
use Rattle.law.specs.known.Items.{works_on}
use Rattle.law.proofs.known.Words_Law.{kept_by}
use Rattle.law.specs.declared.rule.contents.Contents.{Contents}
use Rattle.law.specs.declared.rule.told.Moved.TheVariants as moves
use Rattle.law.specs.declared.rule.told.LogItem.TheVariants.{Stepped, Lost}
use Rattle.law.specs.declared.rule.view.View.{View}
use Rattle.law.specs.rule.Layout.{spot}
use Rattle.law.specs.rule.Logs.{world, puts, takes, takes_of}
use Rattle.law.specs.rule.Rule.{with_told, Kept}
use Rattle.law.proofs.rule.Homing.{Stays, home_stays}
use Rattle.law.proofs.rule.Stepping.{moved_on, does, does_quietly}
use Rattle.law.proofs.rule.Looking.{lost, unmoved}
use Rattle.law.proofs.rule.Knowing.{Known, knows}

-- ---- blocks that stay where they are

-- the cell stays free or used, dead or alive, and locked or not
pub record CellStays (x y : Cell) : Type 0 where
  pub free : y.owner ≡ owners.Free → x.owner ≡ owners.Free
  pub lives : lives y.owner ≡ true → lives x.owner ≡ true
  pub mutex : y.mutex ≡ x.mutex

pub same_owner : (x y : Cell) → y.owner ≡ x.owner → y.mutex ≡ x.mutex → CellStays x y
same_owner x y owner mutex = record {
  free = λ is. sym owner ∙ is;
  lives = λ is. ap lives (sym owner)
      ∙ is;
  mutex = mutex;
}

-- a step on a cell that neither takes nor gives back a block
pub stays_on : (h : Heap) (t : ℕ) (s : Step) (c : ℕ) → c < length h.cells → is_free_step s ≡ false
    → takes_block s (cell_at h c) ≡ false
    → CellStays (cell_at h c) (cell_after t s c (cell_at h c)) → (d : ℕ) → Stays h (stepped h t s c) d
stays_on h t s c inside frees takes stays d = record {
  free = λ is. by_cell (λ x. x.owner ≡ owners.Free) stays.free is;
  lives = λ is. by_cell (λ x. lives x.owner ≡ true) stays.lives is;
  mutex = λ is. by_cell (λ x. x.mutex ≡ 0) (λ zero. sym stays.mutex ∙ zero) is;
  marks = λ off u. sym (same_marks u) ∙ off u;
}
  where
    by_cell : (P : Cell → Type 0) → (P (cell_after t s c (cell_at h c)) → P (cell_at h c))
        → P (cell_at (stepped h t s c) d) → P (cell_at h d)
    by_cell P back is = elim (cases_eq d c) [
      | inl same ↦ subst (λ i. P (cell_at h i)) (sym same)
          (back (subst P (ap (cell_at (stepped h t s c)) same
          ∙ read_here h.cells c (cell_after t s c (cell_at h c)) no_cell inside) is))
      | inr other ↦ subst P (read_there h.cells c d (cell_after t s c (cell_at h c)) no_cell other) is
    ]

    same_list : worklist_with (is_free_step s) (takes_block s (cell_at h c)) c (worklist_at h t) ≡ worklist_at h t
    same_list = ap (λ b. worklist_with b (takes_block s (cell_at h c)) c (worklist_at h t)) frees
        ∙ ap (λ b. worklist_with false b c (worklist_at h t)) takes

    same_marks : (u : ℕ) → is_marked (worklist_at (stepped h t s c) u) d ≡ is_marked (worklist_at h u) d
    same_marks u = ap (λ (w : List Rattle.std.proofs.Common.Bool). is_marked w d)
        (kept_by (λ (w : List Rattle.std.proofs.Common.Bool). w) h.worklists t _ [] same_list u)

-- a step on a word that is no cell's
pub stays_off : (h : Heap) (t : ℕ) (s : Step) (d : ℕ) → Stays h (kept_cells h t s) d
stays_off h t s d = record { free = λ is. is; lives = λ is. is; mutex = λ is. is; marks = λ off. off }

-- ---- the law

-- a thread's event that moves no block
pub record IsPlain (n : ℕ) (h : Heap) (t : ℕ) (s : Step) (w : Word) (written number : ℕ) : Type 0 where
  pub may : thread_may h t s ≡ true
  pub word : works_on h t s (target_at h t s) ≡ w
  pub shown : WordShows (moved_on h t s) w written
  pub told : IsNumberFound h t s number
  pub finds_none : found h t s ≡ []
  pub puts_none : puts h t s ≡ None
  pub takes_none : takes h t s ≡ None
  pub stays : (d : ℕ) → d < n → Stays h (moved_on h t s) d

-- the same, where the cell that the step means is known
pub record PlainOn (h : Heap) (t : ℕ) (s : Step) (c : ℕ) (w : Word) (written number : ℕ) : Type 0 where
  pub may : thread_may h t s ≡ true
  pub target : target_at h t s ≡ Some c
  pub word : works_on h t s (Some c) ≡ w
  pub shown : WordShows (stepped h t s c) w written
  pub told : ToldBy (meets_closed h s) (told_at h t s (Some c)) number
  pub finds_none : found_at h s (Some c) ≡ []
  pub puts_none : puts h t s ≡ None
  pub takes_none : takes_of h s (Some c) ≡ None
  pub stays : (d : ℕ) → Stays h (stepped h t s c) d

pub plain_on : (n : ℕ) (h : Heap) (t : ℕ) (s : Step) (c : ℕ) (w : Word) (written number : ℕ)
    → PlainOn h t s c w written number → IsPlain n h t s w written number
plain_on n h t s c w written number on =
    let back : Some c ≡ target_at h t s = sym on.target in
    record {
      may = on.may;
      word = ap (works_on h t s) on.target ∙ on.word;
      shown = subst (λ o. WordShows (after_target h t s o) w written) back on.shown;
      told = subst (λ o. ToldBy (meets_closed h s) (told_at h t s o) number) back on.told;
      finds_none = ap (found_at h s) on.target ∙ on.finds_none;
      puts_none = on.puts_none;
      takes_none = ap (takes_of h s) on.target ∙ on.takes_none;
      stays = λ d low. subst (λ o. Stays h (after_target h t s o) d) back (on.stays d);
    }

module _ {B : Type 0} (shows : B → ℕ × Contents) (n limit : ℕ) where
  abbrev Table : Type 0
  Table = State (Option B) View

  abbrev Rule : Table → Type 0
  Rule = Kept shows n limit

  pub plainly : (st : Table) (r : Rule st) (id : ℕ) (v : View) (s : Step) (w : Word) (written number : ℕ)
      → get_elem? st.views id ≡ some v → v.active ≡ true → 0 < v.thread → IsWord n w
      → IsPlain n (world n limit r.run) v.thread s w written number
      → Rule (record {
        words = set st.words (spot n w) written;
        homes = st.homes;
        views = set st.views id
            (with_told (Stepped s number moves.Nothing) v);
      })
  plainly st r id v s w written number at active some_thread is plain = does shows n limit st r id v s w written number
      moves.Nothing st.homes at active
      (record {
        some_thread = some_thread;
        may = plain.may;
        word = plain.word;
        is_word = is;
        shown = plain.shown;
        told = plain.told;
        entries = sym plain.finds_none;
        moves = (plain.puts_none, plain.takes_none);
      }) r.deep
      (λ d low. home_stays shows st.homes (world n limit r.run) (moved_on (world n limit r.run) v.thread s) r.run
      ((v.thread, Stepped s number moves.Nothing) ∷ r.run) d (plain.stays d low) refl (r.each_home d low))

  -- what the log says is enough for the event, whatever number is found
  pub plain_step : (id : ℕ) (v : View) (slots : List (ℕ × Option B)) (s : Step) (w : Word) (written number : ℕ → ℕ)
      → v.active ≡ true → 0 < v.thread → IsWord n w
      → ((h : Heap) (there : ℕ) → Known n limit h v.thread v.log → WordShows h w there → there < 2 ^ 64
      → IsPlain n h v.thread s w (written there) (number there))
      → Allows Rule n id (v, slots) (spot n w) written
      (λ there me. me ≡ (with_told (Stepped s (number there) moves.Nothing) v, slots))
  plain_step id v slots s w written number active some_thread is plain st r deep at small =
      let there : ℕ = get_or st.words (spot n w) 0 in (
        with_told (Stepped s (number there) moves.Nothing) v,
        keeps,
        tt,
        plainly st r id v s w (written there) (number there) at active some_thread is
            (plain (world n limit r.run) there (knows shows n limit st r id v at active some_thread)
            (r.each_word w is) small),
        refl,
      )

  -- a compare-exchange: it makes the event where it finds the number that it expects, and else is a note
  pub exchange_step : (id : ℕ) (v : View) (slots : List (ℕ × Option B)) (s : Step) (w : Word) (old new : ℕ)
      → v.active ≡ true → 0 < v.thread → IsWord n w
      → ((h : Heap) → Known n limit h v.thread v.log → WordShows h w old → IsPlain n h v.thread s w new old)
      → Allows Rule n id (v, slots) (spot n w) (λ there. either (there == old) new there)
      (λ there me. me ≡ (
        (if there == old then with_told (Stepped s old moves.Nothing) v else with_told
            (Lost w there) v),
        slots,
      ))
  exchange_step id v slots s w old new active some_thread is plain st r deep at small =
      let there : ℕ = get_or st.words (spot n w) 0 in
      elim (cases_eq there old) [
        | inl same ↦ (
          with_told (Stepped s old moves.Nothing) v,
          keeps,
          tt,
          subst (λ b. Rule (record {
            words = set st.words (spot n w) (either b new there);
            homes = st.homes;
            views = set st.views id (with_told (Stepped s old moves.Nothing) v);
          })) (sym (eq-eqb there old same))
              (plainly st r id v s w new old at active some_thread is
              (plain (world n limit r.run) (knows shows n limit st r id v at active some_thread)
              (subst (WordShows (world n limit r.run) w) same (r.each_word w is)))),
          sym (ap (λ b. ((if b then with_told (Stepped s old moves.Nothing) v else with_told (Lost w there) v), slots))
              (eq-eqb there old same)),
        )
        | inr other ↦ (
          with_told (Lost w there) v,
          keeps,
          tt,
          subst (λ b. Rule (record {
            words = set st.words (spot n w) (either b new there);
            homes = st.homes;
            views = set st.views id (with_told (Lost w there) v);
          })) (sym (ne_eqb there old other))
              (unmoved shows n limit st r id v w (Lost w there) at active is lost),
          sym (ap (λ b. ((if b then with_told (Stepped s old moves.Nothing) v else with_told (Lost w there) v), slots))
              (ne_eqb there old other)),
        )
      ]

  -- ---- events whose word is none of the table's

  quietly : (st : Table) (r : Rule st) (id : ℕ) (v : View) (s : Step) (w : Word) (written number : ℕ)
      → get_elem? st.views id ≡ some v → v.active ≡ true → 0 < v.thread → (IsWord n w → ⊥)
      → IsPlain n (world n limit r.run) v.thread s w written number
      → Rule (record {
        words = st.words;
        homes = st.homes;
        views = set st.views id
            (with_told (Stepped s number moves.Nothing) v);
      })
  quietly st r id v s w written number at active some_thread none plain =
      does_quietly shows n limit st r id v s w number moves.Nothing at active
      (record {
        some_thread = some_thread;
        may = plain.may;
        word = plain.word;
        no_word = none;
        told = plain.told;
        entries = sym plain.finds_none;
        moves = (plain.puts_none, plain.takes_none);
      })
      (λ d low. home_stays shows st.homes (world n limit r.run) (moved_on (world n limit r.run) v.thread s) r.run
      ((v.thread, Stepped s number moves.Nothing) ∷ r.run) d (plain.stays d low) refl (r.each_home d low))

  -- what the log says is enough for the event, and it may be made as any word is loaded
  pub quiet_step : (id : ℕ) (v : View) (slots : List (ℕ × Option B)) (s : Step) (w u : Word) (written number : ℕ)
      → v.active ≡ true → 0 < v.thread → (IsWord n w → ⊥)
      → ((h : Heap) → Known n limit h v.thread v.log → IsPlain n h v.thread s w written number)
      → Allows Rule n id (v, slots) (spot n u) (λ there. there)
      (λ there me. me ≡ (with_told (Stepped s number moves.Nothing) v, slots))
  quiet_step id v slots s w u written number active some_thread none plain st r deep at small = (
    with_told (Stepped s number moves.Nothing) v,
    keeps,
    tt,
    subst (λ (words : List ℕ). Rule (record {
      words = words;
      homes = st.homes;
      views = set st.views id
          (with_told (Stepped s number moves.Nothing) v);
    })) (sym (set-get_or st.words (spot n u) 0))
        (quietly st r id v s w written number at active some_thread none
        (plain (world n limit r.run) (knows shows n limit st r id v at active some_thread))),
    refl,
  )
