-- Steps that may take the block of a dead object: SeeZero, MergeZero, LastDown. The number found decides.
use Rattle.std.proofs.Common.{◌≡◌, ℕ, ◌<◌, ◌≤◌, ◌^◌, Bool, true, false, if◌then◌else◌, List, [], ◌∷◌, length, set}
use Rattle.std.proofs.Common.{get_or, Option, Some, None, refl, sym, ◌∙◌, ap, subst, inl, inr, arith}
use Rattle.std.specs.Prelude.{slice_get}
use Rattle.std.proofs.lemmas.Bool.{cases_Bool, true≢false}
use mathlib.Core.Option.{some, none}
use lib.ListN.{get_elem?}
use Rattle.atomic_table.specs.Table.{State, Allows, keeps, takes}
use Rattle.brc_words.specs.declared.limits.TheConstants.{MOST_ENTRIES}
use Rattle.law.specs.declared.world.cell.Cell.{Cell}
use Rattle.law.specs.declared.world.event.Step.{Step}
use Rattle.law.specs.world.Lists.{is_marked}
use Rattle.law.specs.world.Heap.{Heap, cell_at, entries_at, worklist_at, no_cell}
use Rattle.law.specs.world.Holding.{lives}
use Rattle.law.specs.world.Sound.{IsSound}
use Rattle.law.specs.world.Steps.{thread_may, target_at, cell_after, stepped, is_free_step, takes_block, worklist_with}
use Rattle.law.proofs.world.Asking.{May, may_parts}
use Rattle.law.proofs.world.Changes.{read_here}
use Rattle.law.proofs.world.Reached.{reached_sound}
use Rattle.law.proofs.world.Sizes.{reached_entries}
use Rattle.law.proofs.lasting.Lasting.{live_owner}
use Rattle.law.proofs.lasting.Ranges_Law.{entries_inside}
use Rattle.law.proofs.lasting.Standing.{taken_unlocked}
use Rattle.law.specs.declared.known.word.Word.{Word}
use Rattle.law.specs.known.Items.{IsWord, WordShows, ToldBy, meets_closed, told_at, finds, works_on, cell_told}
use Rattle.law.specs.known.Taken.{listed_at, taken_of}
use Rattle.law.proofs.known.Taken_Law.{unmarked_unlisted}
use Rattle.law.specs.declared.rule.contents.Contents.{Contents}
use Rattle.law.specs.declared.rule.told.Moved.TheVariants as moves
use Rattle.law.specs.declared.rule.told.LogItem.{LogItem}
use Rattle.law.specs.declared.rule.told.LogItem.TheVariants.{Stepped}
use Rattle.law.specs.declared.rule.view.View.{View}
use Rattle.law.specs.rule.Layout.{spot}
use Rattle.law.specs.rule.Logs.{log_items, Run, items_of, world, puts, takes_of, entries_in, contents_at}
use Rattle.law.specs.rule.Homes.{LiesThere}
use Rattle.law.specs.rule.Rule.{stands, with_told, Kept}
use Rattle.law.specs.rule.Seen.{taken_seen}
use Rattle.law.specs.steps.Taking.{AreCells, EndedObject}
use Rattle.law.proofs.rule.Own_Logs.{own_items, stands_registered}
use Rattle.law.proofs.rule.Homing.{home_out}
use Rattle.law.proofs.rule.Stepping.{thread_enabled}
use Rattle.law.proofs.rule.Knowing.{Known, knows}
use Rattle.law.proofs.steps.Plain_Steps.{PlainOn, plain_on, CellStays, stays_on, plainly}
use Rattle.law.proofs.steps.Block_Steps.{block_moved}
use Rattle.law.proofs.rule.Contents_Law.{contents_fit}

-- a thread's event that may take the block of its cell
pub record EndsOn (h : Heap) (t : ℕ) (s : Step) (c : ℕ) (w : Word) (written number : ℕ) : Type 0 where
  pub may : thread_may h t s ≡ true
  pub target : target_at h t s ≡ Some c
  pub low : c < length h.cells
  pub word : works_on h t s (Some c) ≡ w
  pub shown : WordShows (stepped h t s c) w written
  pub told : ToldBy (meets_closed h s) (told_at h t s (Some c)) number
  pub puts_none : puts h t s ≡ None
  pub finds_taken : finds s (cell_at h c) ≡ takes_block s (cell_at h c)
  pub frees_none : is_free_step s ≡ false
  pub number_tells : takes_block s (cell_told s number) ≡ takes_block s (cell_at h c)
  pub stays : CellStays (cell_at h c) (cell_after t s c (cell_at h c))
  pub live : lives (cell_at h c).owner ≡ true
  pub same_owner : (cell_after t s c (cell_at h c)).owner ≡ (cell_at h c).owner
  pub unmarked : (u : ℕ) → is_marked (worklist_at h u) c ≡ false

-- nothing is found where nothing is taken
not_taking : (h : Heap) (t : ℕ) (s : Step) (c : ℕ) (w : Word) (written number : ℕ) → EndsOn h t s c w written number
    → takes_block s (cell_at h c) ≡ false → PlainOn h t s c w written number
not_taking h t s c w written number ends stays = record {
  may = ends.may;
  target = ends.target;
  word = ends.word;
  shown = ends.shown;
  told = ends.told;
  finds_none = ap (λ b. if b then entries_at h c else []) (ends.finds_taken ∙ stays);
  puts_none = ends.puts_none;
  takes_none = ap (λ b. if b then Some c else None) (ends.finds_taken ∙ stays);
  stays = stays_on h t s c ends.low ends.frees_none stays ends.stays;
}

-- the cell is on the thread's worklist afterwards
taken_mark : (h : Heap) (t : ℕ) (s : Step) (c : ℕ) → IsSound h → May h t s → c < length h.cells → is_free_step s ≡ false
    → takes_block s (cell_at h c) ≡ true
    → is_marked (worklist_at (stepped h t s c) t) c ≡ true
taken_mark h t s c sound may low frees takes_it =
    ap (λ (w : List Bool). is_marked w c)
    (read_here h.worklists t (worklist_with (is_free_step s) (takes_block s (cell_at h c)) c (worklist_at h t)) []
    (omega (arith, sound.shaped.worklists, may.inside)))
    ∙ ap (λ b. is_marked (worklist_with b (takes_block s (cell_at h c)) c (worklist_at h t)) c) frees
    ∙ ap (λ b. is_marked (worklist_with false b c (worklist_at h t)) c) takes_it
    ∙ read_here (worklist_at h t) c true false (omega (arith, low, sound.shaped.marks t may.some_thread may.inside))

-- ---- what the block is to its seat

-- a cell that isn't on the thread's worklist is none of the dead blocks that its log tells
pub unlisted_seen : (n limit : ℕ) (h : Heap) (t : ℕ) (log : List LogItem) (c : ℕ) → Known n limit h t log → 0 < t
    → is_marked (worklist_at h t) c ≡ false → listed_at (taken_seen n log) c ≡ None
unlisted_seen n limit h t log c known some_thread off =
    let run : Run = known.run in
    let of_run : world n limit run ≡ h = known.is_world in
    sym (ap (λ items. listed_at (taken_of n items) c) (own_items t run ∙ ap log_items known.is_own))
    ∙ unmarked_unlisted n limit (items_of run) t c known.options known.legal.items
    (stands_registered (world n limit run) t (ap (λ (z : Heap). stands z t) of_run ∙ known.stood) some_thread)
    (ap (λ (z : Heap). is_marked (worklist_at z t) c) of_run ∙ off)

-- entries that a cell has are cells of the heap
pub found_cells : (n limit : ℕ) (h : Heap) (t : ℕ) (log : List LogItem) (c : ℕ) (entries : List ℕ)
    → Known n limit h t log
    → entries ≡ entries_at h c → AreCells n entries
found_cells n limit h t log c entries known are i d there =
    subst (λ cells. d < cells) known.cells
    (entries_inside h c i d known.reached (ap (λ (xs : List ℕ). slice_get xs i) (sym are) ∙ there))

-- no cell has too many entries
pub found_few : (n limit : ℕ) (h : Heap) (t : ℕ) (log : List LogItem) (c : ℕ) (entries : List ℕ) → Known n limit h t log
    → entries ≡ entries_at h c → length entries ≤ MOST_ENTRIES
found_few n limit h t log c entries known are = subst (λ xs. length xs ≤ MOST_ENTRIES) (sym are)
    (reached_entries h known.reached c)

module _ {B : Type 0} (shows : B → ℕ × Contents) (n limit : ℕ) where
  abbrev Table : Type 0
  Table = State (Option B) View

  abbrev Rule : Table → Type 0
  Rule = Kept shows n limit

  -- the step takes the block
  taking : (st : Table) (r : Rule st) (id : ℕ) (v : View) (s : Step) (c : ℕ) (w : Word) (written number : ℕ)
      → get_elem? st.views id ≡ some v → v.active ≡ true → 0 < v.thread → c < n → IsWord n w
      → EndsOn (world n limit r.run) v.thread s c w written number
      → takes_block s (cell_at (world n limit r.run) c) ≡ true
      → (lies : LiesThere shows st.homes c (contents_at r.run c))
      → Rule (record {
        words = set st.words (spot n w) written;
        homes = set st.homes c none;
        views = set st.views id
            (with_told (Stepped s number (moves.Found c (shows lies.block).1)) v);
      })
  taking st r id v s c w written number at active some_thread low is ends takes_it lies =
      let t : ℕ = v.thread in
      let h : Heap = world n limit r.run in
      let known : Known n limit h t v.log = knows shows n limit st r id v at active some_thread in
      block_moved shows n limit st r id v s c w written number (moves.Found c (shows lies.block).1) none at active is
      (record {
        some_thread = some_thread;
        may = ends.may;
        target = ends.target;
        low = ends.low;
        word = ends.word;
        shown = ends.shown;
        told = ends.told;
        entries = ap entries_in lies.holds
            ∙ (contents_fit n limit r.run c r.options r.legal
            (record { live = ends.live; off = ends.unmarked })).entries
            ∙ sym (ap (λ b. if b then entries_at h c else []) (ends.finds_taken ∙ takes_it));
        moves = record {
          puts_none = ends.puts_none;
          cell = ap (takes_of h s) ends.target ∙ ap (λ b. if b then Some c else None) (ends.finds_taken ∙ takes_it);
          there = lies.holds;
        };
        elsewhere = λ d other. refl;
      })
      (home_out shows (set st.homes c none) (stepped h t s c)
      ((t, Stepped s number (moves.Found c (shows lies.block).1))
      ∷ r.run) c
      (λ free. live_owner (cell_at h c).owner ends.live
      (sym (ap (λ (x : Cell). x.owner) (read_here h.cells c (cell_after t s c (cell_at h c)) no_cell ends.low)
      ∙ ends.same_owner) ∙ free))
      (λ live unlocked off. true≢false
      (sym (taken_mark h t s c (reached_sound h known.reached) (may_parts h t s ends.may) ends.low ends.frees_none
      takes_it) ∙ off t)))

  -- the number that is told decides whether the block is taken
  pub end_step_as : (id : ℕ) (v : View) (slots : List (ℕ × Option B)) (s : Step) (c : ℕ) (w : Word)
      (written number : ℕ → ℕ) → v.active ≡ true → 0 < v.thread → c < n → IsWord n w
      → ((h : Heap) (there : ℕ) → Known n limit h v.thread v.log → WordShows h w there → there < 2 ^ 64
      → EndsOn h v.thread s c w (written there) (number there))
      → Allows Rule n id (v, slots) (spot n w) written
      (λ there me. EndedObject shows n v slots s c (number there) (takes_block s (cell_told s (number there))) me)
  end_step_as id v slots s c w written number active some_thread low is ends st r deep at small =
      let t : ℕ = v.thread in
      let h : Heap = world n limit r.run in
      let found : ℕ = get_or st.words (spot n w) 0 in
      let there : ℕ = number found in
      let known : Known n limit h t v.log = knows shows n limit st r id v at active some_thread in
      let e : EndsOn h t s c w (written found) there = ends h found known (r.each_word w is) small in
      elim (cases_Bool (takes_block s (cell_at h c))) [
        | inr off ↦ (
          with_told (Stepped s there moves.Nothing) v,
          keeps,
          tt,
          plainly shows n limit st r id v s w (written found) there at active some_thread is
              (plain_on n h t s c w (written found) there (not_taking h t s c w (written found) there e off)),
          subst (λ b. EndedObject shows n v slots s c there b (with_told (Stepped s there moves.Nothing) v, slots))
              (sym (e.number_tells ∙ off)) refl,
        )
        | inl on ↦
            let lies : LiesThere shows st.homes c (contents_at r.run c) = (r.each_home c low).lies e.live
            (unlocked h t s c known e on) e.unmarked in
            let are : entries_in (shows lies.block).1 ≡ entries_at h c =
            ap entries_in lies.holds
            ∙ (contents_fit n limit r.run c r.options r.legal (record { live = e.live; off = e.unmarked })).entries in (
              with_told (Stepped s there (moves.Found c (shows lies.block).1)) v,
              takes c (Some lies.block),
              lies.there,
              taking st r id v s c w (written found) there at active some_thread low is e on lies,
              subst (λ b. EndedObject shows n v slots s c there b
                  (with_told (Stepped s there (moves.Found c (shows lies.block).1)) v, (c, Some lies.block) ∷ slots))
                  (sym (e.number_tells ∙ on))
                  (record {
                    block = lies.block;
                    of_cell = lies.of_cell;
                    fresh = unlisted_seen n limit h t v.log c known some_thread (e.unmarked t);
                    entries = found_cells n limit h t v.log c _ known are;
                    few = found_few n limit h t v.log c _ known are;
                    after_is = refl;
                  }),
            )
      ]
    where
      unlocked : (h : Heap) (t : ℕ) (s : Step) (c : ℕ) → Known n limit h t v.log
          → EndsOn h t s c w (written (get_or st.words (spot n w) 0)) (number (get_or st.words (spot n w) 0))
          → takes_block s (cell_at h c) ≡ true → (cell_at h c).mutex ≡ 0
      unlocked h t s c known e on =
          let may : May h t s = may_parts h t s e.may in
          taken_unlocked h (record { thread = t; step = s }) c known.reached
          (thread_enabled h t s may.some_thread e.may) (λ zero. omega (arith, zero, may.some_thread)) e.target on

  -- the same of a step that is told the number that is found
  pub end_step : (id : ℕ) (v : View) (slots : List (ℕ × Option B)) (s : Step) (c : ℕ) (w : Word) (written : ℕ → ℕ)
      → v.active ≡ true → 0 < v.thread → c < n → IsWord n w
      → ((h : Heap) (there : ℕ) → Known n limit h v.thread v.log → WordShows h w there → there < 2 ^ 64
      → EndsOn h v.thread s c w (written there) there)
      → Allows Rule n id (v, slots) (spot n w) written
      (λ there me. EndedObject shows n v slots s c there (takes_block s (cell_told s there)) me)
  end_step id v slots s c w written active some_thread low is ends =
      end_step_as id v slots s c w written (λ there. there) active some_thread low is ends
