-- Steps with which a block moves between its slot and a seat.
use Rattle.std.proofs.Common.{◌≡◌, ◌≢◌, ℕ, ◌<◌, Bool, true, false, List, [], ◌∷◌, length, set, Option, Some, refl, sym}
use Rattle.std.proofs.Common.{◌∙◌, ap, subst, inl, inr, length-set}
use Rattle.std.proofs.lemmas.Bool.{cases_eq}
use mathlib.Core.Option as maybe
use mathlib.Core.Option.{some}
use lib.ListN.{get_elem?}
use Rattle.atomic_table.specs.Table.{State}
use Rattle.law.specs.declared.world.cell.Cell.{Cell}
use Rattle.law.specs.declared.world.event.Step.{Step}
use Rattle.law.specs.world.Lists.{is_marked}
use Rattle.law.specs.world.Heap.{Heap, cell_at, worklist_at, no_cell}
use Rattle.law.specs.world.Holding.{lives}
use Rattle.law.specs.world.Steps.{thread_may, target_at, after_target, cell_after, stepped, is_free_step, takes_block}
use Rattle.law.specs.world.Steps.{worklist_with}
use Rattle.law.proofs.world.Changes.{read_there}
use Rattle.law.specs.declared.known.word.Word.{Word}
use Rattle.law.specs.known.Items.{IsWord, WordShows, ToldBy, meets_closed, told_at, found_at, works_on}
use Rattle.law.proofs.known.Words_Law.{kept_by}
use Rattle.law.specs.declared.rule.contents.Contents.{Contents}
use Rattle.law.specs.declared.rule.told.Moved.{Moved}
use Rattle.law.specs.declared.rule.told.LogItem.TheVariants.{Stepped}
use Rattle.law.specs.declared.rule.view.View.{View}
use Rattle.law.specs.rule.Layout.{spot}
use Rattle.law.specs.rule.Logs.{Run, world, entries_found, contents_at, MovesWith}
use Rattle.law.specs.rule.Homes.{HomeShown}
use Rattle.law.specs.rule.Rule.{with_told, Kept}
use Rattle.law.proofs.rule.Homing.{Stays, home_stays, home_else}
use Rattle.law.proofs.rule.Stepping.{does}

-- marks of other cells stay
other_mark : (frees takes : Bool) (c d : ℕ) (marks : List Bool) → d ≢ c
    → is_marked (worklist_with frees takes c marks) d ≡ is_marked marks d
other_mark true takes c d marks other = read_there marks c d false false other
other_mark false true c d marks other = read_there marks c d true false other
other_mark false false c d marks other = refl

-- another cell's block stays where it is
other_stays : (h : Heap) (t : ℕ) (s : Step) (c d : ℕ) → d ≢ c → Stays h (stepped h t s c) d
other_stays h t s c d other =
    let same : cell_at (stepped h t s c) d ≡ cell_at h d = read_there h.cells c d (cell_after t s c (cell_at h c))
    no_cell other in
    record {
      free = λ is. sym (ap (λ (x : Cell). x.owner) same) ∙ is;
      lives = λ is. sym (ap (λ (x : Cell). lives x.owner) same) ∙ is;
      mutex = λ is. sym (ap (λ (x : Cell). x.mutex) same) ∙ is;
      marks = λ off u. sym (kept_by (λ (w : List Bool). is_marked w d) h.worklists t _ []
          (other_mark (is_free_step s) (takes_block s (cell_at h c)) c d (worklist_at h t) other) u) ∙ off u;
    }

-- a thread's event on a cell whose block moves
pub record BlockMoves (h : Heap) (run : Run) (t : ℕ) (s : Step) (c : ℕ) (w : Word) (written number : ℕ)
    (moved : Moved) : Type 0 where
  pub some_thread : 0 < t
  pub may : thread_may h t s ≡ true
  pub target : target_at h t s ≡ Some c
  pub low : c < length h.cells
  pub word : works_on h t s (Some c) ≡ w
  pub shown : WordShows (stepped h t s c) w written
  pub told : ToldBy (meets_closed h s) (told_at h t s (Some c)) number
  pub entries : entries_found moved ≡ found_at h s (Some c)
  pub moves : MovesWith h run t s moved
  pub elsewhere : (d : ℕ) → d ≢ c → contents_at ((t, Stepped s number moved) ∷ run) d ≡ contents_at run d

module _ {B : Type 0} (shows : B → ℕ × Contents) (n limit : ℕ) where
  abbrev Table : Type 0
  Table = State (Option B) View

  abbrev Rule : Table → Type 0
  Rule = Kept shows n limit

  -- the rule is kept, where the slot of the cell shows the world after the event
  pub block_moved : (st : Table) (r : Rule st) (id : ℕ) (v : View) (s : Step) (c : ℕ) (w : Word) (written number : ℕ)
      (moved : Moved) (home : maybe.Option (Option B))
      → get_elem? st.views id ≡ some v → v.active ≡ true → IsWord n w
      → BlockMoves (world n limit r.run) r.run v.thread s c w written number moved
      → HomeShown shows (set st.homes c home) (stepped (world n limit r.run) v.thread s c)
      ((v.thread, Stepped s number moved) ∷ r.run) c
      → Rule (record {
        words = set st.words (spot n w) written;
        homes = set st.homes c home;
        views = set st.views id
            (with_told (Stepped s number moved) v);
      })
  block_moved st r id v s c w written number moved home at active is moves here =
      let t : ℕ = v.thread in
      let h : Heap = world n limit r.run in
      let later : Run = (t, Stepped s number moved) ∷ r.run in
      let back : Some c ≡ target_at h t s = sym moves.target in
      does shows n limit st r id v s w written number moved (set st.homes c home) at active
      (record {
        some_thread = moves.some_thread;
        may = moves.may;
        word = ap (works_on h t s) moves.target ∙ moves.word;
        is_word = is;
        shown = subst (λ o. WordShows (after_target h t s o) w written) back moves.shown;
        told = subst (λ o. ToldBy (meets_closed h s) (told_at h t s o) number) back moves.told;
        entries = moves.entries ∙ ap (found_at h s) back;
        moves = moves.moves;
      }) (length-set st.homes c home ∙ r.deep)
      (λ d inside. subst (λ o. HomeShown shows (set st.homes c home) (after_target h t s o) later d) back
      (elim (cases_eq d c) [
        | inl same ↦ subst (HomeShown shows (set st.homes c home) (stepped h t s c) later) (sym same) here
        | inr other ↦ home_else shows st.homes (stepped h t s c) later d c home other
            (home_stays shows st.homes h (stepped h t s c) r.run later d (other_stays h t s c d other)
            (moves.elsewhere d other) (r.each_home d inside))
      ]))
