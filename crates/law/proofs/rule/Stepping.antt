-- Any event of a thread that works on one word keeps the rule, where the word becomes what the world after it shows and
-- the homes show that world.
use Rattle.std.proofs.Common.{◌≡◌, ℕ, ◌<◌, true, false, if◌then◌else◌, ◌∷◌, length, set, get_or, Option, Some, None}
use Rattle.std.proofs.Common.{refl, sym, ◌∙◌, ap, subst, inl, inr, arith, length-set}
use Rattle.std.proofs.lemmas.List.{get_or-set_same}
use Rattle.std.proofs.lemmas.Bool.{cases_eq, ne_eqb, true≢false}
use mathlib.Core.Option.{some}
use lib.ListN.{get_elem?}
use Rattle.atomic_table.specs.Table.{State}
use Rattle.law.specs.declared.world.event.Step.{Step}
use Rattle.law.specs.declared.world.event.Step.TheVariants.{Register, Gather}
use Rattle.law.specs.known.Start.{start_of}
use Rattle.law.specs.world.Heap.{Heap}
use Rattle.law.specs.world.Steps.{enabled, after, after_target, root_after, root_may, thread_may, target_at}
use Rattle.law.specs.declared.known.word.Word.{Word}
use Rattle.law.specs.known.Items.{IsWord, WordShows, IsNumberFound, found, works_on, is_start, events_of}
use Rattle.law.proofs.world.Asking.{May, may_parts}
use Rattle.law.proofs.world.Changes.{read_there}
use Rattle.law.proofs.known.Items_Queues.{run_cells}
use Rattle.law.proofs.known.Items_Runs.{events_run}
use Rattle.law.proofs.known.Starting.{run_reached}
use Rattle.law.proofs.lasting.Ranges_Law.{same_rows}
use Rattle.law.proofs.known.Words_Law.{others_shown}
use Rattle.law.specs.declared.rule.contents.Contents.{Contents}
use Rattle.law.specs.declared.rule.told.Moved.{Moved}
use Rattle.law.specs.declared.rule.told.LogItem.{LogItem}
use Rattle.law.specs.declared.rule.told.LogItem.TheVariants.{Stepped}
use Rattle.law.specs.declared.rule.view.View.{View}
use Rattle.law.specs.rule.Layout.{spot}
use Rattle.law.specs.rule.Logs.{item_of, gathered_by, entries_found, Run, items_of, world, MovesWith}
use Rattle.law.specs.rule.Homes.{Homes, HomeShown}
use Rattle.law.specs.rule.Rule.{with_told, Kept}
use Rattle.law.proofs.rule.Spots.{inside, apart}
use Rattle.law.proofs.rule.Own_Logs.{SameThreads}
use Rattle.law.proofs.rule.Growing.{grows}

-- the world after a thread's step
abbrev pub moved_on : Heap → ℕ → Step → Heap
moved_on h t s = after_target h t s (target_at h t s)

pub thread_after : (h : Heap) (t : ℕ) (s : Step) → 0 < t → after h (record { thread = t; step = s }) ≡ moved_on h t s
thread_after h t s some_thread = ap (λ b. if b then root_after h s else moved_on h t s)
    (ne_eqb t 0 (λ same. omega (arith, same, some_thread)))

pub thread_enabled : (h : Heap) (t : ℕ) (s : Step) → 0 < t → thread_may h t s ≡ true
    → enabled h (record { thread = t; step = s }) ≡ true
thread_enabled h t s some_thread may = ap (λ b. if b then root_may h s else thread_may h t s)
    (ne_eqb t 0 (λ same. omega (arith, same, some_thread))) ∙ may

pub same_threads : (h : Heap) (t : ℕ) (s : Step) (o : Option ℕ) → SameThreads h (after_target h t s o)
same_threads h t s None = record { rows = same_rows h t s None; gathered = refl }
same_threads h t s (Some c) = record { rows = same_rows h t s (Some c); gathered = refl }

-- a thread neither registers nor gathers
pub no_start : (h : Heap) (t : ℕ) (s : Step) (number : ℕ) (moved : Moved) → May h t s → (u : ℕ)
    → is_start u (item_of (Stepped s number moved)) ≡ false
no_start h t (Register w) number moved may u = absurd (true≢false (sym may.hand))
no_start h t (Gather w) number moved may u = absurd (true≢false (sym may.hand))
no_start h t _ number moved may u = refl

no_gather : (h : Heap) (t : ℕ) (s : Step) (number : ℕ) (moved : Moved) → May h t s
    → gathered_by (Stepped s number moved) ≡ None
no_gather h t (Gather w) number moved may = absurd (true≢false (sym may.hand))
no_gather h t _ number moved may = refl

-- a thread's event, with what it was told, what it moved, and the word that it worked on
pub record Does (n : ℕ) (h : Heap) (run : Run) (t : ℕ) (s : Step) (w : Word) (written number : ℕ)
    (moved : Moved) : Type 0 where
  pub some_thread : 0 < t
  pub may : thread_may h t s ≡ true
  pub word : works_on h t s (target_at h t s) ≡ w
  pub is_word : IsWord n w
  pub shown : WordShows (moved_on h t s) w written
  pub told : IsNumberFound h t s number
  pub entries : entries_found moved ≡ found h t s
  pub moves : MovesWith h run t s moved

module _ {B : Type 0} (shows : B → ℕ × Contents) (n limit : ℕ) where
  abbrev Table : Type 0
  Table = State (Option B) View

  abbrev Rule : Table → Type 0
  Rule = Kept shows n limit

  pub does : (st : Table) (r : Rule st) (id : ℕ) (v : View) (s : Step) (w : Word) (written number : ℕ) (moved : Moved)
      (homes : Homes B) → get_elem? st.views id ≡ some v → v.active ≡ true
      → Does n (world n limit r.run) r.run v.thread s w written number moved → length homes ≡ n
      → ((c : ℕ) → c < n → HomeShown shows homes (moved_on (world n limit r.run) v.thread s)
      ((v.thread, Stepped s number moved) ∷ r.run) c)
      → Rule (record {
        words = set st.words (spot n w) written;
        homes = homes;
        views = set st.views id
            (with_told (Stepped s number moved) v);
      })
  does st r id v s w written number moved homes at active did deep each_home =
      let t : ℕ = v.thread in
      let x : LogItem = Stepped s number moved in
      let h : Heap = world n limit r.run in
      let may : May h t s = may_parts h t s did.may in
      let is : world n limit ((t, x) ∷ r.run) ≡ moved_on h t s = thread_after h t s did.some_thread in
      grows shows n limit st r id v x (set st.words (spot n w) written) homes at active
      (record {
        threads = subst (SameThreads h) (sym is) (same_threads h t s (target_at h t s));
        starts = no_start h t s number moved may;
        gathers = no_gather h t s number moved may;
      })
      (thread_enabled h t s did.some_thread did.may, did.told, did.entries) did.moves
      (record {
        wide = length-set st.words (spot n w) written ∙ r.wide;
        deep = deep;
        each_word = λ u there. subst (λ z. WordShows z u (get_or (set st.words (spot n w) written) (spot n u) 0))
            (sym is)
            (word_shown st r t s w u written number moved did may there);
        each_home = λ c low. subst (λ z. HomeShown shows homes z ((t, x) ∷ r.run) c) (sym is) (each_home c low);
      })
    where
      word_shown : (st : Table) (r : Rule st) (t : ℕ) (s : Step) (w u : Word) (written number : ℕ) (moved : Moved)
          → Does n (world n limit r.run) r.run t s w written number moved
          → May (world n limit r.run) t s → IsWord n u → WordShows (moved_on (world n limit r.run) t s) u
          (get_or (set st.words (spot n w) written) (spot n u) 0)
      word_shown st r t s w u written number moved did may there = elim (cases_eq (spot n u) (spot n w)) [
        | inl same ↦
            let is : u ≡ w = apart n u w r.options.few_enough there did.is_word same in
            subst (λ z. WordShows (moved_on (world n limit r.run) t s) z
            (get_or (set st.words (spot n w) written) (spot n z) 0)) (sym is)
            (subst (WordShows (moved_on (world n limit r.run) t s) w)
            (sym (get_or-set_same st.words (spot n w) written 0 (omega (arith, inside n w did.is_word, r.wide))))
            did.shown)
        | inr other ↦
            subst (WordShows (moved_on (world n limit r.run) t s) u)
            (sym (read_there st.words (spot n w) (spot n u) written 0 other))
            (others_shown (world n limit r.run) t s u (get_or st.words (spot n u) 0)
            (run_reached n limit (events_of (items_of r.run)) r.options
            (events_run (start_of n limit) (items_of r.run) r.legal.items)) may
            (subst (λ m. IsWord m u) (sym (run_cells n limit (events_of (items_of r.run)))) there)
            (λ e. other (ap (spot n) (e ∙ did.word))) (r.each_word u there))
      ]

-- the same of an event whose word is none of the table's: all words stay, and show the world after it
pub record DoesQuietly (n : ℕ) (h : Heap) (run : Run) (t : ℕ) (s : Step) (w : Word) (number : ℕ)
    (moved : Moved) : Type 0 where
  pub some_thread : 0 < t
  pub may : thread_may h t s ≡ true
  pub word : works_on h t s (target_at h t s) ≡ w
  pub no_word : IsWord n w → ⊥
  pub told : IsNumberFound h t s number
  pub entries : entries_found moved ≡ found h t s
  pub moves : MovesWith h run t s moved

module _ {B : Type 0} (shows : B → ℕ × Contents) (n limit : ℕ) where
  abbrev QuietRule : State (Option B) View → Type 0
  QuietRule = Kept shows n limit

  pub does_quietly : (st : State (Option B) View) (r : QuietRule st) (id : ℕ) (v : View) (s : Step) (w : Word) (number : ℕ)
      (moved : Moved) → get_elem? st.views id ≡ some v → v.active ≡ true
      → DoesQuietly n (world n limit r.run) r.run v.thread s w number moved
      → ((c : ℕ) → c < n → HomeShown shows st.homes (moved_on (world n limit r.run) v.thread s)
      ((v.thread, Stepped s number moved) ∷ r.run) c)
      → QuietRule (record {
        words = st.words;
        homes = st.homes;
        views = set st.views id
            (with_told (Stepped s number moved) v);
      })
  does_quietly st r id v s w number moved at active did each_home =
      let t : ℕ = v.thread in
      let x : LogItem = Stepped s number moved in
      let h : Heap = world n limit r.run in
      let may : May h t s = may_parts h t s did.may in
      let is : world n limit ((t, x) ∷ r.run) ≡ moved_on h t s = thread_after h t s did.some_thread in
      grows shows n limit st r id v x st.words st.homes at active
      (record {
        threads = subst (SameThreads h) (sym is) (same_threads h t s (target_at h t s));
        starts = no_start h t s number moved may;
        gathers = no_gather h t s number moved may;
      })
      (thread_enabled h t s did.some_thread did.may, did.told, did.entries) did.moves
      (record {
        wide = r.wide;
        deep = r.deep;
        each_word = λ u there. subst (λ z. WordShows z u (get_or st.words (spot n u) 0)) (sym is)
            (others_shown h t s u (get_or st.words (spot n u) 0)
            (run_reached n limit (events_of (items_of r.run)) r.options
            (events_run (start_of n limit) (items_of r.run) r.legal.items)) may
            (subst (λ m. IsWord m u) (sym (run_cells n limit (events_of (items_of r.run)))) there)
            (λ e. did.no_word (subst (IsWord n) (e ∙ did.word) there)) (r.each_word u there));
        each_home = λ c low. subst (λ z. HomeShown shows st.homes z ((t, x) ∷ r.run) c) (sym is) (each_home c low);
      })
