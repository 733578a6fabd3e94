-- What a seat's log says is so in the world of the rule, and so its own part and the cell that it means decide whether
-- a step is enabled.
use Rattle.std.proofs.Common.{◌≡◌, ℕ, ◌<◌, ◌≤◌, nat_lt, ◌&&◌, Bool, true, false, if◌then◌else◌, List, [], ◌∷◌, length}
use Rattle.std.proofs.Common.{Option, Some, None, refl, sym, ◌∙◌, ap, subst, arith}
use Rattle.std.proofs.lemmas.Bool.{and_parts}
use Rattle.std.specs.Cmp.Derive.{both_true}
use mathlib.Core.Option.{some}
use lib.ListN.{get_elem?}
use Rattle.atomic_table.specs.Table.{State}
use Rattle.brc_words.specs.declared.limits.TheConstants.{FIRST_MORTAL, MOST_THREADS}
use Rattle.law.specs.declared.world.row.Row.{Row}
use Rattle.law.specs.declared.world.event.Dropped.{Dropped}
use Rattle.law.specs.declared.world.event.Step.{Step}
use Rattle.law.specs.declared.world.event.Step.TheVariants.{Free, Unlock}
use Rattle.law.specs.world.Lists.{is_marked}
use Rattle.law.specs.known.Start.{runs_in, start_of}
use Rattle.law.specs.world.Heap.{Heap, cell_at, entries_at, row_at, frame_at, popped_at, worklist_at}
use Rattle.law.specs.world.Heap.{is_registered, words_for, AreOptions}
use Rattle.law.specs.world.Steps.{thread_may, stage_ok, lock_ok, hand_ok, own_ok, own_ok_at, others_ok, edition_ok}
use Rattle.law.specs.world.Steps.{target_ok, target_at, is_empty, change_ok, locked_entries, locked_at}
use Rattle.law.specs.world.Holding.{Headline}
use Rattle.law.specs.world.Runs.{IsReached}
use Rattle.law.proofs.world.Reached.{reached_headline}
use Rattle.law.specs.known.Items.{Part, part_of, IsPart, meant, events_of, own}
use Rattle.law.specs.known.Counts.{own_count, counts_of}
use Rattle.law.specs.known.Risen.{is_risen}
use Rattle.law.specs.known.Owners_Seen.{has_seen_owner}
use Rattle.law.specs.lasting.Staying.{rank}
use Rattle.law.proofs.known.Starting.{run_limit, run_runs_in, run_reached}
use Rattle.law.proofs.known.Items_Queues.{run_queues, run_cells}
use Rattle.law.proofs.known.Items_Runs.{events_run}
use Rattle.law.proofs.known.Items_Told.{QueuesFit}
use Rattle.law.proofs.known.Items_Own.{Knows}
use Rattle.law.proofs.known.Items_Law.{parts_are_told, part_target}
use Rattle.law.proofs.known.Counts_Law.{counts_are_told}
use Rattle.law.proofs.known.Risen_Law.{risen_is_told}
use Rattle.law.proofs.known.Owners_Law.{owners_are_registered}
use Rattle.law.specs.declared.rule.contents.Contents.{Contents}
use Rattle.law.specs.declared.rule.told.LogItem.{LogItem}
use Rattle.law.specs.declared.rule.view.View.{View}
use Rattle.law.specs.rule.Logs.{log_items, Run, items_of, own_of, world, IsLegal}
use Rattle.law.specs.rule.Rule.{stands, Fits, Kept}
use Rattle.law.specs.rule.Seen.{part_seen, counts_seen, risen_seen, own_may}
use Rattle.law.proofs.rule.Own_Logs.{own_items, stands_registered, stands_ungathered}

-- what the log says, in the world; and there is a run to it in which the log is all that the thread did
pub record Known (n limit : ℕ) (h : Heap) (t : ℕ) (log : List LogItem) : Type 0 where
  pub run : Run
  pub legal : IsLegal n limit run
  pub is_world : world n limit run ≡ h
  pub is_own : own_of t run ≡ log
  pub options : AreOptions n limit
  pub reached : IsReached h
  pub cells : length h.cells ≡ n
  pub limit_is : h.limit ≡ limit
  pub queues : QueuesFit h
  pub stood : stands h t ≡ true
  pub part : IsPart h t (part_seen n log)
  pub counts : (c : ℕ) → FIRST_MORTAL ≤ c → own_count t (row_at h t).stage (cell_at h c) ≡ counts_seen n log c
  pub owners : (q : ℕ) → has_seen_owner (log_items log) q ≡ true → 0 < q → q ≤ MOST_THREADS → is_registered h q ≡ true
  pub risen : (drop : Dropped) (c : ℕ) → risen_seen n log drop c ≡ true → FIRST_MORTAL ≤ c
      → 1 ≤ rank (cell_at h c).state

-- the run begins in the table's edition, and stays there
pub known_edition : (n limit : ℕ) (h : Heap) (t : ℕ) (log : List LogItem) → Known n limit h t log
    → h.edition ≡ runs_in
known_edition n limit h t log known = sym (ap (λ z. z.edition) known.is_world)
    ∙ run_runs_in n limit (events_of (items_of known.run))

pub knows_run : (n limit : ℕ) (run : Run) (t : ℕ) → AreOptions n limit → IsLegal n limit run
    → stands (world n limit run) t ≡ true → 0 < t → Known n limit (world n limit run) t (own_of t run)
knows_run n limit run t options legal stood some_thread =
    let h : Heap = world n limit run in
    let log : own t (items_of run) ≡ log_items (own_of t run) = own_items t run in
    let there : is_registered h t ≡ true = stands_registered h t stood some_thread in
    record {
      run = run;
      legal = legal;
      is_world = refl;
      is_own = refl;
      options = options;
      reached = run_reached n limit (events_of (items_of run)) options
          (events_run (start_of n limit) (items_of run) legal.items);
      cells = run_cells n limit (events_of (items_of run));
      limit_is = run_limit n limit (events_of (items_of run));
      queues = run_queues n limit (events_of (items_of run));
      stood = stood;
      part = subst (λ items. IsPart h t (part_of n items)) log
          (parts_are_told n limit (items_of run) t options legal.items there);
      counts = λ c mortal. counts_are_told n limit (items_of run) t c options legal.items there mortal
          ∙ ap (λ items. counts_of n items c) log;
      owners = λ q seen low few. owners_are_registered n limit (items_of run) t q options legal.items there
          (ap (λ items. has_seen_owner items q) log ∙ seen) low few;
      risen = λ drop c seen mortal. risen_is_told n limit (items_of run) t c drop options legal.items there
          (ap (λ items. is_risen n items drop c) log ∙ seen) mortal;
    }

module _ {B : Type 0} (shows : B → ℕ × Contents) (n limit : ℕ) where
  pub knows : (s : State (Option B) View) (r : Kept shows n limit s) (id : ℕ) (v : View) → get_elem? s.views id ≡ some v
      → v.active ≡ true → 0 < v.thread
      → Known n limit (world n limit r.run) v.thread v.log
  knows s r id v at active some_thread =
      let fits : Fits (world n limit r.run) r.run r.seat id v = r.each_seat id v at active in
      subst (Known n limit (world n limit r.run) v.thread) fits.log
      (knows_run n limit r.run v.thread r.options r.legal fits.there some_thread)

-- ---- the own part decides

-- own conditions, with the entries that the world has
own_ok_alike : (words : ℕ) (h : Heap) (t : ℕ) (has : ℕ → List ℕ) (s : Step) → Knows h t has
    → own_ok words (row_at h t) (frame_at h t) (popped_at h t) (worklist_at h t) has s ≡ true
    → own_ok words (row_at h t) (frame_at h t) (popped_at h t) (worklist_at h t) (entries_at h) s ≡ true
own_ok_alike words h t has (Free c) knows ok =
    let parts = and_parts (is_marked (worklist_at h t) c) (is_empty (has c)) ok in
    subst (λ (es : List ℕ). (is_marked (worklist_at h t) c && is_empty es) ≡ true) (sym (knows.worklists c parts.0)) ok
own_ok_alike words h t has (Unlock change) knows ok = by_lock (locked_at h t) refl ok
  where
    by_lock : (o : Option ℕ) → locked_at h t ≡ o → change_ok (row_at h t).locked (frame_at h t)
        (locked_entries has (locked_at h t)) change ≡ true
        → change_ok (row_at h t).locked (frame_at h t) (locked_entries (entries_at h) (locked_at h t)) change ≡ true
    by_lock None at ok = subst (λ l. change_ok (row_at h t).locked (frame_at h t) (locked_entries (entries_at h) l)
        change ≡ true) (sym at)
        (subst (λ l. change_ok (row_at h t).locked (frame_at h t) (locked_entries has l) change ≡ true) at ok)
    by_lock (Some c) at ok =
        subst (λ l. change_ok (row_at h t).locked (frame_at h t) (locked_entries (entries_at h) l) change
        ≡ true) (sym at)
        (subst (λ (es : List ℕ). change_ok (row_at h t).locked (frame_at h t) es change ≡ true)
        (sym (knows.locked c at))
        (subst (λ l. change_ok (row_at h t).locked (frame_at h t) (locked_entries has l) change ≡ true) at ok))
own_ok_alike words h t has _ knows ok = ok

-- what is told of a part, of the world's
own_tests : (n : ℕ) (h : Heap) (t : ℕ) (part : Part) (s : Step) → IsPart h t part → own_may n part s ≡ true
    → (stage_ok (row_at h t).stage s && lock_ok (row_at h t).locked s && hand_ok (row_at h t).hand s
    && own_ok (words_for n) (row_at h t) (frame_at h t) (popped_at h t) (worklist_at h t) part.has s) ≡ true
own_tests n h t part s is ok =
    subst (λ (w : List Bool). (stage_ok (row_at h t).stage s && lock_ok (row_at h t).locked s && hand_ok
    (row_at h t).hand s && own_ok (words_for n) (row_at h t) (frame_at h t) (popped_at h t) w part.has s) ≡ true)
    (sym is.work_is)
    (subst (λ (p : List ℕ). (stage_ok (row_at h t).stage s && lock_ok (row_at h t).locked s && hand_ok
    (row_at h t).hand s && own_ok (words_for n) (row_at h t) (frame_at h t) p part.worklist part.has s) ≡ true)
    (sym is.popped_is)
    (subst (λ (f : List (Option ℕ)). (stage_ok (row_at h t).stage s && lock_ok (row_at h t).locked s && hand_ok
    (row_at h t).hand s && own_ok (words_for n) (row_at h t) f part.popped part.worklist part.has s) ≡ true)
    (sym is.frame_is)
    (subst (λ (r : Row). (stage_ok r.stage s && lock_ok r.locked s && hand_ok r.hand s && own_ok
    (words_for n) r part.frame part.popped part.worklist part.has s) ≡ true) (sym is.row_is) ok)))

-- the hand that the step needs
pub hand_there : (n limit : ℕ) (h : Heap) (t : ℕ) (log : List LogItem) (s : Step) → Known n limit h t log
    → own_may n (part_seen n log) s ≡ true → hand_ok (row_at h t).hand s ≡ true
hand_there n limit h t log s known own =
    (and_parts _ _ (and_parts _ _ (own_tests n h t (part_seen n log) s known.part own)).0).1

-- the own part allows the step, and so do the edition, whom it tells and the cell that it means
pub is_enabled : (n limit : ℕ) (h : Heap) (t : ℕ) (log : List LogItem) (s : Step) → 0 < t → Known n limit h t log
    → own_may n (part_seen n log) s ≡ true
    → edition_ok runs_in (row_at h t) s ≡ true → others_ok h t s ≡ true
    → target_ok h t (row_at h t) s (target_at h t s) ≡ true → thread_may h t s ≡ true
is_enabled n limit h t log s some_thread known own edition others target =
    let part : Part = part_seen n log in
    let all = own_tests n h t part s known.part own in
    let a = and_parts _ _ all in
    let b = and_parts _ _ a.0 in
    let c = and_parts _ _ b.0 in
    let mine : own_ok_at h t s ≡ true =
    subst (λ m. own_ok (words_for m) (row_at h t) (frame_at h t) (popped_at h t) (worklist_at h t) (entries_at h) s
    ≡ true) (sym known.cells)
    (own_ok_alike (words_for n) h t part.has s
    (record { locked = known.part.locked_has; worklists = known.part.work_has }) a.1) in
    let there = both_true (stands_registered h t known.stood some_thread)
    (ap Rattle.std.proofs.Common.not (stands_ungathered h t known.stood some_thread)) in
    let edition_too : edition_ok h.edition (row_at h t) s ≡ true = subst (λ e. edition_ok e (row_at h t) s ≡ true)
    (sym (known_edition n limit h t log known)) edition in
    both_true (both_true (both_true (both_true (both_true (both_true (both_true there c.0) c.1) b.1) mine) others)
    edition_too) target

-- the cell that the log's part means is the world's
pub meant_there : (n limit : ℕ) (h : Heap) (t : ℕ) (log : List LogItem) (s : Step) (o : Option ℕ)
    → Known n limit h t log
    → meant (part_seen n log) s ≡ o → target_at h t s ≡ o
meant_there n limit h t log s o known is = sym (part_target h t (part_seen n log) s known.part) ∙ is

-- ---- what stands in a table that keeps the rule

module _ {B : Type 0} (shows : B → ℕ × Contents) (n limit : ℕ) where
  pub kept_reached : (s : State (Option B) View) (r : Kept shows n limit s) → IsReached (world n limit r.run)
  kept_reached s r = run_reached n limit (events_of (items_of r.run)) r.options
      (events_run (start_of n limit) (items_of r.run) r.legal.items)

  pub kept_headline : (s : State (Option B) View) (r : Kept shows n limit s) → Headline (world n limit r.run)
  kept_headline s r = reached_headline (world n limit r.run) (kept_reached s r)

  pub kept_part : (s : State (Option B) View) (r : Kept shows n limit s) (j : ℕ) (v : View)
      → get_elem? s.views j ≡ some v → v.active ≡ true → 0 < v.thread
      → IsPart (world n limit r.run) v.thread (part_seen n v.log)
  kept_part s r j v at active some_thread = (knows shows n limit s r j v at active some_thread).part
