-- Register splits the root's seat, and Gather joins a thread's to it.
use Rattle.std.proofs.Common.{◌≡◌, ◌≢◌, ◌⊎◌, ℕ, zero, suc, ◌<◌, ◌==◌, nat_lt, ◌&&◌, ◌||◌, not, Bool, true, false}
use Rattle.std.proofs.Common.{if◌then◌else◌, List, [], ◌∷◌, ◌++◌, length, set, get_or, replicate, Option, Some, refl}
use Rattle.std.proofs.Common.{sym, ◌∙◌, ap, subst, inl, inr, ⊎_elim, arith, length-set}
use Rattle.std.proofs.lemmas.List.{get_or_past, get_or_push}
use Rattle.std.proofs.lemmas.Bool.{cases_eq, cases_lt, eq-eqb, ne_eqb, eqb-true, lt-ltb, le-ltb, le-leb, ltb-true}
use Rattle.std.proofs.lemmas.Bool.{and_parts, or_cases, true≢false}
use Rattle.std.specs.Cmp.Derive.{both_true}
use mathlib.Core.Option.{some, some-injective, some-ne-none}
use lib.ListN.{get_elem?}
use Rattle.atomic_table.specs.Table.{State, Splits, Joins}
use Rattle.atomic_table.proofs.Lists.{at_set, set_here, set_else, at_longer, at_last}
use Rattle.law.specs.declared.world.event.Step.TheVariants.{Register, Gather}
use Rattle.law.specs.declared.world.row.Row.{Row}
use Rattle.law.specs.world.Lists.{word_at, is_blank, is_marked, is_unmarked}
use Rattle.law.specs.known.Start.{start_of}
use Rattle.law.specs.world.Heap.{Heap, cell_at, row_at, queue_at, worklist_at, new_row, no_row, again_row, no_cell, is_registered}
use Rattle.law.specs.world.Heap.{is_gathered, words_for}
use Rattle.law.specs.world.Runs.{IsReached}
use Rattle.law.specs.world.Sound.{IsSound}
use Rattle.law.specs.world.Steps.{root_may, root_after, number_ok, registered, registered_again, gathered_in, is_closed}
use Rattle.law.specs.world.Steps.{is_left, is_free_hand}
use Rattle.law.proofs.world.Changes.{read_here, read_there}
use Rattle.law.proofs.world.Reached.{reached_sound}
use Rattle.law.proofs.world.Registering.{push_else, length-push, new_word}
use Rattle.law.proofs.known.Starting.{run_reached}
use Rattle.law.specs.declared.known.word.Word.{Word}
use Rattle.law.specs.declared.known.word.Field.TheVariants.{Owner, Local, Shared, Mutex}
use Rattle.law.specs.declared.known.word.Word.TheVariants.{Of, Queue, NotifyWord, FreeWord}
use Rattle.law.proofs.known.Free_Law.{shown_longer}
use Rattle.law.specs.known.Items.{WordShows, ShowsQueue, ToldBy, events_of, own, is_used}
use Rattle.law.specs.known.Root.{rows_of}
use Rattle.law.specs.known.Free_Words.{ShowsOwner}
use Rattle.law.proofs.known.Items_Tells.{used_is}
use Rattle.law.proofs.known.Starting.{run_runs_in}
use Rattle.law.specs.world.Holding.{lives}
use Rattle.law.proofs.world.Reusing.{Vacated, fresh, reused, registers}
use Rattle.law.proofs.known.Items_Runs.{events_run}
use Rattle.law.proofs.known.Root_Law.{rows_are_told, next_number_ok}
use Rattle.law.specs.declared.rule.contents.Contents.{Contents}
use Rattle.law.specs.declared.rule.told.Moved.TheVariants as moves
use Rattle.law.specs.declared.rule.told.LogItem.{LogItem}
use Rattle.law.specs.declared.rule.told.LogItem.TheVariants.{Stepped}
use Rattle.law.specs.declared.rule.view.View.{View}
use Rattle.law.specs.rule.Layout.{spot}
use Rattle.law.specs.rule.Logs.{log_items, Run, items_of, begins, own_of, world}
use Rattle.law.specs.rule.Homes.{HomeShown}
use Rattle.law.specs.rule.Rule.{stands, log_in, Fits, StandsOnce, Seated, Kept}
use Rattle.law.specs.rule.Seen.{part_seen}
use Rattle.law.specs.steps.Joining.{next_thread, is_again, registering, starting, gathering, spent, MayRegister}
use Rattle.law.specs.steps.Joining.{HasLeft}
use Rattle.law.proofs.rule.Own_Logs.{own_items, own_more, own_same, stands_registered, stands_ungathered}
use Rattle.law.proofs.rule.Growing.{at_inside}
use Rattle.law.proofs.rule.Once.{once_calm, once_started, once_gathered, once_else}
use Rattle.law.proofs.rule.Homing.{Stays, home_stays}
use Rattle.law.proofs.rule.Knowing.{Known, knows}
use Rattle.law.proofs.rule.Contents_Law.{marks_of_root}

-- ---- lists of views

at_push : {A : Type 0} (l : List A) (a b : A) (j : ℕ) → get_elem? (l ++ a ∷ []) j ≡ some b
    → (get_elem? l j ≡ some b) ⊎ ((j ≡ length l) × (a ≡ b))
at_push [] a b zero e = inr (refl, some-injective a b e)
at_push [] a b (suc j) e = absurd (some-ne-none b (sym e))
at_push (x ∷ xs) a b zero e = inl e
at_push (x ∷ xs) a b (suc j) e = ⊎_elim (λ there. inl there) (λ last. inr (ap suc last.0, last.1)) (at_push xs a b j e)

-- ---- a world with one more thread

-- who stands, but for the new thread, stood before
stood_before : (h : Heap) (t : ℕ) → IsSound h → t ≢ length h.rows → stands (registered h) t ≡ stands h t
stood_before h t sound other =
    ap (λ b. (t == 0) || (nat_lt 0 t && b && not (is_gathered (registered h) t))) low
    ∙ ap (λ b. (t == 0) || (is_registered h t && not b))
    (push_else h.gathered false false t (λ e. other (e ∙ sound.shaped.gathered)))
  where
    low : nat_lt t (length (h.rows ++ new_row ∷ [])) ≡ nat_lt t (length h.rows)
    low = elim (cases_lt t (length h.rows)) [
      | inl small ↦ lt-ltb _ _ (omega (arith, small, length-push h.rows new_row)) ∙ sym (lt-ltb _ _ small)
      | inr large ↦ le-ltb _ _ (omega (arith, large, other, length-push h.rows new_row)) ∙ sym (le-ltb _ _ large)
    ]

new_stands : (h : Heap) → IsSound h → stands (registered h) (length h.rows) ≡ true
new_stands h sound =
    let inside : is_registered (registered h) (length h.rows) ≡ true = both_true (lt-ltb _ _ sound.shaped.root)
    (lt-ltb _ _ (omega (arith, length-push h.rows new_row))) in
    let out : is_gathered (registered h) (length h.rows) ≡ false = get_or_push h.gathered false false
    (length h.rows) sound.shaped.gathered in
    ap (λ b. b || (is_registered (registered h) (length h.rows) && not (is_gathered (registered h) (length h.rows))))
    (ne_eqb (length h.rows) 0 (λ e. omega (arith, e, sound.shaped.root)))
    ∙ both_true inside (ap not out)

and_false : (b : Bool) → (b && false) ≡ false
and_false true = refl
and_false false = refl

not_last : (h : Heap) (w : ℕ) → is_gathered (registered h) w ≡ true → w ≢ length h.gathered
not_last h w out last = true≢false (sym out ∙ get_or_push h.gathered false false w (sym last))

gathered_inside : (h : Heap) (w : ℕ) → is_gathered h w ≡ true → w < length h.gathered
gathered_inside h w out = elim (cases_lt w (length h.gathered)) [
  | inl low ↦ low
  | inr past ↦ absurd (true≢false (sym out ∙ get_or_past h.gathered w false past))
]

-- each word shows what it showed
shown_registered : (n : ℕ) (h : Heap) (w : Word) (m : ℕ) → IsSound h → WordShows h w m → WordShows (registered h) w m
shown_registered n h (Of Owner c) m sound shown = shown_longer (length h.rows) (length (registered h).rows)
    (cell_at h c).owner m (omega (arith, length-push h.rows new_row)) shown
shown_registered n h (Of Local c) m sound shown = shown
shown_registered n h (Of Shared c) m sound shown = shown
shown_registered n h (Of Mutex c) m sound shown = shown
shown_registered n h (FreeWord k) m sound shown = shown
shown_registered n h (NotifyWord t) m sound shown = shown ∙ sym (elim (cases_eq t (length h.notify_words)) [
  | inl last ↦ get_or_push h.notify_words 0 0 t (sym last) ∙ sym (get_or_past h.notify_words t 0 (omega (arith, last)))
  | inr other ↦ push_else h.notify_words 0 0 t other
])
shown_registered n h (Queue t k) m sound shown = elim (cases_eq t (length h.rows)) [
  | inr other ↦
      subst (λ b. ShowsQueue b (is_closed (row_at (registered h) t).stage k) (word_at (queue_at (registered h) t) k) m)
      (sym (same_registered h t other))
      (subst (λ (row : Row). ShowsQueue (is_registered h t) (is_closed row.stage k)
      (word_at (queue_at (registered h) t) k) m) (sym (push_else h.rows new_row no_row t other))
      (subst (λ (q : List ℕ). ShowsQueue (is_registered h t) (is_closed (row_at h t).stage k) (word_at q k) m)
      (sym (push_else h.queues (replicate (words_for (length h.cells)) 0) [] t
      (λ e. other (e ∙ sound.shaped.queues)))) shown))
  | inl last ↦
      let none : m ≡ 0 = subst (λ b. ShowsQueue b (is_closed (row_at h t).stage k) (word_at (queue_at h t) k) m)
      (not_registered h t last) shown in
      let row : row_at (registered h) t ≡ new_row = get_or_push h.rows new_row no_row t (sym last) in
      let queue : queue_at (registered h) t ≡ replicate (words_for (length h.cells)) 0 =
      get_or_push h.queues (replicate (words_for (length h.cells)) 0) [] t (sound.shaped.queues ∙ sym last) in
      subst (λ b. ShowsQueue b (is_closed (row_at (registered h) t).stage k) (word_at (queue_at (registered h) t) k) m)
      (sym (now_registered h t sound last))
      (subst (λ (r : Row). ShowsQueue true (is_closed r.stage k) (word_at (queue_at (registered h) t) k) m) (sym row)
      (none ∙ sym (ap (λ (q : List ℕ). word_at q k) queue ∙ new_word (words_for (length h.cells)) k)))
]
  where
    same_registered : (h : Heap) (t : ℕ) → t ≢ length h.rows → is_registered (registered h) t ≡ is_registered h t
    same_registered h t other = ap (λ b. nat_lt 0 t && b) (elim (cases_lt t (length h.rows)) [
      | inl small ↦ lt-ltb _ _ (omega (arith, small, length-push h.rows new_row)) ∙ sym (lt-ltb _ _ small)
      | inr large ↦ le-ltb _ _ (omega (arith, large, other, length-push h.rows new_row)) ∙ sym (le-ltb _ _ large)
    ])

    not_registered : (h : Heap) (t : ℕ) → t ≡ length h.rows → is_registered h t ≡ false
    not_registered h t last = ap (λ b. nat_lt 0 t && b) (le-ltb t (length h.rows) (omega (arith, last)))
        ∙ and_false (nat_lt 0 t)

    now_registered : (h : Heap) (t : ℕ) → IsSound h → t ≡ length h.rows → is_registered (registered h) t ≡ true
    now_registered h t sound last = both_true (lt-ltb 0 t (omega (arith, last, sound.shaped.root)))
        (lt-ltb _ _ (omega (arith, last, length-push h.rows new_row)))

-- ---- a world in which a number is used again

same_again : (h : Heap) (u t : ℕ) → t ≢ u → stands (registered_again h u) t ≡ stands h t
same_again h u t other =
    ap (λ m. (t == 0) || (nat_lt 0 t && nat_lt t m && not (is_gathered (registered_again h u) t)))
    (length-set h.rows u again_row)
    ∙ ap (λ b. (t == 0) || (is_registered h t && not b)) (read_there h.gathered u t false false other)

again_stands : (h : Heap) (u : ℕ) → IsSound h → Vacated h u → stands (registered_again h u) u ≡ true
again_stands h u sound vacated =
    ap (λ b. b || (is_registered (registered_again h u) u && not (is_gathered (registered_again h u) u)))
    (ne_eqb u 0 (λ e. omega (arith, e, vacated.thread)))
    ∙ both_true (both_true (lt-ltb 0 u vacated.thread)
    (lt-ltb _ _ (omega (arith, vacated.inside, length-set h.rows u again_row))))
    (ap not (read_here h.gathered u false false (omega (arith, vacated.inside, sound.shaped.gathered))))

-- each word shows what it showed: the queue words of the number are closed, before and after
shown_again : (n : ℕ) (h : Heap) (u : ℕ) (w : Word) (m : ℕ) → IsSound h → Vacated h u → WordShows h w m
    → WordShows (registered_again h u) w m
shown_again n h u (Of Owner c) m sound vacated shown =
    subst (λ k. ShowsOwner k (cell_at h c).owner m) (sym (length-set h.rows u again_row)) shown
shown_again n h u (Of Local c) m sound vacated shown = shown
shown_again n h u (Of Shared c) m sound vacated shown = shown
shown_again n h u (Of Mutex c) m sound vacated shown = shown
shown_again n h u (FreeWord k) m sound vacated shown = shown
shown_again n h u (NotifyWord t) m sound vacated shown = shown
shown_again n h u (Queue t k) m sound vacated shown =
    let w : Heap = registered_again h u in
    subst (λ b. ShowsQueue b (is_closed (row_at w t).stage k) (word_at (queue_at w t) k) m)
    (ap (λ i. nat_lt 0 t && nat_lt t i) (sym (length-set h.rows u again_row)))
    (elim (cases_eq t u) [
      | inr other ↦
          subst (λ (row : Row). ShowsQueue (is_registered h t) (is_closed row.stage k) (word_at (queue_at w t) k) m)
          (sym (read_there h.rows u t again_row no_row other))
          (subst (λ (q : List ℕ). ShowsQueue (is_registered h t) (is_closed (row_at h t).stage k) (word_at q k) m)
          (sym (read_there h.queues u t (replicate (words_for (length h.cells)) 0) [] other)) shown)
      | inl same ↦
          let there : is_registered h t ≡ true = ap (is_registered h) same
          ∙ both_true (lt-ltb 0 u vacated.thread) (lt-ltb u (length h.rows) vacated.inside) in
          let was : is_closed (row_at h t).stage k ≡ true = ap (λ i. is_closed (row_at h i).stage k) same
          ∙ ap (λ g. is_closed g k) vacated.stage in
          let now : is_closed (row_at w t).stage k ≡ true = ap (λ i. is_closed (row_at w i).stage k) same
          ∙ ap (λ (row : Row). is_closed row.stage k) (read_here h.rows u again_row no_row vacated.inside)
          ∙ le-leb 0 k (omega arith) in
          subst (λ b. ShowsQueue (is_registered h t) b (word_at (queue_at w t) k) m) (sym now)
          (subst (λ b. ShowsQueue b true (word_at (queue_at w t) k) m) (sym there)
          (subst (λ b. ToldBy b (word_at (queue_at h t) k) m) was
          (subst (λ b. ShowsQueue b (is_closed (row_at h t).stage k) (word_at (queue_at h t) k) m) there shown)))
    ])

-- a number that is to come doesn't stand
not_yet : (h : Heap) (t : ℕ) → IsSound h → t ≡ length h.rows → stands h t ≡ false
not_yet h t sound next =
    ap (λ b. b || (is_registered h t && not (is_gathered h t)))
    (ne_eqb t 0 (λ e. omega (arith, e, next, sound.shaped.root)))
    ∙ ap (λ b. (nat_lt 0 t && b) && not (is_gathered h t)) (le-ltb t (length h.rows) (omega (arith, next)))
    ∙ ap (λ b. b && not (is_gathered h t)) (and_false (nat_lt 0 t))

-- ---- what either way of registering a number makes of the world

record Enters (n : ℕ) (h : Heap) (u : ℕ) (w : Heap) : Type 0 where
  leads : root_after h (Register u) ≡ w
  some : 0 < u
  before : (t : ℕ) → t ≢ u → stands w t ≡ stands h t
  now : stands w u ≡ true
  off : stands h u ≡ false
  shown : (word : Word) (m : ℕ) → WordShows h word m → WordShows w word m
  stays : (c : ℕ) → Stays h w c
  gathered : (t : ℕ) → is_gathered w t ≡ true → (is_gathered h t ≡ true) × (t ≢ u)

stays_as : (h w : Heap) (u c : ℕ) → IsSound h → root_may h (Register u) ≡ true → root_after h (Register u) ≡ w
    → w.cells ≡ h.cells → Stays h w c
stays_as h w u c sound ok leads same = record {
  free = λ is. ap (λ cells. (get_or cells c no_cell).owner) (sym same) ∙ is;
  lives = λ is. ap (λ cells. lives (get_or cells c no_cell).owner) (sym same) ∙ is;
  mutex = λ is. ap (λ cells. (get_or cells c no_cell).mutex) (sym same) ∙ is;
  marks = λ off t. marks_of_root h (Register u) c t sound ok (ap (λ z. is_marked (worklist_at z t) c) leads ∙ off t);
}

gathered_stands : (h : Heap) (t : ℕ) → 0 < t → is_gathered h t ≡ true → stands h t ≡ false
gathered_stands h t positive out =
    ap (λ b. b || (is_registered h t && not (is_gathered h t))) (ne_eqb t 0 (λ e. omega (arith, e, positive)))
    ∙ ap (λ b. is_registered h t && not b) out ∙ and_false (is_registered h t)

enters : (n : ℕ) (h : Heap) (u : ℕ) → IsSound h → root_may h (Register u) ≡ true → (w : Heap) × Enters n h u w
enters n h u sound ok = elim (registers h u sound ok) [
  | fresh last most few is ↦ (
    registered h,
    record {
      leads = is;
      some = omega (arith, last, sound.shaped.root);
      before = λ t other. stood_before h t sound (λ e. other (e ∙ sym last));
      now = ap (stands (registered h)) last ∙ new_stands h sound;
      off = not_yet h u sound last;
      shown = λ word m shown. shown_registered n h word m sound shown;
      stays = λ c. stays_as h (registered h) u c sound ok is refl;
      gathered = λ t out. (
        sym (push_else h.gathered false false t (not_last h t out)) ∙ out,
        λ e. not_last h t out (e ∙ last ∙ sym sound.shaped.gathered),
      );
    },
  )
  | reused vacated few is ↦ (
    registered_again h u,
    record {
      leads = is;
      some = vacated.thread;
      before = same_again h u;
      now = again_stands h u sound vacated;
      off = gathered_stands h u vacated.thread vacated.gathered;
      shown = λ word m shown. shown_again n h u word m sound vacated shown;
      stays = λ c. stays_as h (registered_again h u) u c sound ok is refl;
      gathered = λ t out.
          let other : t ≢ u = λ e. true≢false (sym out ∙ ap (is_gathered (registered_again h u)) e
          ∙ read_here h.gathered u false false (omega (arith, vacated.inside, sound.shaped.gathered))) in
          (sym (read_there h.gathered u t false false other) ∙ out, other);
    },
  )
]

-- ---- a world in which one thread more is gathered

same_stood : (h : Heap) (u t : ℕ) → t ≢ u → stands (gathered_in h u) t ≡ stands h t
same_stood h u t other = ap (λ b. (t == 0) || (is_registered h t && not b)) (read_there h.gathered u t true false other)

shown_gathered : (h : Heap) (u : ℕ) (w : Word) (m : ℕ) → WordShows h w m → WordShows (gathered_in h u) w m
shown_gathered h u (Of Owner c) m shown = shown
shown_gathered h u (Of Local c) m shown = shown
shown_gathered h u (Of Shared c) m shown = shown
shown_gathered h u (Of Mutex c) m shown = shown
shown_gathered h u (FreeWord k) m shown = shown
shown_gathered h u (Queue t k) m shown = shown
shown_gathered h u (NotifyWord t) m shown = shown

-- a thread that is gathered doesn't stand
gone_now : (h : Heap) (u t : ℕ) → 0 < u → u < length h.rows → IsSound h → u ≡ t → stands (gathered_in h u) t ≡ false
gone_now h u t positive low sound same =
    ap (stands (gathered_in h u)) (sym same)
    ∙ ap (λ b. b || (is_registered h u && not (is_gathered (gathered_in h u) u)))
    (ne_eqb u 0 (λ e. omega (arith, e, positive)))
    ∙ ap (λ b. is_registered h u && not b)
    (read_here h.gathered u true false (omega (arith, low, sound.shaped.gathered)))
    ∙ and_false (is_registered h u)

module _ {B : Type 0} (shows : B → ℕ × Contents) (n limit : ℕ) where
  abbrev Table : Type 0
  Table = State (Option B) View

  abbrev Rule : Table → Type 0
  Rule = Kept shows n limit

  reached : (s : Table) (r : Rule s) → IsReached (world n limit r.run)
  reached s r = run_reached n limit (events_of (items_of r.run)) r.options
      (events_run (start_of n limit) (items_of r.run) r.legal.items)

  -- the root's log is what the root did
  root_log : (s : Table) (r : Rule s) (id : ℕ) (v : View) → get_elem? s.views id ≡ some v → MayRegister v
      → own 0 (items_of r.run) ≡ log_items v.log
  root_log s r id v at registers =
      let fits : Fits (world n limit r.run) r.run r.seat id v = r.each_seat id v at registers.active in
      own_items 0 r.run ∙ ap log_items (ap (λ t. own_of t r.run) (sym registers.root) ∙ fits.log)

  -- so it tells which number is the next
  next_may : (s : Table) (r : Rule s) (id : ℕ) (v : View) → get_elem? s.views id ≡ some v → MayRegister v
      → root_may (world n limit r.run) (Register (next_thread v)) ≡ true
  next_may s r id v at registers =
      let h : Heap = world n limit r.run in
      let log : own 0 (items_of r.run) ≡ log_items v.log = root_log s r id v at registers in
      both_true (subst (λ e. number_ok e h (next_thread v) ≡ true)
      (sym (run_runs_in n limit (events_of (items_of r.run))))
      (next_number_ok n limit (items_of r.run) (log_items v.log) r.options r.legal.items log registers.more))
      (le-leb _ _ registers.few)

  -- and whether it was used before
  again_is : (s : Table) (r : Rule s) (id : ℕ) (v : View) → get_elem? s.views id ≡ some v → MayRegister v
      → 0 < next_thread v → is_used (next_thread v) (items_of r.run) ≡ is_again v
  again_is s r id v at registers positive =
      let h : Heap = world n limit r.run in
      used_is n limit (items_of r.run) (next_thread v) r.options r.legal.items positive
      ∙ ap (λ b. b && nat_lt (next_thread v) (length h.rows)) (lt-ltb 0 (next_thread v) positive)
      ∙ ap (nat_lt (next_thread v)) (rows_are_told n limit (items_of r.run) r.options r.legal.items
      ∙ ap rows_of (root_log s r id v at registers))

  abbrev with_seat : (ℕ → ℕ) → ℕ → ℕ → ℕ → ℕ
  with_seat seat u j t = if t == u then j else seat t

  -- Register: the new thread has the new seat
  pub splits : (id : ℕ) (v : View) → MayRegister v → Splits Rule id v (registering v) (starting v)
  splits id v registers s r at =
      let h : Heap = world n limit r.run in
      let u : ℕ = next_thread v in
      let x : LogItem = Stepped (Register u) 0 moves.Nothing in
      let later : Run = (0, x) ∷ r.run in
      let sound : IsSound h = reached_sound h (reached s r) in
      let ok : root_may h (Register u) ≡ true = next_may s r id v at registers in
      let entered = enters n h u sound ok in
      let w : Heap = entered.0 in
      let e : Enters n h u w = entered.1 in
      let leads : world n limit later ≡ w = e.leads in
      let fits : Fits h r.run r.seat id v = r.each_seat id v at registers.active in
      let root_here : r.seat 0 ≡ id = ap r.seat (sym registers.root) ∙ fits.here in
      record {
        run = later;
        seat = with_seat r.seat u (length s.views);
        options = r.options;
        legal = record { items = (r.legal.items, (ok, refl, refl)); moved = (r.legal.moved, (refl, refl)) };
        wide = r.wide;
        deep = r.deep;
        each_word = λ word inside. subst (λ z. WordShows z word (get_or s.words (spot n word) 0)) (sym leads)
            (e.shown word (get_or s.words (spot n word) 0) (r.each_word word inside));
        each_home = λ c low. subst (λ z. HomeShown shows s.homes z later c) (sym leads)
            (home_stays shows s.homes h w r.run later c (e.stays c) refl (r.each_home c low));
        each_seat = λ j z there live. subst (λ y. Fits y later (with_seat r.seat u (length s.views)) j z)
            (sym leads) (⊎_elim
            (λ (old : get_elem? (set s.views id (registering v)) j ≡ some z). ⊎_elim
            (λ (mine : (j ≡ id) × (registering v ≡ z)). subst
            (λ (y : ℕ × View). Fits w later (with_seat r.seat u (length s.views)) y.0 y.1)
            (λ i. (sym mine.0 i, mine.1 i))
            (root_fits s r id v u w registers e fits))
            (λ (other : (j ≢ id) × (get_elem? s.views j ≡ some z)). thread_fits s r j z u id w e
            root_here other.0 (r.each_seat j z other.1 live))
            (at_set s.views id j (registering v) z old))
            (λ (new : (j ≡ length (set s.views id (registering v))) × (starting v ≡ z)).
            subst (λ (y : ℕ × View). Fits w later (with_seat r.seat u (length s.views)) y.0 y.1)
            (λ i. (sym (new.0 ∙ length-set s.views id (registering v)) i, new.1 i))
            (start_fits s r v u w e refl (again_is s r id v at registers e.some)))
            (at_push (set s.views id (registering v)) (starting v) z j there));
        each_thread = λ t there. seated s r id v t u w at registers e refl (subst (λ z. stands z t ≡ true) leads there);
        each_once = λ t positive. subst (λ z. StandsOnce z later t) (sym leads) (elim (cases_eq u t) [
          | inl same ↦ once_started h w r.run t x positive (eq-eqb u t same) refl
              (ap (stands h) (sym same) ∙ e.off) (r.each_once t positive)
          | inr other ↦ once_calm h w r.run 0 t x (ne_eqb u t other) refl refl
              (e.before t (λ back. other (sym back))) (r.each_once t positive)
        ]);
      }
    where
      start_fits : (s : Table) (r : Rule s) (v : View) (u : ℕ) (w : Heap) → Enters n (world n limit r.run) u w
          → u ≡ next_thread v → is_used (next_thread v) (items_of r.run) ≡ is_again v
          → Fits w ((0, Stepped (Register u) 0 moves.Nothing) ∷ r.run)
          (with_seat r.seat u (length s.views)) (length s.views) (starting v)
      start_fits s r v u w e next used = record {
        here = ap (with_seat r.seat u (length s.views)) (sym next) ∙ ap (λ b. if b then length s.views else r.seat u)
            (eq-eqb u u refl);
        there = ap (stands w) (sym next) ∙ e.now;
        log = ap (λ t. own_of t ((0, Stepped (Register u) 0 moves.Nothing) ∷ r.run)) (sym next)
            ∙ ap (λ b. if b then begins (is_used u (items_of r.run)) (Stepped (Register u) 0 moves.Nothing) else
            (if 0 ==
            u then Stepped (Register u) 0 moves.Nothing ∷ own_of u r.run else own_of u r.run)) (eq-eqb u u refl)
            ∙ ap (λ t. begins (is_used t (items_of r.run)) (Stepped (Register t) 0 moves.Nothing)) next
            ∙ ap (λ b. begins b (Stepped (Register (next_thread v)) 0 moves.Nothing)) used;
        gathered = λ root. absurd (omega (arith, root, sym next, e.some));
        lives = λ root. absurd (omega (arith, root, sym next, e.some));
      }

      thread_fits : (s : Table) (r : Rule s) (j : ℕ) (z : View) (u id : ℕ) (w : Heap)
          → Enters n (world n limit r.run) u w → r.seat 0 ≡ id → j ≢ id
          → Fits (world n limit r.run) r.run r.seat j z
          → Fits w ((0, Stepped (Register u) 0 moves.Nothing) ∷ r.run) (with_seat r.seat u (length s.views)) j z
      thread_fits s r j z u id w e root_here other fits =
          let apart : z.thread ≢ u = λ same. true≢false (sym fits.there ∙ ap (stands (world n limit r.run)) same
          ∙ e.off) in
          let not_root : 0 ≢ z.thread = λ zero_is. other (sym fits.here ∙ ap r.seat (sym zero_is) ∙ root_here) in
          record {
            here = ap (λ b. if b then length s.views else r.seat z.thread) (ne_eqb z.thread u apart) ∙ fits.here;
            there = e.before z.thread apart ∙ fits.there;
            log = own_same 0 z.thread (Stepped (Register u) 0 moves.Nothing) r.run
                (ne_eqb u z.thread (λ back. apart (sym back))) not_root ∙ fits.log;
            gathered = λ root. absurd (not_root (sym root));
            lives = λ root. absurd (not_root (sym root));
          }

      root_fits : (s : Table) (r : Rule s) (id : ℕ) (v : View) (u : ℕ) (w : Heap) → MayRegister v
          → Enters n (world n limit r.run) u w
          → Fits (world n limit r.run) r.run r.seat id v
          → Fits w ((0, Stepped (Register u) 0 moves.Nothing) ∷ r.run)
          (with_seat r.seat u (length s.views)) id
          (Rattle.law.specs.rule.Rule.with_told (Stepped (Register u) 0 moves.Nothing) v)
      root_fits s r id v u w registers e fits =
          let h : Heap = world n limit r.run in
          let apart : v.thread ≢ u = λ same. omega (arith, registers.root, same, e.some) in
          record {
            here = ap (λ b. if b then length s.views else r.seat v.thread) (ne_eqb v.thread u apart) ∙ fits.here;
            there = e.before v.thread apart ∙ fits.there;
            log = subst (λ t. own_of v.thread ((t, Stepped (Register u) 0 moves.Nothing) ∷ r.run) ≡ Stepped
                (Register u) 0 moves.Nothing ∷ v.log) registers.root
                (own_more v.thread (Stepped (Register u) 0 moves.Nothing) r.run
                (ne_eqb u v.thread (λ back. apart (sym back)))
                ∙ ap (λ log. Stepped (Register u) 0 moves.Nothing ∷ log) fits.log);
            gathered = λ root q low out.
                let old = e.gathered q out in
                fits.gathered root q low old.0 ∙ ap Some (sym (own_same 0 q (Stepped (Register u) 0 moves.Nothing) r.run
                (ne_eqb u q (λ back. old.1 (sym back))) (λ zero_is. omega (arith, zero_is, low))));
            lives = λ root. fits.lives root;
          }

      seated : (s : Table) (r : Rule s) (id : ℕ) (v : View) (t u : ℕ) (w : Heap) → get_elem? s.views id ≡ some v
          → MayRegister v → Enters n (world n limit r.run) u w → u ≡ next_thread v
          → stands w t ≡ true
          → Seated (set s.views id (registering v) ++ starting v ∷ []) t (with_seat r.seat u (length s.views) t)
      seated s r id v t u w at registers e next there = elim (cases_eq t u) [
        | inl new ↦
            subst (λ j. Seated (set s.views id (registering v) ++ starting v ∷ []) t j)
            (sym (ap (λ b. if b then length s.views else r.seat t) (eq-eqb t u new)))
            (record {
              view = starting v;
              there = at_last (set s.views id (registering v)) (starting v) (length s.views)
                  (length-set s.views id (registering v));
              active = refl;
              thread = sym next ∙ sym new;
            })
        | inr old ↦
            let before : Seated s.views t (r.seat t) = r.each_thread t (sym (e.before t old) ∙ there) in
            subst (λ j. Seated (set s.views id (registering v) ++ starting v ∷ []) t j)
            (sym (ap (λ b. if b then length s.views else r.seat t) (ne_eqb t u old)))
            (elim (cases_eq (r.seat t) id) [
              | inl same ↦ record {
                view = registering v;
                there = ap (get_elem? (set s.views id (registering v) ++ starting v ∷ [])) same
                    ∙ at_longer (set s.views id (registering v)) (starting v ∷ []) id (registering v)
                    (set_here s.views id (registering v) (at_inside s.views id v at));
                active = registers.active;
                thread = ap (λ (z : View). z.thread)
                    (some-injective v before.view (sym at ∙ sym (ap (get_elem? s.views) same) ∙ before.there))
                    ∙ before.thread;
              }
              | inr other ↦ record {
                view = before.view;
                there = at_longer (set s.views id (registering v)) (starting v ∷ []) (r.seat t) before.view
                    (set_else s.views id (r.seat t) (registering v) other ∙ before.there);
                active = before.active;
                thread = before.thread;
              }
            ])
      ]

  -- Gather: the root's seat takes in that of a thread that has left
  gather_may : (s : Table) (r : Rule s) (id : ℕ) (w : View) → get_elem? s.views id ≡ some w → HasLeft n w
      → root_may (world n limit r.run) (Gather w.thread) ≡ true
  gather_may s r id w at leaves =
      let h : Heap = world n limit r.run in
      let known : Known n limit h w.thread w.log = knows shows n limit s r id w at leaves.active leaves.some_thread in
      let part = part_seen n w.log in
      both_true (both_true (both_true
      (both_true (both_true (stands_registered h w.thread known.stood leaves.some_thread)
      (ap not (stands_ungathered h w.thread known.stood leaves.some_thread)))
      (ap (λ (row : Row). is_left row.stage) known.part.row_is ∙ leaves.left))
      (ap (λ (row : Row). is_free_hand row.hand) known.part.row_is ∙ leaves.hand))
      (ap is_blank known.part.popped_is ∙ leaves.popped))
      (ap is_unmarked known.part.work_is ∙ leaves.worklist)

  pub joins : (id : ℕ) (v : View) (other : ℕ) (w : View) → v.active ≡ true → v.thread ≡ 0 → HasLeft n w
      → Joins Rule id v other w (gathering v w) spent
  joins id v other w active root leaves s r at apart_seats there_other =
      let h : Heap = world n limit r.run in
      let u : ℕ = w.thread in
      let x : LogItem = Stepped (Gather u) 0 moves.Nothing in
      let later : Run = (0, x) ∷ r.run in
      let at_other : get_elem? s.views other ≡ some w = sym (set_else s.views id other (gathering v w) apart_seats)
      ∙ there_other in
      let fits : Fits h r.run r.seat id v = r.each_seat id v at active in
      let his : Fits h r.run r.seat other w = r.each_seat other w at_other leaves.active in
      let sound : IsSound h = reached_sound h (reached s r) in
      let low : u < length h.rows = ltb-true u (length h.rows)
      (and_parts (nat_lt 0 u) (nat_lt u (length h.rows)) (stands_registered h u his.there leaves.some_thread)).1 in
      record {
        run = later;
        seat = r.seat;
        options = r.options;
        legal = record {
          items = (r.legal.items, (gather_may s r other w at_other leaves, refl, refl));
          moved = (r.legal.moved, (refl, refl));
        };
        wide = r.wide;
        deep = r.deep;
        each_word = λ z inside. shown_gathered h u z (get_or s.words (spot n z) 0) (r.each_word z inside);
        each_home = λ c inside. home_stays shows s.homes h (gathered_in h u) r.run later c
            (record { free = λ is. is; lives = λ is. is; mutex = λ is. is; marks = λ off. off }) refl
            (r.each_home c inside);
        each_seat = λ j z there live. ⊎_elim
            (λ (e : (j ≡ other) × (spent ≡ z)). absurd (true≢false (sym live ∙ ap (λ (y : View). y.active) (sym e.1))))
            (λ (e : (j ≢ other) × (get_elem? (set s.views id (gathering v w)) j ≡ some z)). ⊎_elim
            (λ (mine : (j ≡ id) × (gathering v w ≡ z)). subst
            (λ (y : ℕ × View). Fits (gathered_in h u) later r.seat y.0 y.1) (λ i. (sym mine.0 i, mine.1 i))
            (root_joined s r id other v w root leaves.some_thread low sound fits his))
            (λ (else_ : (j ≢ id) × (get_elem? s.views j ≡ some z)). thread_joined s r id other j z v w root fits his
            else_.0 e.0 (r.each_seat j z else_.1 live))
            (at_set s.views id j (gathering v w) z e.1))
            (at_set (set s.views id (gathering v w)) other j spent z there);
        each_thread = λ t there. seated_joined s r id other v w t at at_other active root leaves.some_thread low sound
            his there;
        each_once = λ t positive. elim (cases_eq u t) [
          | inl same ↦ once_gathered h (gathered_in h u) r.run t x positive (ap Some same) (ap (stands h) (sym same)
              ∙ his.there) (gone_now h u t leaves.some_thread low sound same) (r.each_once t positive)
          | inr apart ↦ once_else h (gathered_in h u) r.run t u x positive refl refl apart
              (same_stood h u t (λ e. apart (sym e))) (r.each_once t positive)
        ];
      }
    where
      root_joined : (s : Table) (r : Rule s) (id other : ℕ) (v w : View) → v.thread ≡ 0 → 0 < w.thread
          → w.thread < length (world n limit r.run).rows → IsSound (world n limit r.run)
          → Fits (world n limit r.run) r.run r.seat id v → Fits (world n limit r.run) r.run r.seat other w
          → Fits (gathered_in (world n limit r.run) w.thread) ((0, Stepped (Gather w.thread) 0 moves.Nothing) ∷ r.run)
          r.seat id (gathering v w)
      root_joined s r id other v w root some_thread low sound fits his =
          let h : Heap = world n limit r.run in
          let u : ℕ = w.thread in
          let x : LogItem = Stepped (Gather u) 0 moves.Nothing in
          record {
            here = fits.here;
            there = same_stood h u v.thread (λ e. omega (arith, root, e, some_thread)) ∙ fits.there;
            log = subst (λ t. own_of v.thread ((t, x) ∷ r.run) ≡ x ∷ v.log) root (own_more v.thread x r.run refl
                ∙ ap (λ log. x ∷ log) fits.log);
            gathered = λ at_root q low_q out. elim (cases_eq u q) [
              | inl same ↦ ap (λ b. if b then Some w.log else log_in v.gathered q) (eq-eqb u q same)
                  ∙ ap Some (sym his.log ∙ ap (λ t. own_of t r.run) same
                  ∙ sym (own_same 0 q x r.run refl (λ e. omega (arith, e, low_q))))
              | inr apart ↦ ap (λ b. if b then Some w.log else log_in v.gathered q) (ne_eqb u q apart)
                  ∙ fits.gathered root q low_q (sym (read_there h.gathered u q true false (λ e. apart (sym e))) ∙ out)
                  ∙ ap Some (sym (own_same 0 q x r.run refl (λ e. omega (arith, e, low_q))))
            ];
            lives = λ at_root. ap (λ (log : List LogItem). (u, log) ∷ v.gathered) (sym his.log)
                ∙ ap (λ (lives : List (ℕ × List LogItem)). (u, own_of u r.run) ∷ lives) (fits.lives root);
          }

      thread_joined : (s : Table) (r : Rule s) (id other j : ℕ) (z v w : View) → v.thread ≡ 0
          → Fits (world n limit r.run) r.run r.seat id v → Fits (world n limit r.run) r.run r.seat other w → j ≢ id
          → j ≢ other
          → Fits (world n limit r.run) r.run r.seat j z → Fits (gathered_in (world n limit r.run) w.thread)
          ((0, Stepped (Gather w.thread) 0 moves.Nothing) ∷ r.run) r.seat j z
      thread_joined s r id other j z v w root fits his not_mine not_his thread =
          let not_root : 0 ≢ z.thread = λ e. not_mine (sym thread.here ∙ ap r.seat (sym e ∙ sym root) ∙ fits.here) in
          record {
            here = thread.here;
            there = same_stood (world n limit r.run) w.thread z.thread
                (λ e. not_his (sym thread.here ∙ ap r.seat e ∙ his.here)) ∙ thread.there;
            log = own_same 0 z.thread (Stepped (Gather w.thread) 0 moves.Nothing) r.run refl not_root ∙ thread.log;
            gathered = λ zero_is. absurd (not_root (sym zero_is));
            lives = λ zero_is. absurd (not_root (sym zero_is));
          }

      gathered_now : (h : Heap) (u : ℕ) → 0 < u → u < length h.gathered → stands (gathered_in h u) u ≡ true → ⊥
      gathered_now h u some_thread low stood =
          true≢false (sym (read_here h.gathered u true false low)
          ∙ stands_ungathered (gathered_in h u) u stood some_thread)

      seated_joined : (s : Table) (r : Rule s) (id other : ℕ) (v w : View) (t : ℕ) → get_elem? s.views id ≡ some v
          → get_elem? s.views other ≡ some w → v.active ≡ true → v.thread ≡ 0 → 0 < w.thread
          → w.thread < length (world n limit r.run).rows → IsSound (world n limit r.run)
          → Fits (world n limit r.run) r.run r.seat other w
          → stands (gathered_in (world n limit r.run) w.thread) t ≡ true
          → Seated (set (set s.views id (gathering v w)) other spent) t (r.seat t)
      seated_joined s r id other v w t at at_other active root some_thread low sound his stood =
          let h : Heap = world n limit r.run in
          let apart : t ≢ w.thread = λ e. gathered_now h w.thread some_thread
          (omega (arith, low, sound.shaped.gathered)) (subst (λ q. stands (gathered_in h w.thread) q ≡ true) e stood) in
          let before : Seated s.views t (r.seat t) = r.each_thread t (sym (same_stood h w.thread t apart) ∙ stood) in
          let not_other : r.seat t ≢ other =
          λ e. apart (sym before.thread
          ∙ ap (λ (y : View). y.thread) (some-injective before.view w (sym before.there ∙ ap (get_elem? s.views) e
          ∙ at_other))) in
          elim (cases_eq (r.seat t) id) [
            | inl same ↦ record {
              view = gathering v w;
              there = set_else (set s.views id (gathering v w)) other (r.seat t) spent not_other
                  ∙ ap (get_elem? (set s.views id (gathering v w))) same
                  ∙ set_here s.views id (gathering v w) (at_inside s.views id v at);
              active = active;
              thread = ap (λ (y : View). y.thread)
                  (some-injective v before.view (sym at ∙ sym (ap (get_elem? s.views) same) ∙ before.there))
                  ∙ before.thread;
            }
            | inr not_root ↦ record {
              view = before.view;
              there = set_else (set s.views id (gathering v w)) other (r.seat t) spent not_other
                  ∙ set_else s.views id (r.seat t) (gathering v w) not_root ∙ before.there;
              active = before.active;
              thread = before.thread;
            }
          ]
