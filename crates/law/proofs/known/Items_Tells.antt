-- One induction for all that is read off a thread's own items: what is so as the thread is registered, stays so while
-- others step, and goes on with each own item, is so in the world of every list of items.
use Rattle.std.proofs.Common.{◌≡◌, ◌≢◌, ℕ, ◌<◌, ◌==◌, nat_lt, ◌&&◌, ◌||◌, Bool, true, false, if◌then◌else◌, List, []}
use Rattle.std.proofs.Common.{◌∷◌, length, refl, sym, ◌∙◌, ap, subst, inl, inr, ◌⊎◌, arith}
use Rattle.std.proofs.lemmas.Bool.{cases_eq, cases_lt, cases_Bool, eq-eqb, ne_eqb, eqb-true, ltb-true, lt-ltb, le-ltb}
use Rattle.std.proofs.lemmas.Bool.{and_parts, true≢false}
use Rattle.law.specs.declared.world.event.Event.{Event}
use Rattle.law.specs.declared.world.event.Step.{Step}
use Rattle.law.specs.declared.world.event.Step.TheVariants.{Register, Gather}
use Rattle.law.specs.known.Start.{start_of}
use Rattle.law.specs.world.Heap.{Heap, new_row, again_row, is_registered, AreOptions}
use Rattle.law.specs.world.Sound.{IsSound}
use Rattle.law.specs.world.Steps.{enabled, after, after_target, root_after, root_may, thread_may, target_at, registered}
use Rattle.law.specs.world.Steps.{gathered_in, registered_again}
use Rattle.law.specs.world.Runs.{world_after, IsReached}
use Rattle.law.specs.lasting.Staying.{is_about, IsAnothers}
use Rattle.law.specs.known.Items.{Word, Item, Stepped, Loaded, Lost, ItemRun, with_event, events_of, world_of_items}
use Rattle.law.specs.known.Items.{MayCome}
use Rattle.law.specs.known.Items.{AreItems, is_start, is_used, begins_with, own, IsNumberFound, WordShows, found}
use Rattle.std.specs.Cmp.Derive.{both_true}
use Rattle.std.proofs.lemmas.List.{length-set}
use Rattle.law.proofs.world.Asking.{May, may_parts}
use Rattle.law.proofs.world.Reached.{reached_sound}
use Rattle.law.proofs.world.Registering.{length-push}
use Rattle.law.proofs.world.Reusing.{Vacated, registers, fresh, reused}
use Rattle.law.proofs.known.Starting.{run_reached}
use Rattle.law.proofs.lasting.Lasting.{other_number}
use Rattle.law.proofs.lasting.Ranges_Law.{same_rows}
use Rattle.law.proofs.known.Items_Told.{QueuesFit}
use Rattle.law.proofs.known.Items_Queues.{run_queues, run_cells}
use Rattle.law.proofs.known.Items_Runs.{events_run}

-- what is said of a thread's world and its items, newest first
pub record Follows (t cells : ℕ) (P : Heap → List Item → Type 0) : Type 0 where
  pub starts : (h : Heap) → IsReached h → length h.cells ≡ cells → t ≡ length h.rows → P (registered h) []
  pub again : (h : Heap) (number : ℕ) (entries : List ℕ) → IsReached h → length h.cells ≡ cells → Vacated h t
      → P (registered_again h t) (Stepped (Register t) number entries ∷ [])
  pub others : (h : Heap) (e : Event) (log : List Item) → IsReached h → enabled h e ≡ true → IsAnothers t e → P h log
      → P (after h e) log
  pub owns : (h : Heap) (s : Step) (number : ℕ) (entries : List ℕ) (log : List Item) → IsReached h
      → length h.cells ≡ cells → QueuesFit h → May h t s
      → IsNumberFound h t s number → entries ≡ found h t s → P h log
      → P (after_target h t s (target_at h t s)) (Stepped s number entries ∷ log)
  pub gathers : (h : Heap) (u : ℕ) (log : List Item) → P h log → P (gathered_in h u) log
  pub saw : (h : Heap) (word : Word) (number : ℕ) (log : List Item) → IsReached h → WordShows h word number → P h log
      → P h (Loaded word number ∷ log)
  pub lost : (h : Heap) (word : Word) (number : ℕ) (log : List Item) → IsReached h → WordShows h word number → P h log
      → P h (Lost word number ∷ log)

-- the thread's items after one more of some thread's; its number may have been used before
abbrev pub with_item : Bool → ℕ → ℕ → Item → List Item → List Item
with_item used t u item log =
    if is_start t item then begins_with used item else (if u == t then item ∷ log else log)

pub not_mine : (used : Bool) (t u : ℕ) (item : Item) (log : List Item) → is_start t item ≡ false → (u == t) ≡ false
    → with_item used t u item log ≡ log
not_mine used t u item log older apart =
    ap (λ b. if b then begins_with used item else (if u == t then item ∷ log else log)) older
    ∙ ap (λ b. if b then item ∷ log else log) apart

pub mine_too : (used : Bool) (t u : ℕ) (item : Item) (log : List Item) → is_start t item ≡ false → (u == t) ≡ true
    → with_item used t u item log ≡ item ∷ log
mine_too used t u item log older same =
    ap (λ b. if b then begins_with used item else (if u == t then item ∷ log else log)) older
    ∙ ap (λ b. if b then item ∷ log else log) same

-- a thread neither registers nor gathers
pub no_start : (h : Heap) (u : ℕ) (s : Step) (t number : ℕ) (entries : List ℕ) → May h u s
    → (is_start t (Stepped s number entries) ≡ false) × (is_about t s ≡ false)
no_start h u (Register v) t number entries may = absurd (true≢false (sym may.hand))
no_start h u (Gather v) t number entries may = absurd (true≢false (sym may.hand))
no_start h u _ t number entries may = (refl, refl)

-- ---- a number that was used is one that is registered

and_no : (b : Bool) → (b && false) ≡ false
and_no true = refl
and_no false = refl

registered_more : (h : Heap) (v t : ℕ) → v ≡ length h.rows → 0 < t
    → ((v == t) || is_registered h t) ≡ is_registered (registered h) t
registered_more h v t last some = elim (cases_eq v t) [
  | inl same ↦ ap (λ b. b || is_registered h t) (eq-eqb v t same)
      ∙ sym (both_true (lt-ltb 0 t some) (lt-ltb _ _ (omega (arith, same, last, length-push h.rows new_row))))
  | inr other ↦ ap (λ b. b || is_registered h t) (ne_eqb v t other)
      ∙ ap (λ b. nat_lt 0 t && b) (elim (cases_lt t (length h.rows)) [
        | inl small ↦ lt-ltb _ _ small ∙ sym (lt-ltb _ _ (omega (arith, small, length-push h.rows new_row)))
        | inr large ↦ le-ltb _ _ large
            ∙ sym (le-ltb _ _ (omega (arith, large, other, last, length-push h.rows new_row)))
      ])
]

not_registered : (h : Heap) (t : ℕ) → t ≡ length h.rows → is_registered h t ≡ false
not_registered h t last = ap (λ b. nat_lt 0 t && b) (le-ltb t (length h.rows) (omega (arith, last)))
    ∙ and_no (nat_lt 0 t)

registered_same : (h : Heap) (v t : ℕ) → Vacated h v → 0 < t
    → ((v == t) || is_registered h t) ≡ is_registered (registered_again h v) t
registered_same h v t vacated some = elim (cases_eq v t) [
  | inl same ↦ ap (λ b. b || is_registered h t) (eq-eqb v t same)
      ∙ sym (both_true (lt-ltb 0 t some)
      (lt-ltb _ _ (omega (arith, same, vacated.inside, length-set h.rows v again_row))))
  | inr other ↦ ap (λ b. b || is_registered h t) (ne_eqb v t other)
      ∙ ap (λ n. nat_lt 0 t && nat_lt t n) (sym (length-set h.rows v again_row))
]

root_used : (h : Heap) (s : Step) (t number : ℕ) (entries : List ℕ) → IsSound h → 0 < t → root_may h s ≡ true
    → (is_start t (Stepped s number entries) || is_registered h t) ≡ is_registered (root_after h s) t
root_used h (Register v) t number entries sound some may = elim (registers h v sound may) [
  | fresh last most few new ↦ registered_more h v t last some ∙ ap (λ w. is_registered w t) (sym new)
  | reused vacated few again ↦ registered_same h v t vacated some ∙ ap (λ w. is_registered w t) (sym again)
]
root_used h (Gather v) t number entries sound some may = refl
root_used h _ t number entries sound some may = absurd (true≢false (sym may))

item_used : (h : Heap) (u : ℕ) (item : Item) (t : ℕ) (run : List Event) → IsReached h → 0 < t → MayCome h u item
    → (start : Heap) → world_after start run ≡ h
    → (is_start t item || is_registered h t) ≡ is_registered (world_after start (with_event u item run)) t
item_used h u (Stepped s number entries) t run reached some comes start leads =
    let moved : Heap = after_target h u s (target_at h u s) in
    subst (λ w. (is_start t (Stepped s number entries) || is_registered h t)
    ≡ is_registered (after w (record { thread = u; step = s })) t) (sym leads)
    (elim (cases_Bool (u == 0)) [
      | inl root ↦
          let may : root_may h s ≡ true =
          subst (λ b. (if b then root_may h s else thread_may h u s) ≡ true) root comes.0 in
          root_used h s t number entries (reached_sound h reached) some may
          ∙ ap (λ b. is_registered (if b then root_after h s else moved) t) (sym root)
      | inr thread ↦
          let may : May h u s = may_parts h u s
          (subst (λ b. (if b then root_may h s else thread_may h u s) ≡ true) thread comes.0) in
          ap (λ b. b || is_registered h t) (no_start h u s t number entries may).0
          ∙ ap (λ n. nat_lt 0 t && nat_lt t n) (sym (same_rows h u s (target_at h u s)))
          ∙ ap (λ b. is_registered (if b then root_after h s else moved) t) (sym thread)
    ])
item_used h u (Loaded word number) t run reached some comes start leads = ap (λ w. is_registered w t) (sym leads)
item_used h u (Lost word number) t run reached some comes start leads = ap (λ w. is_registered w t) (sym leads)

pub used_is : (cells limit : ℕ) (items : ItemRun) (t : ℕ) → AreOptions cells limit
    → AreItems (start_of cells limit) items → 0 < t
    → is_used t items ≡ is_registered (world_of_items (start_of cells limit) items) t
used_is cells limit [] t options are some =
    sym (ap (λ b. nat_lt 0 t && b) (le-ltb t 1 some) ∙ and_no (nat_lt 0 t))
used_is cells limit (x ∷ items) t options are some =
    ap (λ b. is_start t x.1 || b) (used_is cells limit items t options are.0 some)
    ∙ item_used (world_of_items (start_of cells limit) items) x.0 x.1 t (events_of items)
    (run_reached cells limit (events_of items) options (events_run (start_of cells limit) items are.0)) some are.1
    (start_of cells limit) refl

module _ (t cells : ℕ) (P : Heap → List Item → Type 0) (follows : Follows t cells P) where
  -- what is said of a registered thread
  Holds : Heap → List Item → Type 0
  Holds h log = t < length h.rows → P h log

  thread_item : (h : Heap) (u : ℕ) (s : Step) (number : ℕ) (entries : List ℕ) (log : List Item) → IsReached h
      → length h.cells ≡ cells → QueuesFit h → MayCome h u (Stepped s number entries)
      → after h (record { thread = u; step = s }) ≡ after_target h u s (target_at h u s) → May h u s → Holds h log
      → (used : Bool) → Holds (after_target h u s (target_at h u s)) (with_item used t u (Stepped s number entries) log)
  unfolding Holds
  thread_item h u s number entries log reached size fit comes is may before used inside =
      let item : Item = Stepped s number entries in
      let w : Heap = after_target h u s (target_at h u s) in
      let was : P h log = before (omega (arith, inside, same_rows h u s (target_at h u s))) in
      let apart = no_start h u s t number entries may in
      elim (cases_eq u t) [
        | inl same ↦ subst (P w) (sym (mine_too used t u item log apart.0 (eq-eqb u t same)))
            (subst (λ v. P (after_target h v s (target_at h v s)) (item ∷ log)) (sym same)
            (follows.owns h s number entries log reached size fit (subst (λ v. May h v s) same may)
            (subst (λ v. IsNumberFound h v s number) same comes.1) (comes.2 ∙ ap (λ v. found h v s) same) was))
        | inr other ↦ subst (P w) (sym (not_mine used t u item log apart.0 (ne_eqb u t other)))
            (subst (λ v. P v log) is
            (follows.others h (record { thread = u; step = s }) log reached comes.0
            (record { other = other; apart = apart.1 }) was))
      ]

  root_item : (h : Heap) (u : ℕ) (s : Step) (number : ℕ) (entries : List ℕ) (log : List Item) → IsReached h
      → length h.cells ≡ cells → enabled h (record { thread = u; step = s }) ≡ true
      → after h (record { thread = u; step = s }) ≡ root_after h s → root_may h s ≡ true → u ≢ t → Holds h log
      → (used : Bool) → used ≡ is_registered h t
      → Holds (root_after h s) (with_item used t u (Stepped s number entries) log)
  unfolding Holds
  root_item h u (Register v) number entries log reached size ok is may other before used used_so inside =
      elim (registers h v (reached_sound h reached) may) [
        | reused vacated few again ↦ subst (λ w. P w (with_item used t u item log)) (sym again)
            (by_bearer vacated again (cases_Bool (v == t)))
        | fresh next most few new ↦ subst (λ w. P w (with_item used t u item log)) (sym new)
            (by_owner next new (cases_Bool (v == t)))
      ]
    where
      item : Item
      item = Stepped (Register v) number entries

      -- another number is registered
      stays : (w : Heap) → root_after h (Register v) ≡ w → (v == t) ≡ false → t < length h.rows
          → P w (with_item used t u item log)
      stays w new apart low =
          subst (P w) (sym (not_mine used t u item log apart (ne_eqb u t other)))
          (subst (λ z. P z log) (is ∙ new)
          (follows.others h (record { thread = u; step = Register v }) log reached ok
          (record { other = other; apart = apart }) (before low)))

      by_owner : v ≡ length h.rows → root_after h (Register v) ≡ registered h → ((v == t) ≡ true) ⊎ ((v == t) ≡ false)
          → P (registered h) (with_item used t u item log)
      by_owner next new (inl mine) =
          let last : t ≡ length h.rows = sym (eqb-true v t mine) ∙ next in
          let new_number : used ≡ false = used_so ∙ not_registered h t last in
          subst (λ b. P (registered h) (if b then begins_with used item else (if u == t then item ∷ log else log)))
          (sym mine)
          (subst (λ b. P (registered h) (begins_with b item)) (sym new_number) (follows.starts h reached size last))
      by_owner next new (inr apart) =
          let there : t < length (registered h).rows = subst (λ (w : Heap). t < length w.rows) new inside in
          stays (registered h) new apart
          (omega (arith, there, length-push h.rows new_row, next, other_number v t apart))

      by_bearer : Vacated h v → root_after h (Register v) ≡ registered_again h v
          → ((v == t) ≡ true) ⊎ ((v == t) ≡ false) → P (registered_again h v) (with_item used t u item log)
      by_bearer vacated again (inl mine) =
          let same : v ≡ t = eqb-true v t mine in
          let old_number : used ≡ true = used_so ∙ ap (is_registered h) (sym same)
          ∙ both_true (lt-ltb 0 v vacated.thread) (lt-ltb v (length h.rows) vacated.inside) in
          subst (λ b. P (registered_again h v)
          (if b then begins_with used item else (if u == t then item ∷ log else log))) (sym mine)
          (subst (λ b. P (registered_again h v) (begins_with b item)) (sym old_number)
          (subst (λ z. P (registered_again h z) (Stepped (Register z) number entries ∷ [])) (sym same)
          (follows.again h number entries reached size (subst (Vacated h) same vacated))))
      by_bearer vacated again (inr apart) =
          let there : t < length (registered_again h v).rows = subst (λ (w : Heap). t < length w.rows) again inside in
          stays (registered_again h v) again apart (omega (arith, there, length-set h.rows v again_row))
  root_item h u (Gather v) number entries log reached size ok is may other before used used_so inside =
      subst (P (gathered_in h v))
      (sym (not_mine used t u (Stepped (Gather v) number entries) log refl (ne_eqb u t other)))
      (follows.gathers h v log (before inside))
  root_item h u _ number entries log reached size ok is may other before used used_so inside =
      absurd (true≢false (sym may))

  did_item : (h : Heap) (u : ℕ) (s : Step) (number : ℕ) (entries : List ℕ) (log : List Item) → IsReached h
      → length h.cells ≡ cells → QueuesFit h → MayCome h u (Stepped s number entries) → 0 < t
      → Holds h log → (used : Bool) → used ≡ is_registered h t
      → Holds (after h (record { thread = u; step = s })) (with_item used t u (Stepped s number entries) log)
  did_item h u s number entries log reached size fit comes some_thread before used used_so =
      let moved : Heap = after_target h u s (target_at h u s) in
      elim (cases_Bool (u == 0)) [
        | inl root ↦
            let is : after h (record { thread = u; step = s }) ≡ root_after h s =
            ap (λ b. if b then root_after h s else moved) root in
            subst (λ w. Holds w (with_item used t u (Stepped s number entries) log)) (sym is)
            (root_item h u s number entries log reached size comes.0 is
            (subst (λ b. (if b then root_may h s else thread_may h u s) ≡ true) root comes.0)
            (λ same. omega (arith, some_thread, same, eqb-true u 0 root)) before used used_so)
        | inr thread ↦
            let is : after h (record { thread = u; step = s }) ≡ moved =
            ap (λ b. if b then root_after h s else moved) thread in
            subst (λ w. Holds w (with_item used t u (Stepped s number entries) log)) (sym is)
            (thread_item h u s number entries log reached size fit comes is
            (may_parts h u s (subst (λ b. (if b then root_may h s else thread_may h u s) ≡ true) thread
            comes.0)) before used)
      ]

  -- a note changes nothing
  noted : (h : Heap) (u : ℕ) (item : Item) (log : List Item) → is_start t item ≡ false → (P h log → P h (item ∷ log))
      → Holds h log → (used : Bool) → Holds h (with_item used t u item log)
  unfolding Holds
  noted h u item log older same before used inside = elim (cases_Bool (u == t)) [
    | inl mine ↦ subst (P h) (sym (mine_too used t u item log older mine)) (same (before inside))
    | inr apart ↦ subst (P h) (sym (not_mine used t u item log older apart)) (before inside)
  ]

  item_holds : (limit u : ℕ) (item : Item) (items : ItemRun) → AreOptions cells limit
      → AreItems (start_of cells limit) items
      → MayCome (world_of_items (start_of cells limit) items) u item → 0 < t
      → Holds (world_of_items (start_of cells limit) items) (own t items)
      → Holds (world_after (start_of cells limit) (with_event u item (events_of items)))
      (with_item (is_used t items) t u item (own t items))
  item_holds limit u (Stepped s number entries) items options are comes some_thread before =
      let run : List Event = events_of items in
      did_item (world_after (start_of cells limit) run) u s number entries (own t items)
      (run_reached cells limit run options (events_run (start_of cells limit) items are))
      (run_cells cells limit run) (run_queues cells limit run) comes some_thread before (is_used t items)
      (used_is cells limit items t options are some_thread)
  item_holds limit u (Loaded word number) items options are comes some_thread before = noted _ u (Loaded word number)
      (own t items) refl (follows.saw _ word number (own t items)
      (run_reached cells limit (events_of items) options (events_run (start_of cells limit) items are)) comes) before
      (is_used t items)
  item_holds limit u (Lost word number) items options are comes some_thread before = noted _ u (Lost word number)
      (own t items) refl (follows.lost _ word number (own t items)
      (run_reached cells limit (events_of items) options (events_run (start_of cells limit) items are)) comes) before
      (is_used t items)

  items_hold : (limit : ℕ) (items : ItemRun) → AreOptions cells limit → AreItems (start_of cells limit) items → 0 < t
      → Holds (world_of_items (start_of cells limit) items) (own t items)
  unfolding Holds
  items_hold limit [] options are some_thread inside = absurd (omega (arith, some_thread, inside))
  items_hold limit (x ∷ items) options are some_thread inside =
      item_holds limit x.0 x.1 items options are.0 are.1 some_thread
      (items_hold limit items options are.0 some_thread) inside

  -- it is so of a registered thread in the world of every list of items
  pub tells : (limit : ℕ) (items : ItemRun) → AreOptions cells limit → AreItems (start_of cells limit) items
      → is_registered (world_of_items (start_of cells limit) items) t ≡ true
      → P (world_of_items (start_of cells limit) items) (own t items)
  unfolding Holds
  tells limit items options are there =
      let parts = and_parts _ _ there in
      items_hold limit items options are (ltb-true _ _ parts.0) (ltb-true _ _ parts.1)
