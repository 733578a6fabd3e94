-- The threads of the world, and which of them are gathered, are what the root's own items say.
use Rattle.std.proofs.Common.{◌≡◌, ℕ, ◌+◌, ◌<◌, ◌==◌, nat_lt, Bool, true, false, if◌then◌else◌, List, [], ◌∷◌, ◌++◌}
use Rattle.std.proofs.Common.{length, get_or, set, zero, suc, Option, Some, None, refl, sym, ◌∙◌, ap, subst, inl, inr}
use Rattle.std.proofs.Common.{arith}
use Rattle.std.proofs.lemmas.Bool.{cases_Bool, eq-eqb, ne_eqb, le-ltb, lt-ltb, ltb-true, and_parts, true≢false}
use Rattle.law.specs.declared.world.edition.Edition.TheVariants as editions
use Rattle.law.specs.declared.world.event.Step.{Step}
use Rattle.law.specs.declared.world.event.Step.TheVariants.{Register, Gather}
use Rattle.law.specs.known.Start.{runs_in, start_of}
use Rattle.law.specs.declared.world.edition.Edition.{Edition}
use Rattle.law.specs.world.Heap.{Heap, new_row, is_gathered, is_registered, AreOptions}
use Rattle.law.specs.world.Steps.{enabled, after, after_target, root_after, root_may, thread_may, target_at}
use Rattle.law.specs.world.Steps.{first_gathered, number_ok}
use Rattle.brc_words.specs.declared.limits.TheConstants.{MOST_REGISTRATIONS}
use Rattle.std.specs.Cmp.Derive.{both_true}
use Rattle.law.proofs.world.Changes.{read_there}
use Rattle.law.proofs.world.Registering.{push_else}
use Rattle.law.specs.world.Runs.{world_after, IsReached}
use Rattle.law.specs.world.Sound.{IsSound}
use Rattle.law.specs.known.Items.{Item, Stepped, Loaded, Lost, ItemRun, with_event, events_of, world_of_items, MayCome}
use Rattle.law.specs.known.Items.{AreItems, is_start, is_used, begins_with, own}
use Rattle.law.specs.known.Root.{rows_of, gathered_of, marks_of, registrations_of, next_number}
use Rattle.law.proofs.world.Asking.{May, may_parts}
use Rattle.law.proofs.world.Reached.{reached_sound}
use Rattle.law.proofs.world.Reusing.{fresh, reused, registers}
use Rattle.law.proofs.known.Starting.{run_reached, run_sound}
use Rattle.law.proofs.known.Items_Runs.{events_run}
use Rattle.law.proofs.known.Items_Tells.{with_item, not_mine, mine_too, no_start}

-- what the root's items say of a world
abbrev RootSays : Heap → List Item → Type 0
RootSays h log = (h.gathered ≡ marks_of log) × (h.registrations ≡ registrations_of log) × (is_gathered h 0 ≡ false)

-- a thread's step neither registers nor gathers
threads_keep : (h : Heap) (t : ℕ) (s : Step) (o : Option ℕ) (log : List Item) → RootSays h log
    → RootSays (after_target h t s o) log
threads_keep h t s None log says = says
threads_keep h t s (Some c) log says = says

-- a number is new, or was used
marked_new : (marks : List Bool) (v : ℕ) → v ≡ length marks
    → (if nat_lt v (length marks) then set marks v false else marks ++ false ∷ []) ≡ marks ++ false ∷ []
marked_new marks v last = ap (λ b. if b then set marks v false else marks ++ false ∷ [])
    (le-ltb v (length marks) (omega (arith, last)))

marked_again : (marks : List Bool) (v : ℕ) → v < length marks
    → (if nat_lt v (length marks) then set marks v false else marks ++ false ∷ []) ≡ set marks v false
marked_again marks v low = ap (λ b. if b then set marks v false else marks ++ false ∷ []) (lt-ltb v (length marks) low)

root_goes : (h : Heap) (s : Step) (number : ℕ) (entries : List ℕ) (log : List Item) → IsSound h
    → root_may h s ≡ true → RootSays h log
    → RootSays (root_after h s) (Stepped s number entries ∷ log)
root_goes h (Register v) number entries log sound may says = elim (registers h v sound may) [
  | fresh new most few is ↦ subst (λ w. RootSays w (Stepped (Register v) number entries ∷ log)) (sym is) (
    ap (λ marks. marks ++ false ∷ []) says.0
        ∙ sym (marked_new (marks_of log) v (new ∙ sym sound.shaped.gathered ∙ ap length says.0)),
    ap (λ n. n + 1) says.1,
    push_else h.gathered false false 0 (λ e. omega (arith, e, sound.shaped.gathered, sound.shaped.root)) ∙ says.2,
  )
  | reused vacated few is ↦ subst (λ w. RootSays w (Stepped (Register v) number entries ∷ log)) (sym is) (
    ap (λ marks. set marks v false) says.0
        ∙ sym (marked_again (marks_of log) v
        (omega (arith, vacated.inside, sound.shaped.gathered, ap length says.0))),
    ap (λ n. n + 1) says.1,
    read_there h.gathered v 0 false false (λ e. omega (arith, e, vacated.thread)) ∙ says.2,
  )
]
root_goes h (Gather v) number entries log sound may says =
    let there : is_registered h v ≡ true =
    (and_parts _ _ (and_parts _ _ (and_parts _ _ (and_parts _ _ (and_parts _ _ may).0).0).0).0).0 in
    let positive : 0 < v = ltb-true 0 v (and_parts (nat_lt 0 v) (nat_lt v (length h.rows)) there).0 in (
      ap (λ marks. set marks v true) says.0,
      says.1,
      read_there h.gathered v 0 true false (λ e. omega (arith, e, positive)) ∙ says.2,
    )
root_goes h _ number entries log sound may says = absurd (true≢false (sym may))

-- nobody registers number 0, so the root's items never begin anew
never_again : (h : Heap) (s : Step) (number : ℕ) (entries : List ℕ) → IsSound h → root_may h s ≡ true
    → is_start 0 (Stepped s number entries) ≡ false
never_again h (Register v) number entries sound may = ne_eqb v 0 (λ e. elim (registers h v sound may) [
  | fresh new most few is ↦ omega (arith, e, new, sound.shaped.root)
  | reused vacated few is ↦ omega (arith, e, vacated.thread)
])
never_again h _ number entries sound may = refl

pub never_root : (h : Heap) (u : ℕ) (s : Step) (number : ℕ) (entries : List ℕ) → IsReached h
    → enabled h (record { thread = u; step = s }) ≡ true → is_start 0 (Stepped s number entries) ≡ false
never_root h u s number entries reached ok = elim (cases_Bool (u == 0)) [
  | inl root ↦ never_again h s number entries (reached_sound h reached)
      (subst (λ b. (if b then root_may h s else thread_may h u s) ≡ true) root ok)
  | inr thread ↦ (no_start h u s 0 number entries
      (may_parts h u s (subst (λ b. (if b then root_may h s else thread_may h u s) ≡ true) thread ok))).0
]

did_says : (h : Heap) (u : ℕ) (s : Step) (number : ℕ) (entries : List ℕ) (log : List Item) → IsReached h
    → enabled h (record { thread = u; step = s }) ≡ true → RootSays h log
    → RootSays (after h (record { thread = u; step = s })) (with_item false 0 u (Stepped s number entries) log)
did_says h u s number entries log reached ok says =
    let item : Item = Stepped s number entries in
    let moved : Heap = after_target h u s (target_at h u s) in
    let sound : IsSound h = reached_sound h reached in
    elim (cases_Bool (u == 0)) [
      | inl root ↦
          let may : root_may h s ≡ true = subst (λ b. (if b then root_may h s else thread_may h u s) ≡ true) root ok in
          subst (λ b. RootSays (if b then root_after h s else moved) (with_item false 0 u item log)) (sym root)
          (subst (RootSays (root_after h s))
          (sym (mine_too false 0 u item log (never_again h s number entries sound may) root))
          (root_goes h s number entries log sound may says))
      | inr thread ↦
          let may : May h u s = may_parts h u s
          (subst (λ b. (if b then root_may h s else thread_may h u s) ≡ true) thread ok) in
          subst (λ b. RootSays (if b then root_after h s else moved) (with_item false 0 u item log)) (sym thread)
          (subst (RootSays moved) (sym (not_mine false 0 u item log (no_start h u s 0 number entries may).0 thread))
          (threads_keep h u s (target_at h u s) log says))
    ]

-- a note of the root's is one of its items, and says nothing of threads
noted_says : (h : Heap) (u : ℕ) (item : Item) (log : List Item) → is_start 0 item ≡ false → RootSays h (item ∷ log)
    → RootSays h log → RootSays h (with_item false 0 u item log)
noted_says h u item log older own_says says = elim (cases_Bool (u == 0)) [
  | inl root ↦ subst (RootSays h) (sym (mine_too false 0 u item log older root)) own_says
  | inr thread ↦ subst (RootSays h) (sym (not_mine false 0 u item log older thread)) says
]

item_says : (cells limit u : ℕ) (item : Item) (items : ItemRun) → AreOptions cells limit
    → AreItems (start_of cells limit) items → MayCome (world_of_items (start_of cells limit) items) u item
    → RootSays (world_of_items (start_of cells limit) items) (own 0 items)
    → RootSays (world_after (start_of cells limit) (with_event u item (events_of items)))
    (with_item false 0 u item (own 0 items))
item_says cells limit u (Stepped s number entries) items options are comes says =
    did_says (world_of_items (start_of cells limit) items) u s number entries (own 0 items)
    (run_reached cells limit (events_of items) options (events_run (start_of cells limit) items are))
    comes.0 says
item_says cells limit u (Loaded word number) items options are comes says =
    noted_says (world_of_items (start_of cells limit) items) u (Loaded word number) (own 0 items) refl says says
item_says cells limit u (Lost word number) items options are comes says =
    noted_says (world_of_items (start_of cells limit) items) u (Lost word number) (own 0 items) refl says says

-- nobody registers number 0, so nothing is asked of what was used
no_root_start : (cells limit : ℕ) (x : ℕ × Item) (items : ItemRun) → AreOptions cells limit
    → AreItems (start_of cells limit) items → MayCome (world_of_items (start_of cells limit) items) x.0 x.1
    → own 0 (x ∷ items) ≡ with_item false 0 x.0 x.1 (own 0 items)
no_root_start cells limit x items options are comes = by_item x.1 refl comes
  where
    by_item : (item : Item) → x.1 ≡ item → MayCome (world_of_items (start_of cells limit) items) x.0 item
        → own 0 (x ∷ items) ≡ with_item false 0 x.0 x.1 (own 0 items)
    by_item (Stepped s number entries) is comes =
        let h : Heap = world_of_items (start_of cells limit) items in
        let older : is_start 0 x.1 ≡ false = ap (is_start 0) is
        ∙ never_root h x.0 s number entries
        (run_reached cells limit (events_of items) options (events_run (start_of cells limit) items are)) comes.0 in
        ap (λ b. if b then begins_with (is_used 0 items) x.1 else (if x.0 == 0 then x.1 ∷ own 0 items else own 0 items))
        older
        ∙ sym (ap (λ b. if b then begins_with false x.1 else (if x.0 == 0 then x.1 ∷ own 0 items else own 0 items))
        older)
    by_item (Loaded word number) is comes = ap (λ z. if is_start 0 z then begins_with (is_used 0 items) z else (if x.0 ==
        0 then z ∷ own 0 items else own 0 items)) is
        ∙ sym (ap (λ z. if is_start 0 z then begins_with false z else (if x.0 == 0 then z ∷ own 0 items else own 0
        items)) is)
    by_item (Lost word number) is comes = ap (λ z. if is_start 0 z then begins_with (is_used 0 items) z else (if x.0 ==
        0 then z ∷ own 0 items else own 0 items)) is
        ∙ sym (ap (λ z. if is_start 0 z then begins_with false z else (if x.0 == 0 then z ∷ own 0 items else own 0
        items)) is)

root_is_told : (cells limit : ℕ) (items : ItemRun) → AreOptions cells limit → AreItems (start_of cells limit) items
    → RootSays (world_of_items (start_of cells limit) items) (own 0 items)
root_is_told cells limit [] options are = (refl, refl, refl)
root_is_told cells limit (x ∷ items) options are =
    subst (RootSays (world_of_items (start_of cells limit) (x ∷ items)))
    (sym (no_root_start cells limit x items options are.0 are.1))
    (item_says cells limit x.0 x.1 items options are.0 are.1 (root_is_told cells limit items options are.0))

-- the marks of the world are those that the root's items say
pub marks_are_told : (cells limit : ℕ) (items : ItemRun) → AreOptions cells limit
    → AreItems (start_of cells limit) items
    → (world_of_items (start_of cells limit) items).gathered ≡ marks_of (own 0 items)
marks_are_told cells limit items options are = (root_is_told cells limit items options are).0

-- and so many registrations there were
pub registrations_are_told : (cells limit : ℕ) (items : ItemRun) → AreOptions cells limit
    → AreItems (start_of cells limit) items
    → (world_of_items (start_of cells limit) items).registrations ≡ registrations_of (own 0 items)
registrations_are_told cells limit items options are = (root_is_told cells limit items options are).1

-- so the world has as many rows as the root's items say
pub rows_are_told : (cells limit : ℕ) (items : ItemRun) → AreOptions cells limit
    → AreItems (start_of cells limit) items
    → length (world_of_items (start_of cells limit) items).rows ≡ rows_of (own 0 items)
rows_are_told cells limit items options are =
    sym (run_sound cells limit (events_of items) options (events_run (start_of cells limit) items are)).shaped.gathered
    ∙ ap length (marks_are_told cells limit items options are)

-- and those threads are gathered of which they say so
pub gathered_are_told : (cells limit : ℕ) (items : ItemRun) (u : ℕ) → AreOptions cells limit
    → AreItems (start_of cells limit) items
    → is_gathered (world_of_items (start_of cells limit) items) u ≡ gathered_of (own 0 items) u
gathered_are_told cells limit items u options are =
    ap (λ (marks : List Bool). get_or marks u false) (marks_are_told cells limit items options are)

-- the root is number 0, so the next is another
first_positive : (marks : List Bool) → get_or marks 0 false ≡ false → 0 < length marks → 0 < first_gathered marks
first_positive [] is some = absurd (omega (arith, some))
first_positive (true ∷ marks) is some = absurd (true≢false is)
first_positive (false ∷ marks) is some = omega arith

-- the number that the root's items say may be registered, where so many were
pub next_number_ok : (cells limit : ℕ) (items : ItemRun) (log : List Item) → AreOptions cells limit
    → AreItems (start_of cells limit) items → own 0 items ≡ log → registrations_of log < MOST_REGISTRATIONS
    → number_ok runs_in (world_of_items (start_of cells limit) items) (next_number runs_in log) ≡ true
next_number_ok cells limit items log options are is more = by_edition runs_in
  where
    h : Heap
    h = world_of_items (start_of cells limit) items

    marks : h.gathered ≡ marks_of log
    marks = marks_are_told cells limit items options are ∙ ap marks_of is

    count : h.registrations ≡ registrations_of log
    count = registrations_are_told cells limit items options are ∙ ap registrations_of is

    sound : IsSound h
    sound = run_sound cells limit (events_of items) options (events_run (start_of cells limit) items are)

    root_off : is_gathered h 0 ≡ false
    root_off = (root_is_told cells limit items options are).2

    by_edition : (e : Edition) → number_ok e h (next_number e log) ≡ true
    by_edition editions.One = eq-eqb (next_number editions.One log) (length h.rows)
        (sym (sym sound.shaped.gathered ∙ ap length marks))
    by_edition editions.Two =
        let same : first_gathered (marks_of log) ≡ first_gathered h.gathered = ap first_gathered (sym marks) in
        both_true (both_true (ap (nat_lt 0) same ∙ lt-ltb 0 (first_gathered h.gathered)
        (first_positive h.gathered root_off (omega (arith, sound.shaped.gathered, sound.shaped.root))))
        (eq-eqb (first_gathered (marks_of log)) (first_gathered h.gathered) same))
        (lt-ltb h.registrations MOST_REGISTRATIONS (omega (arith, count, more)))
