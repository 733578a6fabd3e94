-- What was put home last is what the cell has, kind and entries, but while it is on a worklist: a dead block loses its
-- entries one by one.
use Rattle.std.proofs.Common.{◌≡◌, ◌≢◌, ℕ, zero, suc, ◌<◌, ◌==◌, Bool, true, false, not, if◌then◌else◌, pos, ◌-ℤ◌, List}
use Rattle.std.proofs.Common.{[], ◌∷◌, length, set, replicate, Option, Some, None, refl, sym, ◌∙◌, ap, subst, inl, inr}
use Rattle.std.proofs.Common.{arith}
use Rattle.std.proofs.lemmas.List.{get_or-set_same, get_or_past}
use Rattle.std.proofs.lemmas.Bool.{cases_eq, cases_lt, cases_Bool, eq-eqb, ne_eqb, le-ltb, true≢false, and_parts}
use Rattle.std.specs.Cmp.Derive.{both_true}
use Rattle.brc_words.specs.declared.limits.TheConstants.{FIRST_MORTAL, GLOBALS}
use Rattle.law.specs.declared.world.cell.Cell.{Cell}
use Rattle.law.specs.declared.world.event.Event.{Event}
use Rattle.law.specs.declared.world.event.Step.{Step}
use Rattle.law.specs.declared.world.event.Step.TheVariants.{Birth, Free, Register, Gather}
use Rattle.law.specs.world.Lists.{is_marked}
use Rattle.law.specs.known.Start.{start_of}
use Rattle.law.specs.world.Heap.{Heap, cell_at, entries_at, row_at, worklist_at, no_cell, is_immortal}
use Rattle.law.specs.world.Heap.{AreOptions}
use Rattle.law.specs.world.Holding.{lives, lives_at, lives_by, lives_since, is_birth}
use Rattle.law.specs.world.Runs.{IsRun, world_after}
use Rattle.law.specs.world.Sound.{IsSound}
use Rattle.law.specs.world.Steps.{enabled, after, after_target, root_after, root_may, thread_may, target_at, target_ok}
use Rattle.law.specs.world.Steps.{cell_after, stepped, is_free_step, takes_block, worklist_with}
use Rattle.law.proofs.world.Asking.{may_parts, on_cell}
use Rattle.law.proofs.world.Changes.{read_here, read_there, read_by}
use Rattle.law.proofs.world.Reached.{reached_sound}
use Rattle.law.proofs.world.Beginning.{free_cell, immortal_cell, no_entries}
use Rattle.law.proofs.world.Registering.{read_push}
use Rattle.law.proofs.world.Reusing.{fresh, reused, registers}
use Rattle.law.proofs.moves.Moving.{kind_kept}
use Rattle.law.proofs.lasting.Reasons.{event_cell, event_entries}
use Rattle.law.proofs.known.Starting.{run_reached, run_histories}
use Rattle.law.specs.known.Items.{MayCome, events_of}
use Rattle.law.proofs.known.Items_Runs.{events_run}
use Rattle.brc_words.specs.declared.kind.Kind.TheVariants as kinds
use Rattle.law.specs.declared.rule.contents.Contents.TheVariants.{Nothing, Truth, Int, Dict}
use Rattle.law.specs.declared.rule.told.Moved.{Moved}
use Rattle.law.specs.declared.rule.told.Moved.TheVariants as moves
use Rattle.law.specs.declared.rule.told.LogItem.{LogItem}
use Rattle.law.specs.declared.rule.told.LogItem.TheVariants.{Stepped, Loaded, Lost}
use Rattle.law.specs.rule.Homes.{AtRest, ContentsFit}
use Rattle.law.specs.rule.Logs.{kind_in, entries_in, item_of, Run, items_of, world, contents_at, puts, MovesWith}
use Rattle.law.specs.rule.Logs.{IsMoved, IsLegal}
use Rattle.law.proofs.rule.Stepping.{thread_after}

-- ---- a step that puts nothing home there

-- a thread puts a block home, not the root
putting_thread : (h : Heap) (t : ℕ) (s : Step) (c : ℕ) → enabled h (record { thread = t; step = s }) ≡ true
    → puts h t s ≡ Some c → 0 < t
putting_thread h t s c ok is = elim (cases_Bool (t == 0)) [
  | inr thread ↦ some_thread t thread
  | inl root ↦ by_step s is (subst (λ b. (if b then root_may h s else thread_may h t s) ≡ true) root ok)
]
  where
    some_thread : (t : ℕ) → (t == 0) ≡ false → 0 < t
    some_thread zero apart = absurd (true≢false apart)
    some_thread (suc k) apart = omega arith

    by_step : (z : Step) → puts h t z ≡ Some c → root_may h z ≡ true → 0 < t
    by_step (Register u) is ok = absurd (cc)
    by_step (Gather u) is ok = absurd (cc)
    by_step _ is ok = absurd (true≢false (sym ok))

-- a cell that isn't born there lived before
lives_back : (h : Heap) (t : ℕ) (s : Step) (c : ℕ) (before : Bool) → (puts h t s ≡ Some c → ⊥)
    → lives_since s c before ≡ true → before ≡ true
lives_back h t (Birth d kind k) c before other is = elim (cases_eq d c) [
  | inl same ↦ absurd (other (ap Some same))
  | inr apart ↦ sym (ap (λ b. if b then true else before) (ne_eqb d c apart)) ∙ is
]
lives_back h t (Free d) c before other is = elim (cases_eq d c) [
  | inl same ↦ absurd (true≢false (sym is ∙ ap (λ b. if b then false else before) (eq-eqb d c same)))
  | inr apart ↦ sym (ap (λ b. if b then false else before) (ne_eqb d c apart)) ∙ is
]
lives_back h t _ c before other is = is

mark_inside : (marks : List Bool) (c : ℕ) → is_marked marks c ≡ true → c < length marks
mark_inside marks c on = elim (cases_lt c (length marks)) [
  | inl low ↦ low
  | inr past ↦ absurd (true≢false (sym on ∙ get_or_past marks c false past))
]

-- what is on a worklist stays there, but for the block that is given back
mark_stays : (frees takes : Bool) (d c : ℕ) (marks : List Bool) → is_marked marks c ≡ true → (frees ≡ true → c ≢ d)
    → is_marked (worklist_with frees takes d marks) c ≡ true
mark_stays true takes d c marks on other = read_there marks d c false false (other refl) ∙ on
mark_stays false false d c marks on other = on
mark_stays false true d c marks on other = elim (cases_eq c d) [
  | inr apart ↦ read_there marks d c true false apart ∙ on
  | inl same ↦ ap (is_marked (set marks d true)) same
      ∙ get_or-set_same marks d true false (subst (λ i. i < length marks) same (mark_inside marks c on))
]

marks_on_cell : (h : Heap) (t : ℕ) (s : Step) (d c u : ℕ) → (is_free_step s ≡ true → c ≢ d)
    → is_marked (worklist_at h u) c ≡ true → is_marked (worklist_at (stepped h t s d) u) c ≡ true
marks_on_cell h t s d c u other on = elim (cases_eq u t) [
  | inr apart ↦ ap (λ (w : List Bool). is_marked w c) (read_there h.worklists t u _ [] apart) ∙ on
  | inl same ↦ elim (cases_lt t (length h.worklists)) [
    | inr past ↦ absurd (true≢false (sym on ∙ ap (λ (w : List Bool). is_marked w c) (ap (worklist_at h) same
        ∙ get_or_past h.worklists t [] past)))
    | inl low ↦ ap (λ i. is_marked (worklist_at (stepped h t s d) i) c) same
        ∙ ap (λ (w : List Bool). is_marked w c) (read_here h.worklists t _ [] low)
        ∙ mark_stays (is_free_step s) (takes_block s (cell_at h d)) d c (worklist_at h t)
        (ap (λ i. is_marked (worklist_at h i) c) (sym same) ∙ on) other
  ]
]

-- the block that is given back is no live object's
freed_dead : (h : Heap) (t : ℕ) (s : Step) (d c : ℕ) → d < length h.cells
    → lives (cell_at (stepped h t s d) c).owner ≡ true → is_free_step s ≡ true → c ≢ d
freed_dead h t (Free x) d c low live frees same =
    true≢false (sym live ∙ ap (λ i. lives (cell_at (stepped h t (Free x) d) i).owner) same
    ∙ ap (λ (y : Cell). lives y.owner) (read_here h.cells d (cell_after t (Free x) d (cell_at h d)) no_cell low))
freed_dead h t _ d c low live frees same = absurd (true≢false (sym frees))

-- marks of the root's steps: whose number is registered had none
pub marks_of_root : (h : Heap) (s : Step) (c u : ℕ) → IsSound h → root_may h s ≡ true
    → is_marked (worklist_at (root_after h s) u) c ≡ false → is_marked (worklist_at h u) c ≡ false
marks_of_root h (Register v) c u sound ok off = elim (registers h v sound ok) [
  | fresh next most few is ↦ read_push (λ j (marks : List Bool). is_marked marks c ≡ false
      → is_marked (worklist_at h j) c ≡ false) h.worklists (replicate (length h.cells) false) []
      (λ none. ap (λ (w : List Bool). is_marked w c) (get_or_past h.worklists (length h.worklists) [] (omega arith)))
      (λ j other same. same) u
      (sym (ap (λ z. is_marked (worklist_at z u) c) is) ∙ off)
  | reused vacated few is ↦ read_by (λ j (marks : List Bool). is_marked marks c ≡ false
      → is_marked (worklist_at h j) c ≡ false) h.worklists v (replicate (length h.cells) false) []
      (omega (arith, vacated.inside, sound.shaped.worklists)) (λ none. vacated.work c) (λ j other same. same) u
      (sym (ap (λ z. is_marked (worklist_at z u) c) is) ∙ off)
]
marks_of_root h (Gather v) c u sound ok off = off
marks_of_root h _ c u sound ok off = absurd (true≢false (sym ok))

marks_back : (h : Heap) (t : ℕ) (s : Step) (o : Option ℕ) (c u : ℕ) → target_ok h t (row_at h t) s o ≡ true
    → lives (cell_at (after_target h t s o) c).owner ≡ true
    → is_marked (worklist_at (after_target h t s o) u) c ≡ false → is_marked (worklist_at h u) c ≡ false
marks_back h t s None c u ok live off = off
marks_back h t s (Some d) c u ok live off = elim (cases_Bool (is_marked (worklist_at h u) c)) [
  | inr clear ↦ clear
  | inl on ↦ absurd (true≢false
      (sym (marks_on_cell h t s d c u (freed_dead h t s d c (on_cell h t s d ok).inside live) on) ∙ off))
]

-- the world after, as thread or root made it
module _ (h : Heap) (t : ℕ) (s : Step) (c : ℕ) where
  abbrev walked : Heap
  walked = after_target h t s (target_at h t s)

  abbrev new : Heap
  new = after h (record { thread = t; step = s })

  event_marks : IsSound h → enabled h (record { thread = t; step = s }) ≡ true → lives (cell_at new c).owner ≡ true
      → (u : ℕ) → is_marked (worklist_at new u) c ≡ false → is_marked (worklist_at h u) c ≡ false
  event_marks sound ok live u off = elim (cases_Bool (t == 0)) [
    | inl root ↦
        let is : new ≡ root_after h s = ap (λ b. if b then root_after h s else walked) root in
        marks_of_root h s c u sound (subst (λ b. (if b then root_may h s else thread_may h t s) ≡ true) root ok)
        (sym (ap (λ z. is_marked (worklist_at z u) c) is) ∙ off)
    | inr thread ↦
        let is : new ≡ walked = ap (λ b. if b then root_after h s else walked) thread in
        marks_back h t s (target_at h t s) c u
        (may_parts h t s (subst (λ b. (if b then root_may h s else thread_may h t s) ≡ true) thread ok)).on_target
        (sym (ap (λ z. lives (cell_at z c).owner) is) ∙ live) (sym (ap (λ z. is_marked (worklist_at z u) c) is) ∙ off)
  ]

  -- what isn't put home keeps kind and entries
  same_kind : enabled h (record { thread = t; step = s }) ≡ true → (puts h t s ≡ Some c → ⊥)
      → (cell_at new c).kind ≡ (cell_at h c).kind
  same_kind ok other = elim (event_cell h (record { thread = t; step = s }) c ok) [
    | inl same ↦ ap (λ (x : Cell). x.kind) same
    | inr at ↦ ap (λ (x : Cell). x.kind) at.1 ∙ kind_kept t s c (cell_at h c) (no_birth s at.0.named other)
  ]
    where
      no_birth : (z : Step) → target_at h t z ≡ Some c → (puts h t z ≡ Some c → ⊥) → is_birth z ≡ false
      no_birth (Birth d kind k) named other = absurd (other named)
      no_birth _ named other = refl

  same_entries : enabled h (record { thread = t; step = s }) ≡ true → (puts h t s ≡ Some c → ⊥)
      → ((u : ℕ) → is_marked (worklist_at h u) c ≡ false) → entries_at new c ≡ entries_at h c
  same_entries ok other off = elim (event_entries h (record { thread = t; step = s }) c ok) [
    | inl same ↦ same
    | inr meddles ↦ absurd (elim meddles [
      | inl birth ↦ other (ap (puts h t) birth.2)
      | inr more ↦ elim more [
        | inl unlock ↦ other (ap (puts h t) unlock.1 ∙ ap (target_at h t) (sym unlock.1) ∙ unlock.2.named)
        | inr marked ↦ true≢false (sym marked ∙ off t)
      ]
    ])
  ]

-- ---- over runs

none_some : (c : ℕ) → None ≡ Some c → ⊥
none_some c bad = absurd (cc)

number_same : (d c : ℕ) → Some d ≡ Some c → d ≡ c
number_same d c is = cc

opening_fits : (n limit c : ℕ) → AreOptions n limit → lives (cell_at (start_of n limit) c).owner ≡ true
    → ContentsFit (start_of n limit) [] c
opening_fits n limit c options live = elim (cases_lt c FIRST_MORTAL) [
  | inr high ↦ absurd (true≢false (sym live ∙ ap (λ (x : Cell). lives x.owner) (free_cell n c high)))
  | inl low ↦ record {
    kind = kinds_open (c == 0) (c == 1) (c == 2) (c == GLOBALS)
        ∙ sym (ap (λ (x : Cell). x.kind) (immortal_cell n c (omega (arith, options.enough)) low));
    entries = none_open (c == 0) (c == 1) (c == 2) (c == GLOBALS) ∙ sym (no_entries n c []);
  }
]
  where
    kinds_open : (zero one two globals : Bool)
        → kind_in (if zero then Nothing
        else (if one then Truth false else (if two then Truth true else (if globals then Dict [] else Int
        (pos c -ℤ pos 8)))))
        ≡ (if zero then kinds.Nothing
        else (if one then kinds.False else (if two then kinds.True else (if globals then kinds.Dict else kinds.Int))))
    kinds_open true one two globals = refl
    kinds_open false true two globals = refl
    kinds_open false false true globals = refl
    kinds_open false false false true = refl
    kinds_open false false false false = refl

    none_open : (zero one two globals : Bool)
        → entries_in (if zero then Nothing
        else (if one then Truth false else (if two then Truth true else (if globals then Dict [] else Int
        (pos c -ℤ pos 8))))) ≡ []
    none_open true one two globals = refl
    none_open false true two globals = refl
    none_open false false true globals = refl
    none_open false false false true = refl
    none_open false false false false = refl

-- an object that isn't put home lived before
lived : (n limit : ℕ) (run : List Event) (t : ℕ) (s : Step) (c : ℕ) → AreOptions n limit → IsRun (start_of n limit) run
    → enabled (world_after (start_of n limit) run) (record { thread = t; step = s }) ≡ true
    → (puts (world_after (start_of n limit) run) t s ≡ Some c → ⊥)
    → lives (cell_at (after (world_after (start_of n limit) run) (record { thread = t; step = s })) c).owner ≡ true
    → lives (cell_at (world_after (start_of n limit) run) c).owner ≡ true
lived n limit run t s c options is_run ok other live = elim (cases_lt c FIRST_MORTAL) [
  | inl low ↦ ap lives ((reached_sound (world_after (start_of n limit) run)
      (run_reached n limit run options is_run)).immortals c low).owner
  | inr high ↦
      let h : Heap = world_after (start_of n limit) run in
      let e : Event = record { thread = t; step = s } in
      let mortal : is_immortal c ≡ false = le-ltb _ _ high in
      let now : lives_at (after h e) c ≡ true = both_true (ap not mortal) live in
      let told : lives_since s c (lives_by run c) ≡ true =
      sym ((run_histories n limit (e ∷ run) options (is_run, ok)).lives c) ∙ now in
      let before : lives_at h c ≡ true = (run_histories n limit run options is_run).lives c
      ∙ lives_back h t s c (lives_by run c) other told in
      (and_parts _ _ before).1
]

module _ (n limit : ℕ) where
  -- a step that puts another block home, or none
  unchanged : (run : Run) (t : ℕ) (s : Step) (number : ℕ) (moved : Moved) (c : ℕ) → AreOptions n limit
      → IsLegal n limit run → enabled (world n limit run) (record { thread = t; step = s }) ≡ true
      → (puts (world n limit run) t s ≡ Some c → ⊥)
      → contents_at ((t, Stepped s number moved) ∷ run) c ≡ contents_at run c
      → (AtRest (world n limit run) c → ContentsFit (world n limit run) run c)
      → AtRest (world n limit ((t, Stepped s number moved) ∷ run)) c
      → ContentsFit (world n limit ((t, Stepped s number moved) ∷ run)) ((t, Stepped s number moved) ∷ run) c
  unchanged run t s number moved c options legal ok other same before rest =
      let h : Heap = world n limit run in
      let sound : IsSound h = reached_sound h (run_reached n limit (events_of (items_of run)) options
      (events_run (start_of n limit) (items_of run) legal.items)) in
      let off : (u : ℕ) → is_marked (worklist_at h u) c ≡ false = λ u. event_marks h t s c sound ok rest.live u
      (rest.off u) in
      let fits : ContentsFit h run c = before (record {
        live = lived n limit (events_of (items_of run)) t s c options
            (events_run (start_of n limit) (items_of run) legal.items) ok other rest.live;
        off = off;
      }) in
      record {
        kind = ap kind_in same ∙ fits.kind ∙ sym (same_kind h t s c ok other);
        entries = ap entries_in same ∙ fits.entries ∙ sym (same_entries h t s c ok other off);
      }

  step_fits : (run : Run) (t : ℕ) (s : Step) (number : ℕ) (moved : Moved) (c : ℕ) → AreOptions n limit
      → IsLegal n limit run → enabled (world n limit run) (record { thread = t; step = s }) ≡ true
      → MovesWith (world n limit run) run t s moved
      → (AtRest (world n limit run) c → ContentsFit (world n limit run) run c)
      → AtRest (world n limit ((t, Stepped s number moved) ∷ run)) c
      → ContentsFit (world n limit ((t, Stepped s number moved) ∷ run)) ((t, Stepped s number moved) ∷ run) c
  step_fits run t s number moves.Nothing c options legal ok goes before rest =
      unchanged run t s number moves.Nothing c options legal ok (λ is. none_some c (sym goes.0 ∙ is)) refl before rest
  step_fits run t s number (moves.Found d contents) c options legal ok goes before rest =
      unchanged run t s number (moves.Found d contents) c options legal ok (λ is. none_some c (sym goes.puts_none ∙ is))
      refl before rest
  step_fits run t s number (moves.Put d contents) c options legal ok goes before rest = elim (cases_eq d c) [
    | inr other ↦ unchanged run t s number (moves.Put d contents) c options legal ok
        (λ is. other (number_same d c (sym goes.cell ∙ is)))
        (ap (λ b. if b then contents else contents_at run c) (ne_eqb d c other)) before rest
    | inl same ↦
        let h : Heap = world n limit run in
        let is : after h (record { thread = t; step = s }) ≡ after_target h t s (target_at h t s) =
        thread_after h t s (putting_thread h t s d ok goes.cell) in
        let put_here : contents_at ((t, Stepped s number (moves.Put d contents)) ∷ run) c ≡ contents =
        ap (λ b. if b then contents else contents_at run c) (eq-eqb d c same) in
        record {
          kind = ap kind_in put_here ∙ goes.kind ∙ ap (λ i. (cell_at (after_target h t s (target_at h t s)) i).kind)
              same ∙ sym (ap (λ z. (cell_at z c).kind) is);
          entries = ap entries_in put_here ∙ goes.entries ∙ ap (entries_at (after_target h t s (target_at h t s))) same
              ∙ sym (ap (λ z. entries_at z c) is);
        }
  ]

  item_fits : (run : Run) (t : ℕ) (x : LogItem) (c : ℕ) → AreOptions n limit → IsLegal n limit run
      → MayCome (world n limit run) t (item_of x) → IsMoved (world n limit run) run t x
      → (AtRest (world n limit run) c → ContentsFit (world n limit run) run c) → AtRest (world n limit ((t, x) ∷ run)) c
      → ContentsFit (world n limit ((t, x) ∷ run)) ((t, x) ∷ run) c
  item_fits run t (Stepped s number moved) c options legal comes goes before rest =
      step_fits run t s number moved c options legal comes.0 goes before rest
  item_fits run t (Loaded word number) c options legal comes goes before rest =
      noted (before (record { live = rest.live; off = rest.off }))
    where
      noted : ContentsFit (world n limit run) run c → ContentsFit (world n limit ((t, Loaded word number) ∷ run))
          ((t, Loaded word number) ∷ run) c
      noted fits = record { kind = fits.kind; entries = fits.entries }
  item_fits run t (Lost word number) c options legal comes goes before rest =
      noted (before (record { live = rest.live; off = rest.off }))
    where
      noted : ContentsFit (world n limit run) run c → ContentsFit (world n limit ((t, Lost word number) ∷ run))
          ((t, Lost word number) ∷ run) c
      noted fits = record { kind = fits.kind; entries = fits.entries }

  -- what was put home last in a live object's cell is what the world has there
  pub contents_fit : (run : Run) (c : ℕ) → AreOptions n limit → IsLegal n limit run → AtRest (world n limit run) c
      → ContentsFit (world n limit run) run c
  contents_fit [] c options legal rest = opening_fits n limit c options rest.live
  contents_fit (x ∷ run) c options legal rest =
      let older : IsLegal n limit run = record { items = legal.items.0; moved = legal.moved.0 } in
      item_fits run x.0 x.1 c options older legal.items.1 legal.moved.1 (contents_fit run c options older) rest
