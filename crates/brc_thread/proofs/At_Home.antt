-- With every thread gathered nobody has anything out: each live object's block is at home.
use Rattle.std.proofs.Common.{◌≡◌, ◌≢◌, ℕ, zero, suc, ◌<◌, ◌≤◌, ◌==◌, nat_lt, ◌&&◌, not, Bool, true, false}
use Rattle.std.proofs.Common.{if◌then◌else◌, List, [], ◌∷◌, length, get_or, sum_by, Option, Some, None, refl, sym, ◌∙◌}
use Rattle.std.proofs.Common.{ap, subst, inl, inr, arith, ◌+◌, map, ◌||◌}
use Rattle.std.proofs.lemmas.Bool.{cases_eq, cases_lt, cases_Bool, eq-eqb, lt-ltb, le-ltb, and_parts, true≢false}
use Rattle.std.proofs.lemmas.Bool.{or_cases, or_parts, ltb-true, ltb-false}
use Rattle.std.proofs.lemmas.List.{get_or_past}
use Rattle.std.proofs.lemmas.List.Sums.{sum_by-cons}
use Rattle.std.specs.Cmp.Derive.{both_true}
use mathlib.Core.Option.{some, some-injective}
use lib.ListN.{get_elem?}
use Rattle.brc_words.specs.declared.limits.TheConstants.{FIRST_MORTAL}
use Rattle.brc_words.specs.declared.owner.Owner.{Owner}
use Rattle.brc_words.specs.declared.owner.Owner.TheVariants as owners
use Rattle.brc_words.specs.declared.state.State.{State}
use Rattle.brc_count.specs.law.declared.world.event.Event.{Event}
use Rattle.brc_count.specs.law.declared.world.event.Step.{Step}
use Rattle.brc_count.specs.law.declared.world.event.Step.TheVariants.{Register, Gather}
use Rattle.brc_count.specs.law.declared.world.row.Row.{Row}
use Rattle.brc_count.specs.law.declared.world.row.Hand.{Hand}
use Rattle.brc_count.specs.law.declared.world.row.Hand.TheVariants as hands
use Rattle.brc_count.specs.law.world.Lists.{one, is_marked, place_at, bit_of}
use Rattle.brc_count.specs.law.world.Heap.{Heap, cell_at, row_at, worklist_at, frame_at, popped_at, queue_at}
use Rattle.brc_count.specs.law.world.Heap.{is_immortal, is_registered, no_row, new_row, again_row, AreOptions}
use Rattle.brc_count.specs.law.world.Steps.{is_active, after_target, root_after, root_may, thread_may, target_at}
use Rattle.brc_count.specs.law.world.Holding.{lives, lives_at}
use Rattle.brc_count.specs.law.world.Runs.{IsRun, IsReached, world_after}
use Rattle.brc_count.specs.law.world.Sound.{IsSound, grips, gripped, grips_by_owner}
use Rattle.brc_count.proofs.law.world.Asking.{may_parts}
use Rattle.brc_count.proofs.law.world.Changes.{read_there}
use Rattle.brc_count.proofs.law.world.Reached.{reached_sound}
use Rattle.brc_count.specs.law.known.Start.{start_of}
use Rattle.brc_count.proofs.law.known.Starting.{run_sound, run_reached}
use Rattle.brc_count.proofs.law.world.Registering.{push_else}
use Rattle.brc_count.proofs.law.world.Reusing.{fresh, reused, registers}
use Rattle.brc_count.proofs.law.lasting.Lasting.{others_own}
use Rattle.brc_count.proofs.law.lasting.Standing.{gathered_hold_nothing}
use Rattle.brc_count.specs.law.known.Items.{events_of}
use Rattle.brc_count.proofs.law.known.Items_Runs.{events_run}
use Rattle.brc_count.proofs.law.known.Items_Tells.{no_start}
use Rattle.brc_count.specs.block.declared.payload.Payload.{Payload}
use Rattle.brc_count.specs.law.declared.rule.contents.Contents.{Contents}
use Rattle.brc_count.specs.law.declared.rule.view.View.{View}
use Rattle.brc_count.specs.law.rule.Logs.{items_of, contents_at, world}
use Rattle.brc_count.specs.table.Rest.{from_block, Remains}
use Rattle.brc_thread.specs.Emptied.{AllGathered, is_used, used_from, blocks_in, SlotHas, AllAtHome}

-- ---- who has nothing

-- a number without a hand, a lock, a dead block or a filled place
pub record IsIdle (h : Heap) (t : ℕ) : Type 0 where
  pub hand : (row_at h t).hand ≡ hands.Free
  pub frame : (k : ℕ) → place_at (frame_at h t) k ≡ None
  pub unlocked : (row_at h t).locked ≡ None
  pub worklist : (q : ℕ) → is_marked (worklist_at h t) q ≡ false

-- so is the root at all times, which no step is made for
pub record RootRests (h : Heap) : Type 0 where
  pub row : row_at h 0 ≡ no_row
  pub worklist : worklist_at h 0 ≡ []

after_root : (h : Heap) (s : Step) → IsSound h → root_may h s ≡ true → RootRests h → RootRests (root_after h s)
after_root h (Register u) sound may rests = elim (registers h u sound may) [
  | fresh next most few is ↦ subst RootRests (sym is) (record {
    row = push_else h.rows new_row no_row 0 (λ e. omega (arith, e, sound.shaped.root)) ∙ rests.row;
    worklist = push_else h.worklists _ [] 0 (λ e. omega (arith, e, sound.shaped.worklists, sound.shaped.root))
        ∙ rests.worklist;
  })
  | reused vacated few is ↦ subst RootRests (sym is) (record {
    row = read_there h.rows u 0 again_row no_row (λ e. omega (arith, e, vacated.thread)) ∙ rests.row;
    worklist = read_there h.worklists u 0 _ [] (λ e. omega (arith, e, vacated.thread)) ∙ rests.worklist;
  })
]
after_root h (Gather u) sound may rests = record { row = rests.row; worklist = rests.worklist }
after_root h _ sound may rests = rests

pub root_rests : (n limit : ℕ) (run : List Event) → AreOptions n limit → IsRun (start_of n limit) run
    → RootRests (world_after (start_of n limit) run)
root_rests n limit [] options is_run = record { row = refl; worklist = refl }
root_rests n limit (e ∷ run) options is_run =
    let h : Heap = world_after (start_of n limit) run in
    let moved : Heap = after_target h e.thread e.step (target_at h e.thread e.step) in
    let sound : IsSound h = run_sound n limit run options is_run.0 in
    let before : RootRests h = root_rests n limit run options is_run.0 in
    elim (cases_Bool (e.thread == 0)) [
      | inl root ↦ subst (λ b. RootRests (if b then root_after h e.step else moved)) (sym root)
          (after_root h e.step sound
          (subst (λ b. (if b then root_may h e.step else thread_may h e.thread e.step) ≡ true) root is_run.1) before)
      | inr thread ↦
          let may = may_parts h e.thread e.step
          (subst (λ b. (if b then root_may h e.step else thread_may h e.thread e.step) ≡ true) thread is_run.1) in
          let same = others_own h e 0 sound is_run.1 (record {
            other = λ is_root. true≢false (sym (eq-eqb e.thread 0 is_root) ∙ thread);
            apart = (no_start h e.thread e.step 0 0 [] may).1;
          }) in
          record { row = same.row ∙ before.row; worklist = same.worklist ∙ before.worklist }
    ]

-- where all are gathered every number is idle
pub all_idle : (h : Heap) (t : ℕ) → IsReached h → RootRests h → AllGathered h → IsIdle h t
all_idle h t reached rests all = elim (cases_eq t 0) [
  | inl root ↦ subst (IsIdle h) (sym root) (record {
    frame = ((reached_sound h reached).threads 0).inactive_frame (ap (λ (row : Row). is_active row.stage) rests.row);
    hand = ap (λ (row : Row). row.hand) rests.row;
    unlocked = ap (λ (row : Row). row.locked) rests.row;
    worklist = λ q. ap (λ (marks : List Bool). is_marked marks q) rests.worklist;
  })
  | inr thread ↦ elim (cases_lt t (length h.rows)) [
    | inl inside ↦
        let there : is_registered h t ≡ true = both_true (lt-ltb 0 t (omega (arith, thread)))
        (lt-ltb t (length h.rows) inside) in
        let holds = gathered_hold_nothing h t reached (all t there) in
        record { hand = holds.hand; frame = holds.frame; unlocked = holds.unlocked; worklist = holds.worklist }
    | inr past ↦
        let sound : IsSound h = reached_sound h reached in
        let none : row_at h t ≡ no_row = get_or_past h.rows t no_row past in
        record {
          hand = ap (λ (row : Row). row.hand) none;
          frame = λ k. ap (λ (frame : List (Option ℕ)). place_at frame k)
              (get_or_past h.frames t [] (omega (arith, past, sound.shaped.frames)));
          unlocked = ap (λ (row : Row). row.locked) none;
          worklist = λ q. ap (λ (marks : List Bool). is_marked marks q)
              (get_or_past h.worklists t [] (omega (arith, past, sound.shaped.worklists)));
        }
  ]
]

-- No bit of a merge queue, and none that was popped, is a live object's: what a number has that isn't registered would
-- be of objects that it bore, and there are none.
pub record NoBits (h : Heap) (t q : ℕ) : Type 0 where
  pub queue : bit_of (queue_at h t) q ≡ 0
  pub popped : bit_of (popped_at h t) q ≡ 0

pub no_bits : (h : Heap) (t q : ℕ) → IsReached h → AllGathered h → FIRST_MORTAL ≤ q → lives (cell_at h q).owner ≡ true
    → NoBits h t q
no_bits h t q reached all mortal live = elim (cases_Bool (is_registered h t)) [
  | inl there ↦ let holds = gathered_hold_nothing h t reached (all t there) in
      record { queue = holds.queue q; popped = holds.popped q }
  | inr unknown ↦ elim (cases_lt 0 (bit_of (queue_at h t) q + bit_of (popped_at h t) q)) [
    | inr none ↦ record { queue = omega (arith, none); popped = omega (arith, none) }
    | inl bits ↦
        let sound : IsSound h = reached_sound h reached in
        let born = (sound.cells q mortal).born live in
        let bearer = (sound.bits t q bits).1 in
        let there : is_registered h t ≡ true = both_true (lt-ltb 0 t (omega (arith, born.0, bearer)))
        (lt-ltb t (length h.rows) (omega (arith, born.1, bearer))) in
        absurd (true≢false (sym there ∙ unknown))
  ]
]

-- ---- so nothing is gripped

pub none_in : {X : Type 0} (f : X → ℕ) (d : X) (xs : List X) → ((i : ℕ) → f (get_or xs i d) ≡ 0) → sum_by f xs ≡ 0
none_in f d [] none = refl
none_in f d (x ∷ xs) none = omega (arith, sum_by-cons f x xs, none 0, none_in f d xs (λ i. none (suc i)))

none_gripped : (h : Heap) (q : ℕ) → ((t : ℕ) → IsIdle h t) → gripped h q ≡ 0
none_gripped h q idle = omega (
  arith,
  none_in (λ (marks : List Bool). one (is_marked marks q)) [] h.worklists (λ t. ap one ((idle t).worklist q)),
  none_in (λ (row : Row). one (grips q row.hand)) no_row h.rows
      (λ t. ap (λ (hand : Hand). one (grips q hand)) (idle t).hand),
)

-- a cell that nobody grips and where nothing lives is free
is_free_cell : (o : Owner) (state : State) (local : ℕ) (count : Rattle.std.proofs.Common.ℤ)
    → grips_by_owner o state local count ≡ 0 → lives o ≡ false → o ≡ owners.Free
is_free_cell owners.Nobody state local count none dead = absurd (true≢false dead)
is_free_cell (owners.Thread t) state local count none dead = absurd (true≢false dead)
is_free_cell (owners.Claimed t) state local count none dead = absurd (omega (arith, none))
is_free_cell owners.Free state local count none dead = refl

free_there : (h : Heap) (c : ℕ) → IsSound h → ((t : ℕ) → IsIdle h t) → FIRST_MORTAL ≤ c
    → lives (cell_at h c).owner ≡ false → (cell_at h c).owner ≡ owners.Free
free_there h c sound idle mortal dead =
    is_free_cell (cell_at h c).owner (cell_at h c).state (cell_at h c).local (cell_at h c).count
    (sym (sound.gripped c mortal) ∙ none_gripped h c idle) dead

-- and nothing is locked
unlocked_there : (h : Heap) (c : ℕ) → IsSound h → ((t : ℕ) → IsIdle h t) → (cell_at h c).mutex ≡ 0
unlocked_there h c sound idle = elim (cases_eq (cell_at h c).mutex 0) [
  | inl none ↦ none
  | inr shut ↦
      let locks = sound.mutexes (cell_at h c).mutex c (omega (arith, shut)) refl in
      absurd (some_none (sym (idle (cell_at h c).mutex).unlocked ∙ locks.1.place))
]
  where
    some_none : {k : ℕ} → ◌≡◌ {A = Option ℕ} None (Some k) → ⊥
    some_none e = true≢false (ap (λ (o : Option ℕ). elim o [ None ↦ true | Some k ↦ false ]) e)

-- ---- the blocks

module _ {A : Type 0} where
  -- a block that lies at home is in its slot at the end
  in_slot : (n limit id : ℕ) (root : View) (slots : List (Option (ℕ × Payload A)))
      (remains : Remains n limit id root slots) (c : ℕ) → c < n
      → IsSound (world n limit remains.kept.run) → ((t : ℕ) → IsIdle (world n limit remains.kept.run) t)
      → lives (cell_at (world n limit remains.kept.run) c).owner ≡ true
      → SlotHas slots c (contents_at remains.kept.run c)
  in_slot n limit id root slots remains c low sound idle live =
      let h : Heap = world n limit remains.kept.run in
      let lies = (remains.kept.each_home c low).lies live (unlocked_there h c sound idle) (λ t. (idle t).worklist c) in
      record {
        payload = lies.block.1;
        there = remains.each_home c (Some lies.block) lies.there
            ∙ ap (λ (d : ℕ). some (Some (d, lies.block.1))) lies.of_cell;
        holds = lies.holds;
      }

  -- slots by cell, each as its cell is
  record AreThere (h : Heap) (slots : List (Option (ℕ × Payload A))) (c more : ℕ) : Type 0 where
    pub long : length slots ≡ more
    pub used : (i d : ℕ) → d ≡ c + i → i < more → is_used h d ≡ true
        → (payload : Payload A) × (get_elem? slots i ≡ some (Some (d, payload)))
    pub unused : (i d : ℕ) → d ≡ c + i → i < more → is_used h d ≡ false → get_elem? slots i ≡ some None

  listed : (h : Heap) (slots : List (Option (ℕ × Payload A))) (c more : ℕ) → AreThere h slots c more
      → map (λ (block : ℕ × Payload A). block.0) (blocks_in slots) ≡ used_from h c more
  listed h [] c zero there = refl
  listed h [] c (suc more) there = absurd (omega (arith, there.long))
  listed h (x ∷ slots) c zero there = absurd (omega (arith, there.long))
  listed h (x ∷ slots) c (suc more) there =
      let later : map (λ (block : ℕ × Payload A). block.0) (blocks_in slots) ≡ used_from h (suc c) more =
      listed h slots (suc c) more (record {
        long = omega (arith, there.long);
        used = λ i d is low. there.used (suc i) d (omega (arith, is)) (omega (arith, low));
        unused = λ i d is low. there.unused (suc i) d (omega (arith, is)) (omega (arith, low));
      }) in
      elim (cases_Bool (is_used h c)) [
        | inl used ↦
            let first = there.used 0 c (omega arith) (omega arith) used in
            ap (λ (y : Option (ℕ × Payload A)). map (λ (block : ℕ × Payload A). block.0) (blocks_in (y ∷ slots)))
            (some-injective _ _ first.1)
            ∙ ap (λ cells. c ∷ cells) later
            ∙ sym (ap (λ b. if b then c ∷ used_from h (suc c) more else used_from h (suc c) more) used)
        | inr unused ↦
            ap (λ (y : Option (ℕ × Payload A)). map (λ (block : ℕ × Payload A). block.0) (blocks_in (y ∷ slots)))
            (some-injective _ _ (there.unused 0 c (omega arith) (omega arith) unused))
            ∙ later ∙ sym (ap (λ b. if b then c ∷ used_from h (suc c) more else used_from h (suc c) more) unused)
      ]

  pub all_at_home : (n limit id : ℕ) (root : View) (slots : List (Option (ℕ × Payload A)))
      (remains : Remains n limit id root slots)
      → AllGathered (world n limit remains.kept.run)
      → AllAtHome n (world n limit remains.kept.run) remains.kept.run slots
  all_at_home n limit id root slots remains all =
      let run = remains.kept.run in
      let h : Heap = world n limit run in
      let options = remains.kept.options in
      let is_run = events_run (start_of n limit) (items_of run) remains.kept.legal.items in
      let reached : IsReached h = run_reached n limit (events_of (items_of run)) options is_run in
      let sound : IsSound h = reached_sound h reached in
      let idle : (t : ℕ) → IsIdle h t = λ t. all_idle h t reached
      (root_rests n limit (events_of (items_of run)) options is_run) all in
      let free : (c : ℕ) → FIRST_MORTAL ≤ c → c < n → lives_at h c ≡ false → get_elem? slots c ≡ some None =
      λ c mortal low dead. remains.each_home c None
      ((remains.kept.each_home c low).bare (free_there h c sound idle mortal (dead_owner h c mortal dead))) in
      record {
        deep = sym remains.deep ∙ remains.kept.deep;
        immortals = λ c low. in_slot n limit id root slots remains c (omega (arith, low, options.enough)) sound idle
            (ap lives (sound.immortals c low).owner);
        live = λ c low live. in_slot n limit id root slots remains c low sound idle (and_parts _ _ live).1;
        free = free;
        cells = listed h slots 0 n (record {
          long = sym remains.deep ∙ remains.kept.deep;
          used = λ i d is low used. by_cell i d (omega (arith, is))
              (in_slot n limit id root slots remains d (omega (arith, is, low)) sound idle (used_lives h d sound used));
          unused = λ i d is low unused. subst (λ j. get_elem? slots j ≡ some None) (omega (arith, is))
              (free d (unused_mortal h d unused) (omega (arith, is, low)) (unused_dead h d unused));
        });
      }
    where
      dead_owner : (h : Heap) (c : ℕ) → FIRST_MORTAL ≤ c → lives_at h c ≡ false → lives (cell_at h c).owner ≡ false
      dead_owner h c mortal dead =
          sym (ap (λ b. not b && lives (cell_at h c).owner) (le-ltb c FIRST_MORTAL mortal)) ∙ dead

      by_cell : (i d : ℕ) {contents : Contents} → d ≡ i → SlotHas slots d contents
          → (payload : Payload A) × (get_elem? slots i ≡ some (Some (d, payload)))
      by_cell i d same has = (has.payload, subst (λ j. get_elem? slots j ≡ some (Some (d, has.payload))) same has.there)

      used_lives : (h : Heap) (c : ℕ) → IsSound h → is_used h c ≡ true → lives (cell_at h c).owner ≡ true
      used_lives h c sound used = elim (or_cases (is_immortal c) (lives_at h c) used) [
        | inl immortal ↦ ap lives (sound.immortals c (ltb-true c FIRST_MORTAL immortal)).owner
        | inr live ↦ (and_parts _ _ live).1
      ]

      unused_mortal : (h : Heap) (c : ℕ) → is_used h c ≡ false → FIRST_MORTAL ≤ c
      unused_mortal h c unused = ltb-false c FIRST_MORTAL (or_parts (is_immortal c) (lives_at h c) unused).0

      unused_dead : (h : Heap) (c : ℕ) → is_used h c ≡ false → lives_at h c ≡ false
      unused_dead h c unused = (or_parts (is_immortal c) (lives_at h c) unused).1

-- ---- what Rest gives, one after the other

module _ {A : Type 0} where
  pub gives_next : (slots others : List (Option (ℕ × Payload A))) (block : ℕ × Payload A)
      → from_block slots ≡ Some block ∷ others → blocks_in slots ≡ block ∷ blocks_in others
  gives_next [] others block is = absurd (omega (arith, ap length is))
  gives_next (None ∷ slots) others block is = gives_next slots others block is
  gives_next (Some first ∷ slots) others block is = ap blocks_in is

  pub gives_none : (slots : List (Option (ℕ × Payload A))) → from_block slots ≡ [] → blocks_in slots ≡ []
  gives_none [] is = refl
  gives_none (None ∷ slots) is = gives_none slots is
  gives_none (Some first ∷ slots) is = absurd (omega (arith, ap length is))

  -- with a block given fewer slots are left
  pub fewer_left : (slots others : List (Option (ℕ × Payload A))) (block : ℕ × Payload A)
      → from_block slots ≡ Some block ∷ others
      → length others < length slots
  fewer_left [] others block is = cc
  fewer_left (None ∷ slots) others block is = let less : length others < length slots =
      fewer_left slots others block is in omega arith
  fewer_left (Some first ∷ slots) others block is =
      let same : length slots ≡ length others = ap (λ (xs : List (Option (ℕ × Payload A))). length xs)
      (rest_same slots others first block is) in omega arith
    where
      rest_same : (slots others : List (Option (ℕ × Payload A))) (first block : ℕ × Payload A)
          → Some first ∷ slots ≡ Some block ∷ others → slots ≡ others
      rest_same slots others first block is = cc
