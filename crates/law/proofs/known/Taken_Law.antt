-- The blocks that a thread has taken are what its own items say.
use Rattle.std.proofs.Common.{◌≡◌, ◌≢◌, ℕ, ◌<◌, ◌≤◌, ◌==◌, ◌&&◌, nat_lt, Bool, true, false, if◌then◌else◌, List, []}
use Rattle.std.proofs.Common.{◌∷◌, length, set, Option, Some, None, refl, sym, ◌∙◌, ap, subst, inl, inr, arith}
use Rattle.std.proofs.lemmas.List.{get_or_push}
use Rattle.std.proofs.lemmas.Bool.{cases_eq, cases_Bool, eq-eqb, ne_eqb, lt-ltb, true≢false}
use Rattle.law.specs.declared.world.event.Dropped.{Dropped}
use Rattle.law.specs.declared.world.event.Dropped.TheVariants as dropped
use Rattle.law.specs.declared.world.event.LastDropped.TheVariants as lasts
use Rattle.law.specs.declared.world.event.Event.{Event}
use Rattle.law.specs.declared.world.event.Step.{Step}
use Rattle.law.specs.declared.world.event.Step.TheVariants.{Birth, SeeZero, MergeZero, MergeAdd, LastDown, Enqueue}
use Rattle.law.specs.declared.world.event.Step.TheVariants.{Unlock, Lock}
use Rattle.law.specs.declared.world.cell.Cell.{Cell}
use Rattle.law.specs.declared.world.row.Phase.TheVariants as phases
use Rattle.law.specs.world.Lists.{is_marked, is_unmarked, front_of}
use Rattle.law.specs.known.Start.{start_of}
use Rattle.law.specs.world.Heap.{Heap, cell_at, entries_at, row_at, frame_at, worklist_at, is_registered}
use Rattle.law.specs.world.Heap.{AreOptions}
use Rattle.law.specs.world.Steps.{enabled, root_may, thread_may, after, after_target, stepped, target_at, target_ok}
use Rattle.law.specs.world.Steps.{gone, takes_block, is_free_step, worklist_with}
use Rattle.law.specs.world.Runs.{IsReached}
use Rattle.law.specs.world.Sound.{IsSound, WorklistFits, held}
use Rattle.law.specs.lasting.Staying.{IsAnothers, SameOwn}
use Rattle.law.specs.known.Items.{Item, Stepped, ItemRun, MayCome, AreItems, events_of, world_of_items, own, part_of}
use Rattle.law.specs.known.Items.{meant}
use Rattle.law.specs.known.Items.{IsPart, IsNumberFound, found_at, finds, told, told_at, told_of, cell_told}
use Rattle.law.specs.known.Items.{has_without}
use Rattle.law.specs.known.Items.{has_after}
use Rattle.law.specs.known.Taken.{Blocks, listed_at, cut, off, cut_by, taken_on, taken_by, taken_of}
use Rattle.law.proofs.world.Asking.{May, may_parts, on_cell}
use Rattle.law.proofs.world.Changes.{read_here, read_there}
use Rattle.law.proofs.world.Counting.{marked_unheld, held_unmarked}
use Rattle.law.proofs.world.Dropping.{dropped_held}
use Rattle.law.proofs.world.Naming.{one-true, no_mark, busy_hand}
use Rattle.law.proofs.world.Reached.{reached_sound}
use Rattle.law.proofs.world.Registering.{new_mark}
use Rattle.law.proofs.lasting.Lasting.{others_own, alone_stays, live_owner, locked_mutex, dead_unlocked}
use Rattle.law.proofs.lasting.Ranges_Law.{hand_unmarked}
use Rattle.law.proofs.lasting.Progress.{none_marked}
use Rattle.law.proofs.known.Starting.{run_reached}
use Rattle.law.proofs.lasting.Standing.{taken_unmarked}
use Rattle.law.proofs.known.Items_Told.{QueuesFit, Alike, alike}
use Rattle.law.proofs.known.Items_Own.{after_alike, put_else}
use Rattle.law.proofs.known.Items_Law.{part_target, part_follows, meant_is_told}
use Rattle.law.proofs.known.Items_Queues.{run_queues}
use Rattle.law.proofs.known.Items_Runs.{events_run}
use Rattle.law.proofs.known.Items_Tells.{Follows, tells}

-- ---- lists of blocks

listed_off : (blocks : Blocks) (c q : ℕ) → listed_at (off c blocks) q ≡ (if q == c then None else listed_at blocks q)
listed_off [] c q = by_test (q == c)
  where
    by_test : (b : Bool) → None ≡ (if b then None else listed_at [] q)
    by_test true = refl
    by_test false = refl
listed_off (b ∷ blocks) c q = elim (cases_eq b.0 c) [
  | inl here ↦ ap (λ t. listed_at (if t then off c blocks else b ∷ off c blocks) q) (eq-eqb b.0 c here)
      ∙ listed_off blocks c q ∙ elim (cases_eq q c) [
        | inl same ↦ ap (λ t. if t then None else listed_at blocks q) (eq-eqb q c same)
            ∙ sym (ap (λ t. if t then None else listed_at (b ∷ blocks) q) (eq-eqb q c same))
        | inr other ↦ ap (λ t. if t then None else listed_at blocks q) (ne_eqb q c other)
            ∙ sym (ap (λ t. if t then Some b.1 else listed_at blocks q) (ne_eqb b.0 q (λ e. other (sym e ∙ here))))
            ∙ sym (ap (λ t. if t then None else listed_at (b ∷ blocks) q) (ne_eqb q c other))
      ]
  | inr there ↦ ap (λ t. listed_at (if t then off c blocks else b ∷ off c blocks) q) (ne_eqb b.0 c there)
      ∙ elim (cases_eq q c) [
        | inl same ↦ ap (λ t. if t then Some b.1 else listed_at (off c blocks) q) (ne_eqb b.0 q (λ e. there (e ∙ same)))
            ∙ listed_off blocks c q
            ∙ ap (λ t. if t then None else listed_at blocks q) (eq-eqb q c same)
            ∙ sym (ap (λ t. if t then None else listed_at (b ∷ blocks) q) (eq-eqb q c same))
        | inr other ↦ ap (λ o. if b.0 == q then Some b.1 else o) (listed_off blocks c q
            ∙ ap (λ t. if t then None else listed_at blocks q) (ne_eqb q c other))
            ∙ sym (ap (λ t. if t then None else listed_at (b ∷ blocks) q) (ne_eqb q c other))
      ]
]

-- the entries of one listed block are cut, all others stay
abbrev cut_entry : Bool → Option (List ℕ) → Option (List ℕ)
cut_entry true None = None
cut_entry true (Some entries) = Some (front_of entries)
cut_entry false entries = entries

listed_cut : (blocks : Blocks) (d q : ℕ) → listed_at (cut d blocks) q ≡ cut_entry (q == d) (listed_at blocks q)
listed_cut [] d q = by_test (q == d)
  where
    by_test : (b : Bool) → None ≡ cut_entry b None
    by_test true = refl
    by_test false = refl
listed_cut (b ∷ blocks) d q = elim (cases_eq b.0 q) [
  | inl here ↦ ap (λ t. if t then Some (if b.0 == d then front_of b.1 else b.1) else listed_at (cut d blocks) q)
      (eq-eqb b.0 q here)
      ∙ ap (λ i. Some (if i == d then front_of b.1 else b.1)) here ∙ by_test (q == d)
      ∙ sym (ap (λ t. cut_entry (q == d) (if t then Some b.1 else listed_at blocks q)) (eq-eqb b.0 q here))
  | inr there ↦ ap (λ t. if t then Some (if b.0 == d then front_of b.1 else b.1) else listed_at (cut d blocks) q)
      (ne_eqb b.0 q there)
      ∙ listed_cut blocks d q ∙ sym (ap (λ t. cut_entry (q == d) (if t then Some b.1 else listed_at blocks q))
      (ne_eqb b.0 q there))
]
  where
    by_test : (t : Bool) → Some (if t then front_of b.1 else b.1) ≡ cut_entry t (Some b.1)
    by_test true = refl
    by_test false = refl

-- the list says which cells are marked, and their entries
abbrev pub SaysMarks : Blocks → (ℕ → Bool) → (ℕ → List ℕ) → Type 0
SaysMarks blocks marks entries = (q : ℕ) → listed_at blocks q ≡ (if marks q then Some (entries q) else None)

cut_says : (o : Option Dropped) (blocks : Blocks) (marks : ℕ → Bool) (entries : ℕ → List ℕ)
    → SaysMarks blocks marks entries → SaysMarks (cut_by o blocks) marks (has_without o entries)
cut_says None blocks marks entries says q = says q
cut_says (Some (dropped.Frame k)) blocks marks entries says q = says q
cut_says (Some (dropped.Work d)) blocks marks entries says q =
    listed_cut blocks d q ∙ ap (cut_entry (q == d)) (says q) ∙ elim (cases_eq q d) [
      | inl same ↦ ap (λ t. cut_entry t (if marks q then Some (entries q) else None)) (eq-eqb q d same)
          ∙ by_mark (marks q)
          ∙ ap (λ xs. if marks q then Some xs else None) (ap (λ i. front_of (entries i)) same
          ∙ sym (ap (λ t. if t then front_of (entries d) else entries q) (eq-eqb q d same)))
      | inr other ↦ ap (λ t. cut_entry t (if marks q then Some (entries q) else None)) (ne_eqb q d other)
          ∙ no_cut (if marks q then Some (entries q) else None)
          ∙ ap (λ xs. if marks q then Some xs else None)
          (sym (ap (λ t. if t then front_of (entries d) else entries q) (ne_eqb q d other)))
    ]
  where
    by_mark : (m : Bool) → cut_entry true (if m then Some (entries q) else None)
        ≡ (if m then Some (front_of (entries q)) else None)
    by_mark true = refl
    by_mark false = refl

    no_cut : (x : Option (List ℕ)) → cut_entry false x ≡ x
    no_cut x = refl

-- ---- an own step

-- what a step is told of its cell serves as the cell does
told_alike : (h : Heap) (t : ℕ) (s : Step) (c number : ℕ) → IsSound h → QueuesFit h → May h t s
    → target_at h t s ≡ Some c → IsNumberFound h t s number
    → (gone s (cell_told s number) ≡ gone s (cell_at h c))
    × (takes_block s (cell_told s number) ≡ takes_block s (cell_at h c))
told_alike h t (Enqueue d) c number sound fit may named is = (refl, refl)
told_alike h t s c number sound fit may named is =
    let same : Alike h s c (told_of h t s c) = alike h t s c sound fit may named in
    let e : told_of h t s c ≡ number = sym (is ∙ ap (told_at h t s) named) in (
      subst (λ n. gone s (cell_told s n) ≡ gone s (cell_at h c)) e same.gone_is,
      subst (λ n. takes_block s (cell_told s n) ≡ takes_block s (cell_at h c)) e same.takes,
    )

-- the entries of a block on the worklist stay, but for the last one that goes
marked_entries : (h : Heap) (t : ℕ) (s : Step) (c q : ℕ) → IsReached h → May h t s → target_at h t s ≡ Some c
    → is_marked (worklist_at h t) q ≡ true
    → entries_at (stepped h t s c) q ≡ has_without (gone s (cell_at h c)) (entries_at h) q
marked_entries h t s c q reached may named on =
    after_alike s c (cell_at h c) (cell_at h c) (frame_at h t) h.entries (entries_at h) q refl inside refl
    ∙ by_step s may named
  where
    inside : c < length h.entries
    inside = omega (
      arith,
      (on_cell h t s c
          (subst (λ o. target_ok h t (row_at h t) s o ≡ true) named may.on_target)).inside,
      (reached_sound h reached).shaped.entries,
    )

    by_step : (z : Step) → May h t z → target_at h t z ≡ Some c → has_after z c (cell_at h c) (frame_at h t)
        (entries_at h) q ≡ has_without (gone z (cell_at h c)) (entries_at h) q
    by_step (Birth d kind k) may named =
        let apart : is_marked (worklist_at h t) d ≡ false = hand_unmarked h t t d phases.Ready reached
        (busy_hand phases.Ready d _ may.hand) in
        put_else d q [] (entries_at h) (λ same. true≢false (sym on ∙ ap (is_marked (worklist_at h t)) same ∙ apart))
    by_step (Unlock change) may named =
        let lock = locked_mutex h t c (reached_sound h reached) named in
        put_else c q _ (entries_at h)
        (λ same. omega (
          arith,
          lock.0,
          lock.1,
          dead_unlocked h t c reached
              (ap (is_marked (worklist_at h t)) (sym same) ∙ on),
        ))
    by_step _ may named = refl

-- the block that a step takes has its entries still
taken_entries : (h : Heap) (t : ℕ) (s : Step) (c : ℕ) → IsReached h → May h t s → target_at h t s ≡ Some c
    → takes_block s (cell_at h c) ≡ true → entries_at (stepped h t s c) c ≡ entries_at h c
taken_entries h t (SeeZero d) c reached may named takes = refl
taken_entries h t (MergeZero d) c reached may named takes = refl
taken_entries h t (MergeAdd d) c reached may named takes = refl
taken_entries h t (LastDown (lasts.Popped d)) c reached may named takes = refl
taken_entries h t (LastDown lasts.Hand) c reached may named takes = refl
taken_entries h t (LastDown (lasts.Dropped (dropped.Frame k))) c reached may named takes = refl
taken_entries h t (LastDown (lasts.Dropped (dropped.Work d))) c reached may named takes = elim (cases_eq c d) [
  | inr other ↦ read_there h.entries d c _ [] other
  | inl same ↦
      let some : 1 ≤ held h c = dropped_held h t c (dropped.Work d) named in
      absurd (no_mark _ (held_unmarked h t c (reached_sound h reached) some) (ap (is_marked (worklist_at h t)) same
      ∙ source_marked (is_marked (worklist_at h t) d) _ named))
]
  where
    source_marked : (b : Bool) (o : Option ℕ) → (if b then o else None) ≡ Some c → b ≡ true
    source_marked true o is = refl
    source_marked false o is = let bad : None ≡ Some c = is in absurd (cc)
taken_entries h t _ c reached may named takes = absurd (true≢false (sym takes))

mark_set : (marks : List Bool) (c q : ℕ) (v : Bool) → c < length marks
    → is_marked (set marks c v) q ≡ (if q == c then v else is_marked marks q)
mark_set marks c q v inside = elim (cases_eq q c) [
  | inl same ↦ ap (is_marked (set marks c v)) same ∙ read_here marks c v false inside
      ∙ sym (ap (λ t. if t then v else is_marked marks q) (eq-eqb q c same))
  | inr other ↦ read_there marks c q v false other
      ∙ sym (ap (λ t. if t then v else is_marked marks q) (ne_eqb q c other))
]

-- the list after a step, by what the step does to the worklist
on_marks : (frees takes : Bool) (c : ℕ) (entries : List ℕ) (blocks : Blocks) (marks : List Bool) (has : ℕ → List ℕ)
    → c < length marks
    → SaysMarks blocks (is_marked marks) has → (frees ≡ false → takes ≡ true → entries ≡ has c)
    → SaysMarks (taken_on frees takes c entries blocks) (is_marked (worklist_with frees takes c marks)) has
on_marks true takes c entries blocks marks has inside says are q =
    listed_off blocks c q ∙ ap (λ o. if q == c then None else o) (says q) ∙ by_test (q == c)
    ∙ sym (ap (λ m. if m then Some (has q) else None) (mark_set marks c q false inside))
  where
    by_test : (t : Bool) → (if t then None else (if is_marked marks q then Some (has q) else None))
        ≡ (if (if t then false else is_marked marks q) then Some (has q) else None)
    by_test true = refl
    by_test false = refl
on_marks false true c entries blocks marks has inside says are q = elim (cases_eq c q) [
  | inl here ↦ ap (λ t. if t then Some entries else listed_at blocks q) (eq-eqb c q here)
      ∙ ap Some (are refl refl ∙ ap has here)
      ∙ sym (ap (λ m. if m then Some (has q) else None) (mark_set marks c q true inside
      ∙ ap (λ t. if t then true else is_marked marks q) (eq-eqb q c (sym here))))
  | inr there ↦ ap (λ t. if t then Some entries else listed_at blocks q) (ne_eqb c q there) ∙ says q
      ∙ sym (ap (λ m. if m then Some (has q) else None) (mark_set marks c q true inside
      ∙ ap (λ t. if t then true else is_marked marks q) (ne_eqb q c (λ e. there (sym e)))))
]
on_marks false false c entries blocks marks has inside says are q = says q

-- a step that takes a block finds its entries
found_entries : (s : Step) (x : Cell) (entries old : List ℕ) → is_free_step s ≡ false → takes_block s x ≡ true
    → entries ≡ (if finds s x then old else []) → entries ≡ old
found_entries (Lock k) x entries old frees takes are = absurd (true≢false (sym takes))
found_entries s x entries old frees takes are = are ∙ ap (λ b. if b then old else []) takes

own_taken : (h : Heap) (t : ℕ) (s : Step) (c number : ℕ) (entries : List ℕ) (blocks : Blocks) → IsReached h
    → QueuesFit h → May h t s → target_at h t s ≡ Some c → IsNumberFound h t s number
    → entries ≡ (if finds s (cell_at h c) then entries_at h c else []) → SaysMarks blocks (is_marked (worklist_at h t))
    (entries_at h)
    → SaysMarks (taken_by s number entries (Some c) blocks) (is_marked (worklist_at (stepped h t s c) t))
    (entries_at (stepped h t s c))
own_taken h t s c number entries blocks reached fit may named told are says q =
    let x : Cell = cell_at h c in
    let sound : IsSound h = reached_sound h reached in
    let same = told_alike h t s c number sound fit may named told in
    let inside : c < length (worklist_at h t) = omega (
      arith,
      sound.shaped.marks t may.some_thread may.inside,
      (on_cell h t s c (subst (λ o. target_ok h t (row_at h t) s o ≡ true) named may.on_target)).inside,
    ) in
    ap (λ o. listed_at (taken_on (is_free_step s) (takes_block s (cell_told s number)) c entries
    (cut_by o blocks)) q) same.0
    ∙ ap (λ b. listed_at (taken_on (is_free_step s) b c entries (cut_by (gone s x) blocks)) q) same.1
    ∙ on_marks (is_free_step s) (takes_block s x) c entries (cut_by (gone s x) blocks) (worklist_at h t)
    (entries_at (stepped h t s c)) inside now
    (λ frees takes. found_entries s x entries (entries_at h c) frees takes are
    ∙ sym (taken_entries h t s c reached may named takes)) q
    ∙ sym (ap (λ (marks : List Bool). if is_marked marks q then Some (entries_at (stepped h t s c) q) else None)
    (read_here h.worklists t _ [] (omega (arith, sound.shaped.worklists, may.inside))))
  where
    -- what goes from a marked block goes from its entries
    now : SaysMarks (cut_by (gone s (cell_at h c)) blocks) (is_marked (worklist_at h t)) (entries_at (stepped h t s c))
    now d = cut_says (gone s (cell_at h c)) blocks (is_marked (worklist_at h t)) (entries_at h) says d
        ∙ elim (cases_Bool (is_marked (worklist_at h t) d)) [
          | inr off ↦ ap (λ m. if m then Some (has_without (gone s (cell_at h c)) (entries_at h) d) else None) off
              ∙ sym (ap (λ m. if m then Some (entries_at (stepped h t s c) d) else None) off)
          | inl on ↦ ap (λ xs. if is_marked (worklist_at h t) d then Some xs else None)
              (sym (marked_entries h t s c d reached may named on))
        ]

target_taken : (h : Heap) (t : ℕ) (s : Step) (o : Option ℕ) (number : ℕ) (entries : List ℕ) (blocks : Blocks)
    → IsReached h → QueuesFit h → May h t s → target_at h t s ≡ o → IsNumberFound h t s number
    → entries ≡ found_at h s o → SaysMarks blocks (is_marked (worklist_at h t)) (entries_at h)
    → SaysMarks (taken_by s number entries o blocks) (is_marked (worklist_at (after_target h t s o) t))
    (entries_at (after_target h t s o))
target_taken h t s None number entries blocks reached fit may named told are says q = says q
target_taken h t s (Some c) number entries blocks reached fit may named told are says q =
    own_taken h t s c number entries blocks reached fit may named told are says q

-- ---- the law

others_taken : (h : Heap) (e : Event) (t : ℕ) (blocks : Blocks) → IsReached h → enabled h e ≡ true → IsAnothers t e
    → SaysMarks blocks (is_marked (worklist_at h t)) (entries_at h)
    → SaysMarks blocks (is_marked (worklist_at (after h e) t)) (entries_at (after h e))
others_taken h e t blocks reached ok others says q =
    let sound : IsSound h = reached_sound h reached in
    let own : SameOwn t h (after h e) = others_own h e t sound ok others in
    says q ∙ elim (cases_Bool (is_marked (worklist_at h t) q)) [
      | inr off ↦ ap (λ m. if m then Some (entries_at h q) else None) off
          ∙ sym (ap (λ m. if m then Some (entries_at (after h e) q) else None)
          (ap (λ (ms : List Bool). is_marked ms q) own.worklist ∙ off))
      | inl on ↦
          let fits : WorklistFits t q (cell_at h q) = sound.worklists t q on in
          let same : entries_at (after h e) q ≡ entries_at h q =
          (alone_stays h e t q sound ok others.other fits.mortal
          (omega (arith, one-true (is_marked (worklist_at h t) q) on)) (marked_unheld h t q sound on)
          (live_owner _ fits.lives)).1 in
          ap (λ xs. if is_marked (worklist_at h t) q then Some xs else None) (sym same)
          ∙ sym (ap (λ (ms : List Bool). if is_marked ms q then Some (entries_at (after h e) q) else None) own.worklist)
    ]

Taken : ℕ → ℕ → Heap → List Item → Type 0
Taken t cells h log = IsPart h t (part_of cells log) × SaysMarks (taken_of cells log) (is_marked (worklist_at h t))
    (entries_at h)

taken_follows : (t cells : ℕ) → Follows t cells (Taken t cells)
unfolding Taken
taken_follows t cells =
    let parts = part_follows t cells in
    record {
      starts = λ h reached size last. (
        parts.starts h reached size last,
        λ q. sym (ap (λ m. if m then Some (entries_at h q) else None)
            (ap (λ (ms : List Bool). is_marked ms q)
            (get_or_push h.worklists _ [] t ((reached_sound h reached).shaped.worklists ∙ sym last))
            ∙ new_mark (length h.cells) q)),
      );
      again = λ h number entries reached size vacated. (
        parts.again h number entries reached size vacated,
        λ q. sym (ap (λ m. if m then Some (entries_at h q) else None)
            (ap (λ (ms : List Bool). is_marked ms q)
            (read_here h.worklists t _ [] (omega (arith, (reached_sound h reached).shaped.worklists, vacated.inside)))
            ∙ new_mark (length h.cells) q)),
      );
      others = λ h e log reached ok others before. (
        parts.others h e log reached ok others before.0,
        others_taken h e t (taken_of cells log) reached ok others before.1,
      );
      owns = λ h s number entries log reached size fit may told found before. (
        parts.owns h s number entries log reached size fit may told found before.0,
        λ q. ap (λ o. listed_at (taken_by s number entries o (taken_of cells log)) q)
            (part_target h t (part_of cells log) s before.0)
            ∙ target_taken h t s (target_at h t s) number entries (taken_of cells log) reached fit may refl told found
            before.1 q,
      );
      gathers = λ h u log before. (parts.gathers h u log before.0, before.1);
      saw = λ h word number log reached shows before. before;
      lost = λ h word number log reached shows before. before;
    }

-- the blocks that a registered thread has taken are those marked on its worklist, with the entries that they have
pub taken_is_told : (cells limit : ℕ) (items : ItemRun) (t c : ℕ) → AreOptions cells limit
    → AreItems (start_of cells limit) items
    → is_registered (world_of_items (start_of cells limit) items) t ≡ true
    → listed_at (taken_of cells (own t items)) c
    ≡ (if is_marked (worklist_at (world_of_items (start_of cells limit) items) t) c then Some
    (entries_at (world_of_items (start_of cells limit) items) c) else None)
unfolding Taken
taken_is_told cells limit items t c options are there =
    (tells t cells (Taken t cells) (taken_follows t cells) limit items options are there).1 c

-- ---- what an empty place of the list says

-- a block that isn't listed isn't marked, and the other way round
pub unlisted_unmarked : (cells limit : ℕ) (items : ItemRun) (t c : ℕ) → AreOptions cells limit
    → AreItems (start_of cells limit) items
    → is_registered (world_of_items (start_of cells limit) items) t ≡ true
    → listed_at (taken_of cells (own t items)) c ≡ None
    → is_marked (worklist_at (world_of_items (start_of cells limit) items) t) c ≡ false
unlisted_unmarked cells limit items t c options are there unlisted =
    let h : Heap = world_of_items (start_of cells limit) items in
    elim (cases_Bool (is_marked (worklist_at h t) c)) [
      | inr off ↦ off
      | inl on ↦ let bad : None ≡ Some (entries_at h c) = sym unlisted
          ∙ taken_is_told cells limit items t c options are there
          ∙ ap (λ m. if m then Some (entries_at h c) else None) on in absurd (cc)
    ]

pub unmarked_unlisted : (cells limit : ℕ) (items : ItemRun) (t c : ℕ) → AreOptions cells limit
    → AreItems (start_of cells limit) items
    → is_registered (world_of_items (start_of cells limit) items) t ≡ true
    → is_marked (worklist_at (world_of_items (start_of cells limit) items) t) c ≡ false
    → listed_at (taken_of cells (own t items)) c ≡ None
unmarked_unlisted cells limit items t c options are there off =
    let h : Heap = world_of_items (start_of cells limit) items in
    taken_is_told cells limit items t c options are there ∙ ap (λ m. if m then Some (entries_at h c) else None) off

-- who has taken nothing, or given all of it back, has nothing on its worklist
pub none_taken : (cells limit : ℕ) (items : ItemRun) (t : ℕ) → AreOptions cells limit
    → AreItems (start_of cells limit) items
    → is_registered (world_of_items (start_of cells limit) items) t ≡ true
    → taken_of cells (own t items) ≡ []
    → is_unmarked (worklist_at (world_of_items (start_of cells limit) items) t) ≡ true
none_taken cells limit items t options are there nothing =
    none_marked (worklist_at (world_of_items (start_of cells limit) items) t)
    (λ c. unlisted_unmarked cells limit items t c options are there
    (ap (λ (blocks : Blocks). listed_at blocks c) nothing))

-- the block that a step takes, by the number that it was told, isn't listed before
pub fresh_is_told : (cells limit : ℕ) (items : ItemRun) (t c : ℕ) (s : Step) (number : ℕ) (entries : List ℕ)
    → AreOptions cells limit → AreItems (start_of cells limit) items
    → MayCome (world_of_items (start_of cells limit) items) t (Stepped s number entries) → t ≢ 0
    → meant (part_of cells (own t items)) s ≡ Some c → takes_block s (cell_told s number) ≡ true
    → listed_at (taken_of cells (own t items)) c ≡ None
fresh_is_told cells limit items t c s number entries options are comes thread named takes =
    let h : Heap = world_of_items (start_of cells limit) items in
    let run : List Event = events_of items in
    let reached : IsReached h = run_reached cells limit run options (events_run (start_of cells limit) items are) in
    let may : May h t s = may_parts h t s (subst (λ b. (if b then root_may h s else thread_may h t s) ≡ true)
    (ne_eqb t 0 thread) comes.0) in
    let there : is_registered h t ≡ true = ap (λ b. b && nat_lt t (length h.rows)) (lt-ltb 0 t may.some_thread)
    ∙ lt-ltb t (length h.rows) may.inside in
    let at : target_at h t s ≡ Some c = sym (meant_is_told cells limit items t s options are there) ∙ named in
    let same = (told_alike h t s c number (reached_sound h reached) (run_queues cells limit run) may at comes.1).1 in
    unmarked_unlisted cells limit items t c options are there
    (taken_unmarked h t s c t reached may at (sym same ∙ takes))
