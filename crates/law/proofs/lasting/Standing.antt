-- What stands of a run: facts that last over others' events, blocks that nobody has locked and that are taken once, and
-- threads that hold nothing.
use Rattle.std.proofs.Common.{◌≡◌, ◌≢◌, ℕ, ◌/◌, ◌%◌, ◌<◌, ◌≤◌, ◌==◌, Bool, true, false, if◌then◌else◌, List, [], ◌∷◌}
use Rattle.std.proofs.Common.{◌++◌, length, get_or, set, Option, Some, None, refl, sym, ◌∙◌, ap, subst, inl, inr, arith}
use Rattle.std.proofs.lemmas.List.{get_or-set_same, get_or_past}
use Rattle.std.proofs.lemmas.Bool.{cases_eq, cases_lt, cases_Bool, ne_eqb, and_parts, eqb-true, true≢false}
use Rattle.std.proofs.lemmas.Nat.Bits.{bit_at-zero}
use Rattle.std.specs.Int.{bit_at}
use Rattle.brc_words.specs.declared.kind.Kind.{Kind}
use Rattle.law.specs.declared.world.cell.Cell.{Cell}
use Rattle.law.specs.declared.world.edition.Edition.TheVariants as editions
use Rattle.law.proofs.world.Reusing.{fresh, reused, registers}
use Rattle.law.specs.declared.world.event.Event.{Event}
use Rattle.law.specs.declared.world.event.Step.{Step}
use Rattle.law.specs.declared.world.event.Step.TheVariants.{Birth, SeeZero, Free, MergeZero, LastDown, Enqueue}
use Rattle.law.specs.declared.world.event.Step.TheVariants.{Register, Gather, MergeAdd}
use Rattle.law.specs.declared.world.event.LastDropped.TheVariants as lasts
use Rattle.law.specs.declared.world.row.Phase.TheVariants as phases
use Rattle.law.specs.declared.world.row.Stage.TheVariants as stages
use Rattle.law.specs.world.Lists.{is_marked, bit_of, with_bit}
use Rattle.law.specs.world.Heap.{Heap, opening, cell_at, row_at, popped_at, worklist_at, queue_at, is_gathered, no_cell}
use Rattle.law.specs.world.Heap.{AreOptions}
use Rattle.law.specs.world.Steps.{enabled, after, after_target, root_after, root_may, thread_may, target_at, cell_after}
use Rattle.law.specs.world.Steps.{worklist_after, takes_block, is_active, is_closed, is_shut, queues_after, target_ok}
use Rattle.law.specs.world.Steps.{locked_at, is_at}
use Rattle.law.specs.world.Runs.{IsRun, IsReached, world_after}
use Rattle.law.specs.world.Sound.{IsSound, held}
use Rattle.law.specs.lasting.Staying.{is_about, AreAnothers, Lasts, HoldsNothing}
use Rattle.law.proofs.world.Bitwise.{bit_inside, with_bit_here, with_bit_else}
use Rattle.law.proofs.world.Changes.{read_here, read_there}
use Rattle.law.proofs.world.Counting.{marked_unheld, held_unmarked}
use Rattle.law.proofs.world.Dropping.{dropped_held}
use Rattle.law.proofs.world.Merging.{popped_held}
use Rattle.law.proofs.world.Sharing.{ending_hand}
use Rattle.law.proofs.world.Registering.{push_else}
use Rattle.law.proofs.world.Asking.{May, may_parts, on_cell}
use Rattle.law.proofs.world.Naming.{no_bit, busy_hand, one-false, third}
use Rattle.law.proofs.lasting.Lasting.{unheld_unlocked, other_number, not_bearing, held_live, locked_mutex}
use Rattle.law.proofs.lasting.Ranges_Law.{hand_unmarked}
use Rattle.law.proofs.world.Reached.{event_sound, reached_sound}

-- ---- over a run

-- each world of a run is reached
pub run_reached : (cells limit : ℕ) (run : List Event) → AreOptions cells limit → IsRun (opening cells limit) run
    → IsReached (world_after (opening cells limit) run)
run_reached cells limit run options is_run = record {
  edition = editions.One;
  cells = cells;
  limit = limit;
  options = options;
  run = run;
  is_run = is_run;
  leads_here = refl;
}

-- what lasts over one event of another's lasts over any number of them
pub lasts_over : (t : ℕ) (P : Heap → Type 0) → Lasts t P → (cells limit : ℕ) (later earlier : List Event)
    → AreOptions cells limit → AreAnothers t later → IsRun (opening cells limit) (later ++ earlier)
    → P (world_after (opening cells limit) earlier) → P (world_after (opening cells limit) (later ++ earlier))
lasts_over t P lasts cells limit [] earlier options others is_run holds = holds
lasts_over t P lasts cells limit (e ∷ later) earlier options others is_run holds =
    lasts (world_after (opening cells limit) (later ++ earlier)) e
    (run_reached cells limit (later ++ earlier) options is_run.0) is_run.1 others.0
    (lasts_over t P lasts cells limit later earlier options others.1 is_run.0 holds)

-- ---- blocks

-- a step that takes a block leaves the mutex alone, and puts the cell on the worklist
taken_mutex : (t : ℕ) (s : Step) (c : ℕ) (x : Cell) → takes_block s x ≡ true → (cell_after t s c x).mutex ≡ x.mutex
taken_mutex t (SeeZero d) c x takes = refl
taken_mutex t (MergeZero d) c x takes = refl
taken_mutex t (LastDown last) c x takes = refl
taken_mutex t (MergeAdd d) c x takes = refl
taken_mutex t _ c x takes = absurd (true≢false (sym takes))

taken_work : (s : Step) (c : ℕ) (x : Cell) (worklist : List Bool) → takes_block s x ≡ true
    → worklist_after s c x worklist ≡ set worklist c true
taken_work (Free d) c x worklist takes = absurd (true≢false (sym takes))
taken_work (SeeZero d) c x worklist takes = ap (λ b. if b then set worklist c true else worklist) takes
taken_work (MergeZero d) c x worklist takes = ap (λ b. if b then set worklist c true else worklist) takes
taken_work (MergeAdd d) c x worklist takes = ap (λ b. if b then set worklist c true else worklist) takes
taken_work (LastDown last) c x worklist takes = ap (λ b. if b then set worklist c true else worklist) takes
taken_work _ c x worklist takes = absurd (true≢false (sym takes))

-- at the step that takes a block nobody has locked it
pub taken_unlocked : (h : Heap) (e : Event) (c : ℕ) → IsReached h → enabled h e ≡ true → e.thread ≢ 0
    → target_at h e.thread e.step ≡ Some c → takes_block e.step (cell_at h c) ≡ true → (cell_at h c).mutex ≡ 0
taken_unlocked h e c reached ok thread named takes =
    let sound : IsSound h = reached_sound h reached in
    let moved : Heap = after_target h e.thread e.step (target_at h e.thread e.step) in
    let off : (e.thread == 0) ≡ false = ne_eqb e.thread 0 thread in
    let may : May h e.thread e.step = may_parts h e.thread e.step
    (subst (λ b. (if b then root_may h e.step else thread_may h e.thread e.step) ≡ true) off ok) in
    let is : after h e ≡ after_target h e.thread e.step (Some c) = ap (λ b. if b then root_after h e.step else moved)
    off ∙ ap (after_target h e.thread e.step) named in
    let new : IsSound (after_target h e.thread e.step (Some c)) = subst IsSound is (event_sound h e sound ok) in
    let inside : c < length h.cells =
    (on_cell h e.thread e.step c
    (subst (λ o. target_ok h e.thread (row_at h e.thread) e.step o ≡ true) named may.on_target)).inside in
    let within : c < length (worklist_at h e.thread) =
    omega (arith, sound.shaped.marks e.thread may.some_thread may.inside, inside) in
    let at_works : e.thread < length h.worklists = omega (arith, sound.shaped.worklists, may.inside) in
    let marked : is_marked (worklist_at (after_target h e.thread e.step (Some c)) e.thread) c ≡ true =
    ap (λ marks. is_marked marks c) (read_here h.worklists e.thread _ [] at_works
    ∙ taken_work e.step c (cell_at h c) (worklist_at h e.thread) takes)
    ∙ get_or-set_same (worklist_at h e.thread) c true false within in
    sym (ap (λ (x : Cell). x.mutex) (read_here h.cells c (cell_after e.thread e.step c (cell_at h c)) no_cell inside)
    ∙ taken_mutex e.thread e.step c (cell_at h c) takes)
    ∙ unheld_unlocked (after_target h e.thread e.step (Some c)) c new
    (marked_unheld (after_target h e.thread e.step (Some c)) e.thread c new marked)

-- The block that a step takes is on no worklist: what the step gives up is held, and what it has in its hand is nowhere
-- else.
pub taken_unmarked : (h : Heap) (t : ℕ) (s : Step) (c u : ℕ) → IsReached h → May h t s → target_at h t s ≡ Some c
    → takes_block s (cell_at h c) ≡ true → is_marked (worklist_at h u) c ≡ false
taken_unmarked h t (SeeZero d) c u reached may named takes =
    let e : d ≡ c = cc in
    ap (is_marked (worklist_at h u)) (sym e)
    ∙ hand_unmarked h t u d phases.Zero reached (busy_hand phases.Zero d _ may.hand)
taken_unmarked h t (MergeZero d) c u reached may named takes =
    let e : d ≡ c = cc in
    ap (is_marked (worklist_at h u)) (sym e) ∙ hand_unmarked h t u d phases.Untied reached
    (busy_hand phases.Untied d _ may.hand)
taken_unmarked h t (LastDown (lasts.Dropped drop)) c u reached may named takes =
    one-false _ (held_unmarked h u c (reached_sound h reached) (dropped_held h t c drop named))
taken_unmarked h t (LastDown (lasts.Popped d)) c u reached may named takes =
    let e : d ≡ c = cc in
    ap (is_marked (worklist_at h u)) (sym e)
    ∙ one-false _ (held_unmarked h u d (reached_sound h reached)
    (popped_held h t d (eqb-true (bit_of (popped_at h t) d) 1 may.own)))
taken_unmarked h t (LastDown lasts.Hand) c u reached may named takes =
    let hand = ending_hand (row_at h t).hand c may.hand named in
    hand_unmarked h t u c hand.0 reached hand.1
taken_unmarked h t (MergeAdd d) c u reached may named takes =
    let e : d ≡ c = cc in
    ap (is_marked (worklist_at h u)) (sym e) ∙ elim (cases_Bool (is_at phases.Taking d (row_at h t).hand)) [
      | inl taking ↦ hand_unmarked h t u d phases.Taking reached (busy_hand phases.Taking d _ taking)
      | inr off ↦ elim (cases_Bool (is_at phases.Popping d (row_at h t).hand)) [
        | inl popping ↦ hand_unmarked h t u d phases.Popping reached (busy_hand phases.Popping d _ popping)
        | inr still ↦ hand_unmarked h t u d phases.Yielding reached
            (busy_hand phases.Yielding d _ (third _ _ _ off still may.hand))
      ]
    ]
taken_unmarked h t _ c u reached may named takes = absurd (true≢false (sym takes))

-- a thread's event, test by test
event_may : (h : Heap) (t : ℕ) (s : Step) → enabled h (record { thread = t; step = s }) ≡ true → root_may h s ≡ false
    → May h t s
event_may h t s ok not_root = elim (cases_Bool (t == 0)) [
  | inl root ↦ absurd (true≢false (sym (subst (λ b. (if b then root_may h s else thread_may h t s) ≡ true) root ok)
      ∙ not_root))
  | inr thread ↦ may_parts h t s (subst (λ b. (if b then root_may h s else thread_may h t s) ≡ true) thread ok)
]

-- no other step takes a block
root_takes_none : (h : Heap) (s : Step) (x : Cell) → takes_block s x ≡ true → root_may h s ≡ false
root_takes_none h (Register u) x takes = absurd (true≢false (sym takes))
root_takes_none h (Gather u) x takes = absurd (true≢false (sym takes))
root_takes_none h _ x takes = refl

pub taken_once : (h : Heap) (e : Event) (c u : ℕ) → IsReached h → enabled h e ≡ true
    → target_at h e.thread e.step ≡ Some c → takes_block e.step (cell_at h c) ≡ true
    → is_marked (worklist_at h u) c ≡ false
taken_once h e c u reached ok named takes = taken_unmarked h e.thread e.step c u reached
    (event_may h e.thread e.step ok (root_takes_none h e.step (cell_at h c) takes)) named takes

-- what is held isn't freed: a block on a worklist is held by nobody
pub held_not_freed : (h : Heap) (e : Event) (c : ℕ) → IsReached h → enabled h e ≡ true → 1 ≤ held h c → e.step ≢ Free c
held_not_freed h e c reached ok some is =
    let may : May h e.thread (Free c) = event_may h e.thread (Free c)
    (subst (λ s. enabled h (record { thread = e.thread; step = s }) ≡ true) is ok) refl in
    omega (arith, some, marked_unheld h e.thread c (reached_sound h reached) (and_parts _ _ may.own).0)

-- nor born anew: a cell in which an object is being made is held by nobody
pub held_not_born : (h : Heap) (e : Event) (c : ℕ) (kind : Kind) (k : ℕ) → IsReached h → enabled h e ≡ true
    → 1 ≤ held h c → e.step ≢ Birth c kind k
held_not_born h e c kind k reached ok some is =
    let sound : IsSound h = reached_sound h reached in
    let s : Step = Birth c kind k in
    let may : May h e.thread s = event_may h e.thread s
    (subst (λ z. enabled h (record { thread = e.thread; step = z }) ≡ true) is ok) refl in
    not_bearing h e.thread c c phases.Ready sound (inr (inr refl)) may.hand refl (held_live h c sound some)

-- ---- locks

-- what a thread has locked is held, by the place that it is locked in
pub locked_held : (h : Heap) (t c : ℕ) → IsReached h → locked_at h t ≡ Some c → 1 ≤ held h c
locked_held h t c reached named = (locked_mutex h t c (reached_sound h reached) named).2

-- and no other thread has locked it
pub locked_by_one : (h : Heap) (s t c : ℕ) → IsReached h → locked_at h s ≡ Some c → locked_at h t ≡ Some c → s ≡ t
locked_by_one h s t c reached his mine = sym (locked_mutex h s c (reached_sound h reached) his).1
    ∙ (locked_mutex h t c (reached_sound h reached) mine).1

-- ---- a thread's merge queue

-- a bit of a thread's queue stays until the thread takes it
set_stays : (words : List ℕ) (c q : ℕ) → bit_of words q ≡ 1 → bit_of (with_bit words c) q ≡ 1
set_stays words c q on = elim (cases_eq q c) [
  | inl same ↦ ap (λ i. bit_of (with_bit words c) i) same
      ∙ with_bit_here words c (subst (λ i. i / 32 < length words) same (bit_inside words q (omega (arith, on))))
  | inr other ↦ with_bit_else words c q other ∙ on
]

pub queued_lasts : (t q : ℕ) → Lasts t (λ h. bit_of (queue_at h t) q ≡ 1)
queued_lasts t q h e reached ok others on =
    let sound : IsSound h = reached_sound h reached in
    let moved : Heap = after_target h e.thread e.step (target_at h e.thread e.step) in
    elim (cases_Bool (e.thread == 0)) [
      | inl root ↦ subst (λ b. bit_of (queue_at (if b then root_after h e.step else moved) t) q ≡ 1) (sym root)
          (by_root e.step (subst (λ b. (if b then root_may h e.step else thread_may h e.thread e.step) ≡ true) root ok)
          others.apart sound)
      | inr thread ↦ subst (λ b. bit_of (queue_at (if b then root_after h e.step else moved) t) q ≡ 1) (sym thread)
          (by_thread e.thread e.step (target_at h e.thread e.step) others.other)
    ]
  where
    by_root : (s : Step) → root_may h s ≡ true → is_about t s ≡ false → IsSound h
        → bit_of (queue_at (root_after h s) t) q ≡ 1
    by_root (Register u) ok apart sound = elim (registers h u sound ok) [
      | fresh next most few is ↦ ap (λ w. bit_of (queue_at w t) q) is
          ∙ ap (λ ws. bit_of ws q)
          (push_else h.queues _ [] t (λ same. other_number u t apart (same ∙ sound.shaped.queues ∙ sym next))) ∙ on
      | reused v few is ↦ ap (λ w. bit_of (queue_at w t) q) is
          ∙ ap (λ (ws : List ℕ). bit_of ws q) (read_there h.queues u t _ [] (other_number u t apart)) ∙ on
    ]
    by_root (Gather u) ok apart sound = on
    by_root _ ok apart sound = on

    by_step : (u : ℕ) (s : Step) (c : ℕ) → bit_of (get_or (queues_after h s c) t []) q ≡ 1
    by_step u (Enqueue d) c = elim (cases_Bool (is_shut h c)) [
      | inl shut ↦ ap (λ b. let queues : List (List ℕ) = if b then h.queues else set h.queues (cell_at h c).bearer
          (with_bit (queue_at h (cell_at h c).bearer) c) in bit_of (get_or queues t []) q) shut ∙ on
      | inr apart ↦ ap (λ b. let queues : List (List ℕ) = if b then h.queues else set h.queues (cell_at h c).bearer
          (with_bit (queue_at h (cell_at h c).bearer) c) in bit_of (get_or queues t []) q) apart
          ∙ elim (cases_eq t (cell_at h c).bearer) [
            | inr other ↦ ap (λ (ws : List ℕ). bit_of ws q) (read_there h.queues (cell_at h c).bearer t _ [] other) ∙ on
            | inl same ↦ elim (cases_lt (cell_at h c).bearer (length h.queues)) [
              | inl inside ↦ ap (λ j. bit_of
                  (get_or (set h.queues (cell_at h c).bearer (with_bit (queue_at h (cell_at h c).bearer) c)) j
                  []) q) same
                  ∙ ap (λ (ws : List ℕ). bit_of ws q) (read_here h.queues (cell_at h c).bearer _ [] inside)
                  ∙ set_stays (queue_at h (cell_at h c).bearer) c q (ap (λ j. bit_of (queue_at h j) q) (sym same) ∙ on)
              | inr past ↦ absurd (omega (
                arith,
                on,
                ap (λ (ws : List ℕ). bit_of ws q) (ap (queue_at h) same
                    ∙ get_or_past h.queues (cell_at h c).bearer [] past),
                no_bit q,
              ))
            ]
          ]
    ]
    by_step u _ c = on

    by_thread : (u : ℕ) (s : Step) (o : Option ℕ) → u ≢ t → bit_of (queue_at (after_target h u s o) t) q ≡ 1
    by_thread u s None other = ap (λ (ws : List ℕ). bit_of ws q)
        (read_there h.queues u t _ [] (λ same. other (sym same))) ∙ on
    by_thread u s (Some c) other = by_step u s c

-- ---- threads that are gathered

-- a gathered thread holds nothing: no place, no popped entry, no queued one, no dead block, no lock
pub gathered_hold_nothing : (h : Heap) (t : ℕ) → IsReached h → is_gathered h t ≡ true → HoldsNothing h t
gathered_hold_nothing h t reached gathered =
    let sound : IsSound h = reached_sound h reached in
    let fits = sound.threads t in
    let left : (row_at h t).stage ≡ stages.Left = fits.gathered_left gathered in
    let idle : is_active (row_at h t).stage ≡ false = ap is_active left in
    record {
      left = left;
      hand = fits.gathered_hand gathered;
      unlocked = fits.inactive_lock idle;
      frame = fits.inactive_frame idle;
      popped = λ q. (fits.gathered_work gathered q).1;
      queue = λ q. ap (λ w. bit_at w (q % 32)) (fits.closed (q / 32) (ap (λ g. is_closed g (q / 32)) left))
          ∙ bit_at-zero (q % 32);
      worklist = λ q. (fits.gathered_work gathered q).0;
    }
