-- The merge queue: a reference goes in, bits are taken, a popped entry is counted down, and words are closed.
use Rattle.std.proofs.Common.{◌≡◌, ◌≢◌, ℕ, ◌+◌, ◌/◌, ◌<◌, ◌≤◌, ◌==◌, ◌&&◌, not, Bool, true, false, if◌then◌else◌, ℤ}
use Rattle.std.proofs.Common.{pos, ◌-ℤ◌, List, [], length, get_or, set, Option, Some, None, sum_by, refl, sym, ◌∙◌, ap}
use Rattle.std.proofs.Common.{subst, inl, inr, ◌⊎◌, arith, zero, suc}
use Rattle.std.proofs.lemmas.List.{get_or-set_same, get_or-set_other, length-set, set-get_or, get_or_past}
use Rattle.std.proofs.lemmas.List.Sums.{sum_by-set, get_or-le-sum_by}
use Rattle.std.proofs.lemmas.Bool.{cases_eq, cases_lt, cases_Bool, eq-eqb, ne_eqb, eqb-true, and_parts, lt-ltb}
use Rattle.std.proofs.lemmas.Bool.{ltb-true, true≢false, le-leb, leb-true}
use Rattle.std.proofs.lemmas.Int.{ints}
use Rattle.brc_words.specs.declared.limits.TheConstants.{FIRST_MORTAL}
use Rattle.brc_words.specs.declared.owner.Owner.{Owner}
use Rattle.brc_words.specs.declared.owner.Owner.TheVariants as owners
use Rattle.brc_words.specs.declared.state.State.{State}
use Rattle.brc_words.specs.declared.state.State.TheVariants as states
use Rattle.law.specs.declared.world.cell.Cell.{Cell}
use Rattle.law.specs.declared.world.edition.Edition.{Edition}
use Rattle.law.specs.declared.world.edition.Edition.TheVariants as editions
use Rattle.law.specs.declared.world.event.LastDropped.TheVariants as lasts
use Rattle.law.specs.declared.world.event.Step.{Step}
use Rattle.law.specs.declared.world.event.Step.TheVariants.{LastDown, Enqueue, Drain, Close, Reopen}
use Rattle.law.specs.declared.world.row.Row.{Row}
use Rattle.law.specs.declared.world.row.Hand.TheVariants as hands
use Rattle.law.specs.declared.world.row.Phase.TheVariants as phases
use Rattle.law.specs.declared.world.row.Stage.{Stage}
use Rattle.law.specs.declared.world.row.Stage.TheVariants as stages
use Rattle.law.specs.world.Lists.{one, bit_of, is_marked, place_at, word_at, with_bit, without_bit, is_bare}
use Rattle.law.specs.world.Lists.{is_unmarked}
use Rattle.law.specs.world.Heap.{Heap, cell_at, entries_at, row_at, frame_at, popped_at, worklist_at, queue_at, no_cell}
use Rattle.law.specs.world.Heap.{no_row, is_gathered, words_for}
use Rattle.law.specs.world.Steps.{thread_may, stepped, is_shut, kept_cells, closes_next, closed_more, with_drained}
use Rattle.law.specs.world.Steps.{without_drained, is_active, is_closed, is_default, is_queued, is_merged, is_zero}
use Rattle.law.specs.world.Steps.{is_nobody, is_owned_by, opens_next, opened_more, may_leave, owned_are_marked}
use Rattle.law.specs.world.Steps.{edition_ok}
use Rattle.law.specs.world.Holding.{lives, carries}
use Rattle.law.specs.world.Sound.{IsSound, ThreadFits, PhaseFits, HandFits, grips, is_active_hand, held, asks}
use Rattle.law.specs.world.Sound.{is_threads, in_queues, ShutFits, rests, rests_at, offering, grips_by_owner, CellFits}
use Rattle.law.proofs.world.Naming.{no_mark, one-le, free_hand, busy_hand, busy_carrier, sum_one, no_bit, offers_none}
use Rattle.law.proofs.world.Naming.{one-true, second}
use Rattle.law.proofs.world.Bitwise.{with_bit_here, with_bit_else, length-with_bit, without_bit_here, without_bit_else}
use Rattle.law.proofs.world.Bitwise.{length-without_bit, taken_bits, length-with_taken, length-without_taken}
use Rattle.law.proofs.world.Asking.{May, OnCell, on_cell, may_parts}
use Rattle.law.proofs.world.Birthing.{active_from, active_fits, no_lock}
use Rattle.law.proofs.world.Counting.{held_unmarked, owned_ungripped, local_positive}
use Rattle.law.proofs.world.Changes.{New, Fits, changed_sound, same_entries, same_locks, same_bits, other_queue}
use Rattle.law.proofs.world.Changes.{read_by, read_here, read_there, kept_resting, kept_bits}
use Rattle.law.proofs.world.Turning.{Acts, acts, Turn, turn_sound, turned_thread, hand_else}
use Rattle.law.proofs.world.Merging.{held_owner, carried_held, popped_held, taken_marks, marked_so, busy_same}
use Rattle.law.proofs.world.Merging.{idle_apart, closed_idle, live_thread, gripped_local}
use Rattle.law.proofs.world.Sharing.{Lasts, lasts_of, count_hands, count_cell, queued_or_merged}

-- ---- a reference goes into the merge queue

-- the facts that an asked reference rests on
record Asked (h : Heap) (t c : ℕ) : Type 0 where
  may : May h t (Enqueue c)
  who : Acts h t
  inside : c < length h.cells
  busy : (row_at h t).hand ≡ hands.Busy phases.Asked c
  mortal : FIRST_MORTAL ≤ c
  carried : one (carries c (row_at h t).hand) ≡ 1
  live : lives (cell_at h c).owner ≡ true
  bearer : (cell_at h c).bearer < length h.rows
  some_bearer : 0 < (cell_at h c).bearer
  no_grip : one (grips c (row_at h t).hand) ≡ 0

asked : (h : Heap) (t c : ℕ) → IsSound h → thread_may h t (Enqueue c) ≡ true → Asked h t c
asked h t c sound ok =
    let may : May h t (Enqueue c) = may_parts h t (Enqueue c) ok in
    let busy : (row_at h t).hand ≡ hands.Busy phases.Asked c = busy_hand phases.Asked c _ may.hand in
    let said : HandFits h t phases.Asked c = sound.hands t c phases.Asked busy in
    let carried : one (carries c (row_at h t).hand) ≡ 1 = busy_carrier phases.Asked c (row_at h t).hand refl busy in
    let live : lives (cell_at h c).owner ≡ true = held_owner h c sound said.mortal (carried_held h t c carried) in
    record {
      may = may;
      who = acts h t (Enqueue c) may refl refl refl;
      inside = (on_cell h t (Enqueue c) c may.on_target).inside;
      busy = busy;
      mortal = said.mortal;
      carried = carried;
      live = live;
      bearer = ((sound.cells c said.mortal).born live).1;
      some_bearer = ((sound.cells c said.mortal).born live).0;
      no_grip = ap (λ z. one (grips c z)) busy;
    }

-- in the second edition a thread whose queue words are closed owns nothing that is held
shut_fits : (h : Heap) (t c : ℕ) → IsSound h → Asked h t c → is_shut h c ≡ true → (e : Edition) → h.edition ≡ e
    → ShutFits e (cell_at h c) (row_at h (cell_at h c).bearer).stage c
shut_fits h t c sound a shut editions.One is = shut
shut_fits h t c sound a shut editions.Two is = by_owner (cell_at h c).owner refl
  where
    by_owner : (o : Owner) → (cell_at h c).owner ≡ o → (cell_at h c).owner ≡ owners.Nobody
    by_owner owners.Nobody same = same
    by_owner (owners.Claimed s) same = absurd (true≢false (sym a.live ∙ ap lives same))
    by_owner owners.Free same = absurd (true≢false (sym a.live ∙ ap lives same))
    by_owner (owners.Thread s) owner =
        let bearer : (cell_at h c).bearer ≡ s = (sound.cells c a.mortal).owned_by_bearer s owner in
        let off : is_active (row_at h s).stage ≡ false = subst (λ b. is_active (row_at h b).stage ≡ false) bearer
        (closed_idle _ (c / 32) shut) in
        let none = owned_ungripped h s c sound a.mortal owner (carried_held h t c a.carried)
        (idle_apart h s c (row_at h s).hand sound off owner refl) in
        let some : 1 ≤ (cell_at h c).local = local_positive h s c sound a.mortal owner none in
        let gone : (cell_at h c).local ≡ 0 = (sound.cells c a.mortal).rested s owner
        (ap (λ e. rests e (row_at h s).stage) is ∙ ap not off) in
        absurd (omega (arith, some, gone))

-- the word is closed: the reference stays in the hand
shut_turn : (h : Heap) (t c : ℕ) → IsSound h → Asked h t c → is_shut h c ≡ true
    → Turn h t c (cell_at h c) (hands.Busy phases.Shut c) (frame_at h t) (worklist_at h t) h.entries
shut_turn h t c sound a shut =
    let here : one (c == c) ≡ 1 = ap one (eq-eqb c c refl) in
    record {
      acts = a.who;
      cell_inside = a.inside;
      mortal = a.mortal;
      mutex = refl;
      bearer = refl;
      live = refl;
      vacant = λ j none. none;
      places = (sound.threads t).places;
      marks = refl;
      lists = refl;
      counted_here = omega (arith, ints, a.carried, here);
      part_else = λ q _. refl;
      gripped_here = omega (arith, a.no_grip);
      most_here = omega (arith, sound.most c a.mortal, a.carried, here);
      least_here = omega (arith, sound.least c a.mortal, a.carried, here, offers_none phases.Asked c c _ refl a.busy);
      before = λ p d e. (busy_same phases.Asked c (row_at h t).hand a.busy p d e).0;
      after = λ p d e. let same = busy_same phases.Shut c (hands.Busy phases.Shut c) refl p d e in (
        same.0,
        subst (λ z. PhaseFits h.edition t (record (row_at h t) { hand = hands.Busy phases.Shut c })
            (popped_at h t) (cell_at h c) (row_at h (cell_at h c).bearer).stage c z) (sym same.1)
            (shut_fits h t c sound a shut h.edition refl),
      );
      idle = λ _. refl;
      hands_else = λ s p _ busy. (sound.hands s c p busy).fits;
      cell = sound.cells c a.mortal;
      fewer = λ q _. same_entries _;
      works_here = sound.worklists t c;
      marks_else = λ q _. refl;
      works_else = λ s _ on. sound.worklists s c on;
    }

-- the word is open: the bearer's queue gets the bit
abbrev queued : Heap → ℕ → ℕ → New
queued h t c = record {
  cell = cell_at h c;
  row = record (row_at h t) { hand = hands.Free };
  frame = frame_at h t;
  popped = popped_at h t;
  worklist = worklist_at h t;
  entries = h.entries;
  queues = set h.queues (cell_at h c).bearer (with_bit (queue_at h (cell_at h c).bearer) c);
  past_allocs = h.past_allocs;
  past_frees = h.past_frees;
}

queued_fits : (h : Heap) (t c : ℕ) → IsSound h → Asked h t c → is_shut h c ≡ false → Fits h t c (queued h t c)
queued_fits h t c sound a apart =
    let b : ℕ = (cell_at h c).bearer in
    let words : List ℕ = with_bit (queue_at h b) c in
    let queues : List (List ℕ) = set h.queues b words in
    let within : b < length h.queues = omega (arith, sound.shaped.queues, a.bearer) in
    let long : c / 32 < length (queue_at h b) = omega (
      arith,
      sound.shaped.queue_words b a.some_bearer a.bearer,
      a.inside,
    ) in
    -- the one reference on its way is the hand's
    let once : asks h c ≤ 1 = omega (arith, sound.most c a.mortal, one-le (not (is_default (cell_at h c).state))) in
    let in_hand = sum_one (λ (row : Row). one (carries c row.hand)) h.rows t no_row refl in
    let unset : bit_of (queue_at h b) c ≡ 0 =
    omega (arith, once, a.carried, in_hand, sum_one (λ (words : List ℕ). bit_of words c) h.queues b [] (no_bit c)) in
    let sum : (q : ℕ) → sum_by (λ (words : List ℕ). bit_of words q) queues + bit_of (queue_at h b) q ≡ in_queues h q
    + bit_of words q = λ q.
    sum_by-set (λ (words : List ℕ). bit_of words q) h.queues b words [] within in
    let sum_else : (q : ℕ) → q ≢ c → sum_by (λ (words : List ℕ). bit_of words q) queues ≡ in_queues h q =
    λ q ne. omega (arith, sum q, with_bit_else (queue_at h b) c q ne) in
    let sum_here : sum_by (λ (words : List ℕ). bit_of words c) queues ≡ in_queues h c + 1 =
    omega (arith, sum c, with_bit_here (queue_at h b) c long, unset) in
    let hand_apart = λ (q : ℕ) (ne : q ≢ c). hand_else c q (row_at h t).hand
    (λ p d e. (busy_same phases.Asked c (row_at h t).hand a.busy p d e).0) ne in
    -- a closed word of any thread stays empty
    let empty : (s k : ℕ) → is_closed (row_at h s).stage k ≡ true → word_at (get_or queues s []) k ≡ 0 = λ s k closed.
    read_by (λ j (ws : List ℕ). is_closed (row_at h j).stage k ≡ true → word_at ws k ≡ 0) h.queues b words [] within
    (λ closed. get_or-set_other (queue_at h b) (c / 32) k _ 0
    (λ same. true≢false (sym closed ∙ ap (is_closed (row_at h b).stage) same ∙ apart))
    ∙ (sound.threads b).closed k closed)
    (λ j _ closed. (sound.threads j).closed k closed) s closed in
    record {
      thread = a.who.thread;
      thread_inside = a.who.inside;
      cell_inside = a.inside;
      marks = refl;
      lists = refl;
      words = refl;
      queues = length-set h.queues b words;
      queue_words = λ s. read_by (λ j (ws : List ℕ). length ws ≡ length (queue_at h j)) h.queues b words [] within
          (length-with_bit (queue_at h b) c) (λ j _. refl) s;
      counted_here = λ _. omega (arith, ints, sum_here, a.carried);
      counted_else = λ q _ ne. omega (arith, sum_else q ne, (hand_apart q ne).1);
      gripped_here = λ _. omega (arith, a.no_grip);
      gripped_else = λ q _ ne. omega (arith, (hand_apart q ne).0);
      most_here = λ _. omega (arith, sound.most c a.mortal, sum_here, a.carried);
      least_here = λ _. omega (
        arith,
        sound.least c a.mortal,
        sum_here,
        a.carried,
        offers_none phases.Asked c c _ refl a.busy,
      );
      offers_else = λ q _ ne. sym (offers_none phases.Asked c q _ refl a.busy);
      asks_else = λ q _ ne. omega (arith, sum_else q ne, (hand_apart q ne).1);
      hand = λ p d e. let bad : hands.Free ≡ hands.Busy p d = e in absurd (cc);
      hands_else = λ s p _ busy. (sound.hands s c p busy).fits;
      cell = sound.cells c;
      immortal = sound.immortals c;
      fewer = λ q _. same_entries _;
      works_here = sound.worklists t c;
      works_own = λ q _ on. on;
      works_else = λ s _ on. sound.worklists s c on;
      closes = λ _ k closed. closed;
      resting = kept_resting h t c (cell_at h c) h.entries (row_at h t).stage sound a.inside refl (sound.cells c);
      own = other_queue _ _ _ _ _ _ (queue_at h t) (get_or queues t []) _ (empty t)
          (turned_thread _ _ (row_at h t) hands.Free (frame_at h t) (frame_at h t) (popped_at h t) (popped_at h t)
          (worklist_at h t) (worklist_at h t) (queue_at h t) (is_gathered h t)
          (sound.threads t) a.who.here a.who.not_closing a.who.not_opening a.who.unlocked (λ _. refl) (λ j none. none)
          (sound.threads t).places);
      queues_else = λ s k _. empty s k;
      bits = λ s q some.
          let old : bit_of (get_or (set h.popped t (popped_at h t)) s []) q ≡ bit_of (popped_at h s) q =
          ap (λ l. bit_of (get_or l s []) q) (set-get_or h.popped t []) in
          let bearer : (get_or (set h.cells c (cell_at h c)) q no_cell).bearer ≡ (cell_at h q).bearer =
          ap (λ l. (get_or l q no_cell).bearer) (set-get_or h.cells c no_cell) in
          elim (newer s q) [
            | inl same ↦ let said = sound.bits s q (omega (arith, some, old, same)) in (said.0, bearer ∙ said.1)
            | inr new ↦ (omega (arith, new.1, a.mortal), bearer ∙ ap (λ j. (cell_at h j).bearer) new.1 ∙ sym new.0)
          ];
      locks = same_locks h t c (queued h t c) sound a.who.inside a.inside
          (record { mutex = refl; locked = refl; place = λ k _. refl });
      ledger = refl;
      past = sound.past.0;
    }
  where
    newer : (s q : ℕ) → (bit_of
        (get_or (set h.queues (cell_at h c).bearer (with_bit (queue_at h (cell_at h c).bearer) c)) s []) q ≡ bit_of
        (queue_at h s) q) ⊎ ((s ≡ (cell_at h c).bearer) × (q ≡ c))
    newer s q = elim (cases_eq q c) [
      | inr other ↦ inl (read_by (λ j (ws : List ℕ). bit_of ws q ≡ bit_of (queue_at h j) q) h.queues
          (cell_at h c).bearer (with_bit (queue_at h (cell_at h c).bearer) c) []
          (omega (arith, sound.shaped.queues, a.bearer)) (with_bit_else (queue_at h (cell_at h c).bearer) c q other)
          (λ j _. refl) s)
      | inl same ↦ elim (cases_eq s (cell_at h c).bearer) [
        | inl his ↦ inr (his, same)
        | inr other ↦ inl (ap (λ (ws : List ℕ). bit_of ws q)
            (get_or-set_other h.queues (cell_at h c).bearer s _ [] other))
      ]
    ]

pub enqueue_sound : (h : Heap) (t c : ℕ) → IsSound h → thread_may h t (Enqueue c) ≡ true
    → IsSound (stepped h t (Enqueue c) c)
enqueue_sound h t c sound ok =
    let a : Asked h t c = asked h t c sound ok in
    let P : Bool → Type 0 = λ b. IsSound (record h {
      cells = set h.cells c (cell_at h c);
      rows = set h.rows t (record (row_at h t) { hand = if b then hands.Busy phases.Shut c else hands.Free });
      frames = set h.frames t (frame_at h t);
      popped = set h.popped t (popped_at h t);
      worklists = set h.worklists t (worklist_at h t);
      queues = if b then h.queues else set h.queues (cell_at h c).bearer (with_bit (queue_at h (cell_at h c).bearer) c);
    }) in
    elim (cases_Bool (is_shut h c)) [
      | inl shut ↦ subst P (sym shut) (turn_sound h t c _ _ _ _ _ sound (shut_turn h t c sound a shut))
      | inr apart ↦ subst P (sym apart) (changed_sound h t c (queued h t c) sound (queued_fits h t c sound a apart))
    ]

-- ---- a popped entry of a merged object is counted down

merged_least : (s : State) (b : Bool) → is_merged s ≡ true → one (is_queued s && b) ≡ 0
merged_least states.Default b merged = absurd (true≢false (sym merged))
merged_least states.Queued b merged = absurd (true≢false (sym merged))
merged_least states.Merged b merged = refl

pub last_popped_sound : (h : Heap) (t c : ℕ) → IsSound h → thread_may h t (LastDown (lasts.Popped c)) ≡ true
    → IsSound (stepped h t (LastDown (lasts.Popped c)) c)
last_popped_sound h t c sound ok =
    let s : Step = LastDown (lasts.Popped c) in
    let may : May h t s = may_parts h t s ok in
    let at_cell : OnCell h t s c = on_cell h t s c may.on_target in
    let who : Acts h t = acts h t s may refl refl refl in
    let x : Cell = cell_at h c in
    let n : ℤ = x.count -ℤ pos 1 in
    let takes : Bool = is_merged x.state && is_zero n in
    let parts = and_parts _ _ at_cell.fits in
    let on : bit_of (popped_at h t) c ≡ 1 = eqb-true _ _ may.own in
    let mortal : FIRST_MORTAL ≤ c = (sound.bits t c (omega (arith, on))).0 in
    let free : (row_at h t).hand ≡ hands.Free = free_hand _ may.hand in
    let some : 1 ≤ held h c = popped_held h t c on in
    let last : Lasts h t c = lasts_of h t c sound mortal some in
    let within : c < length (worklist_at h t) = omega (
      arith,
      sound.shaped.marks t may.some_thread may.inside,
      at_cell.inside,
    ) in
    let marks = taken_marks (worklist_at h t) c within (held_unmarked h t c sound some) takes in
    let words : List ℕ = without_bit (popped_at h t) c in
    let off : bit_of words c ≡ 0 = without_bit_here (popped_at h t) c on in
    let keep : (q : ℕ) → q ≢ c → bit_of words q ≡ bit_of (popped_at h t) q = λ q ne. without_bit_else
    (popped_at h t) c q ne in
    let fewer : (q : ℕ) → bit_of words q ≤ bit_of (popped_at h t) q = λ q. elim (cases_eq q c) [
      | inl same ↦ omega (arith, off, ap (bit_of words) same)
      | inr other ↦ omega (arith, keep q other)
    ] in
    let at_popped : t < length h.popped = omega (arith, sound.shaped.popped, may.inside) in
    let n' : New = record {
      cell = record x { count = n };
      row = record (row_at h t) { hand = (row_at h t).hand };
      frame = frame_at h t;
      popped = words;
      worklist = if takes then set (worklist_at h t) c true else worklist_at h t;
      entries = h.entries;
      queues = h.queues;
      past_allocs = h.past_allocs;
      past_frees = h.past_frees;
    } in
    let fits : FIRST_MORTAL ≤ c → CellFits (length h.rows) h.limit (rests_at h) (record x { count = n })
    (entries_at h c) = λ _.
    count_cell _ _ _ x n (entries_at h c) (entries_at h c) last.live (λ e. absurd (queued_or_merged x.state parts.0 e))
    (λ e. e) (omega arith) (sound.cells c mortal) in
    changed_sound h t c n' sound (record {
      thread = may.some_thread;
      thread_inside = may.inside;
      cell_inside = at_cell.inside;
      marks = marks.1;
      lists = refl;
      words = length-without_bit (popped_at h t) c;
      queues = refl;
      queue_words = λ s. refl;
      counted_here = λ _. omega (arith, ints, last.counted, on, off);
      counted_else = λ q _ ne. omega (arith, keep q ne);
      gripped_here = λ _. omega (arith, last.gripped, marks.0, held_unmarked h t c sound some);
      gripped_else = λ q _ ne. omega (arith, ap one (marks.2 q ne));
      most_here = λ _. omega (arith, sound.most c mortal, on, off);
      least_here = λ _. omega (
        arith,
        merged_least x.state (is_threads x.owner) parts.1,
        on,
        off,
        sum_one (λ (words : List ℕ). bit_of words c) h.popped t [] (no_bit c),
      );
      asks_else = λ q _ ne. omega (arith, keep q ne);
      offers_else = λ q _ ne. refl;
      hand = λ p d e. let bad : hands.Free ≡ hands.Busy p d = sym free ∙ e in absurd (cc);
      hands_else = count_hands h t c n sound;
      cell = fits;
      immortal = λ low. absurd (omega (arith, low, mortal));
      fewer = λ q _. same_entries _;
      works_here = λ marked. last.dead (marked_so takes _ (ap one marked) marks.0);
      works_own = λ q ne marked. sym (marks.2 q ne) ∙ marked;
      works_else = λ s ne marked. absurd (no_mark _ (held_unmarked h s c sound some) marked);
      closes = λ _ k closed. closed;
      resting = kept_resting h t c (record x { count = n }) h.entries (row_at h t).stage sound at_cell.inside refl fits;
      own = turned_thread _ _ (row_at h t) (row_at h t).hand (frame_at h t) (frame_at h t) (popped_at h t) words
          (worklist_at h t) _ (queue_at h t) (is_gathered h t)
          (sound.threads t) who.here who.not_closing who.not_opening who.unlocked (λ _. ap is_active_hand free)
          (λ j none. none) (sound.threads t).places;
      queues_else = λ s k _. (sound.threads s).closed k;
      bits = same_bits h t c n' sound at_cell.inside
          (λ s q. read_by (λ j (ws : List ℕ). 0 < bit_of (queue_at h j) q + bit_of ws q
          → 0 < bit_of (queue_at h j) q + bit_of (popped_at h j) q) h.popped t words [] at_popped
          (λ some. omega (arith, some, fewer q)) (λ j _ some. some) s) (inl refl);
      locks = same_locks h t c n' sound may.inside at_cell.inside
          (record { mutex = refl; locked = refl; place = λ k _. refl });
      ledger = refl;
      past = sound.past.0;
    })

-- ---- the bits of a word are taken

-- a reference is queued or popped, not both
pub bits_once : (h : Heap) (t q : ℕ) → IsSound h → bit_of (queue_at h t) q + bit_of (popped_at h t) q ≤ 1
bits_once h t q sound = elim (cases_lt 0 (bit_of (queue_at h t) q + bit_of (popped_at h t) q)) [
  | inr none ↦ omega (arith, none)
  | inl some ↦
      let mortal : FIRST_MORTAL ≤ q = (sound.bits t q some).0 in
      omega (
        arith,
        sound.most q mortal,
        one-le (not (is_default (cell_at h q).state)),
        sum_one (λ (words : List ℕ). bit_of words q) h.queues t [] (no_bit q),
        sum_one (λ (words : List ℕ). bit_of words q) h.popped t [] (no_bit q),
      )
]

-- the thread's stage, and the bits of one of its queue words
abbrev taken : Heap → ℕ → ℕ → Stage → New
taken h t k stage = record {
  cell = cell_at h 0;
  row = record (row_at h t) { stage = stage };
  frame = frame_at h t;
  popped = with_drained (Some k) (queue_at h t) (popped_at h t);
  worklist = worklist_at h t;
  entries = h.entries;
  queues = set h.queues t (without_drained (Some k) (queue_at h t));
  past_allocs = h.past_allocs;
  past_frees = h.past_frees;
}

not_mortal : {A : Type 0} → FIRST_MORTAL ≤ 0 → A
not_mortal high = absurd (omega (arith, high))

-- what taking a word's bits rests on
record Takes (h : Heap) (t k : ℕ) (stage : Stage) : Type 0 where
  thread : 0 < t
  inside : t < length h.rows
  word : k < words_for (length h.cells)
  free : (row_at h t).hand ≡ hands.Free
  closes : h.edition ≡ editions.One → (j : ℕ) → is_closed (row_at h t).stage j ≡ true → is_closed stage j ≡ true
  resting : (q : ℕ) → FIRST_MORTAL ≤ q → (cell_at h q).owner ≡ owners.Thread t → rests h.edition stage ≡ true
      → (cell_at h q).local ≡ 0
  own : ThreadFits h.edition (words_for (length h.cells)) (record (row_at h t) { stage = stage }) (frame_at h t)
      (with_drained (Some k) (queue_at h t) (popped_at h t)) (worklist_at h t) (without_drained (Some k) (queue_at h t))
      (is_gathered h t)

taken_fits : (h : Heap) (t k : ℕ) (stage : Stage) → IsSound h → Takes h t k stage → Fits h t 0 (taken h t k stage)
taken_fits h t k stage sound takes =
    let popped : List ℕ = with_drained (Some k) (queue_at h t) (popped_at h t) in
    let queue : List ℕ = without_drained (Some k) (queue_at h t) in
    let at_queues : t < length h.queues = omega (arith, sound.shaped.queues, takes.inside) in
    let at_popped : t < length h.popped = omega (arith, sound.shaped.popped, takes.inside) in
    let long : k < length (popped_at h t) = omega (
      arith,
      sound.shaped.popped_words t takes.thread takes.inside,
      takes.word,
    ) in
    let bits : (q : ℕ) → bit_of popped q + bit_of queue q ≡ bit_of (popped_at h t) q + bit_of (queue_at h t) q =
    λ q. taken_bits k (queue_at h t) (popped_at h t) q long (bits_once h t q sound) in
    let sum : (q : ℕ) → sum_by (λ (words : List ℕ). bit_of words q) (set h.queues t queue) + bit_of (queue_at h t) q
    ≡ in_queues h q + bit_of queue q = λ q.
    sum_by-set (λ (words : List ℕ). bit_of words q) h.queues t queue [] at_queues in
    record {
      thread = takes.thread;
      thread_inside = takes.inside;
      cell_inside = omega (arith, sound.shaped.options.enough);
      marks = refl;
      lists = refl;
      words = length-with_taken k (queue_at h t) (popped_at h t);
      queues = length-set h.queues t queue;
      queue_words = λ s. read_by (λ j (ws : List ℕ). length ws ≡ length (queue_at h j)) h.queues t queue [] at_queues
          (length-without_taken k (queue_at h t)) (λ j _. refl) s;
      counted_here = not_mortal;
      counted_else = λ q _ _. omega (arith, bits q, sum q);
      gripped_here = not_mortal;
      gripped_else = λ q _ _. refl;
      most_here = not_mortal;
      least_here = not_mortal;
      asks_else = λ q _ _. omega (arith, bits q, sum q);
      offers_else = λ q _ _. refl;
      hand = λ p d e. let bad : hands.Free ≡ hands.Busy p d = sym takes.free ∙ e in absurd (cc);
      hands_else = λ s p _ busy. not_mortal (sound.hands s 0 p busy).mortal;
      cell = not_mortal;
      immortal = sound.immortals 0;
      fewer = λ q _. same_entries _;
      works_here = sound.worklists t 0;
      works_own = λ q _ on. on;
      works_else = λ s _ on. sound.worklists s 0 on;
      closes = takes.closes;
      resting = λ q. subst (λ cells. FIRST_MORTAL ≤ q → (get_or cells q no_cell).owner ≡ owners.Thread t
          → rests h.edition stage ≡ true → (get_or cells q no_cell).local ≡ 0) (sym (set-get_or h.cells 0 no_cell))
          (takes.resting q);
      own = subst (λ ws. ThreadFits h.edition (words_for (length h.cells)) (record (row_at h t) { stage = stage })
          (frame_at h t) popped (worklist_at h t) ws (is_gathered h t)) (sym (read_here h.queues t queue [] at_queues))
          takes.own;
      queues_else = λ s j ne closed. ap (λ (ws : List ℕ). word_at ws j) (read_there h.queues t s queue [] ne)
          ∙ (sound.threads s).closed j closed;
      bits = same_bits h t 0 (taken h t k stage) sound (omega (arith, sound.shaped.options.enough)) older (inl refl);
      locks = same_locks h t 0 (taken h t k stage) sound takes.inside (omega (arith, sound.shaped.options.enough))
          (record { mutex = refl; locked = refl; place = λ j _. refl });
      ledger = refl;
      past = sound.past.0;
    }
  where
    older : (s q : ℕ) → 0 < bit_of (get_or (set h.queues t (without_drained (Some k) (queue_at h t))) s []) q + bit_of
        (get_or (set h.popped t (with_drained (Some k) (queue_at h t) (popped_at h t))) s []) q
        → 0 < bit_of (queue_at h s) q + bit_of (popped_at h s) q
    older s q some =
        let at_queues : t < length h.queues = omega (arith, sound.shaped.queues, takes.inside) in
        let at_popped : t < length h.popped = omega (arith, sound.shaped.popped, takes.inside) in
        let long : k < length (popped_at h t) = omega (
          arith,
          sound.shaped.popped_words t takes.thread takes.inside,
          takes.word,
        ) in
        elim (cases_eq s t) [
          | inr other ↦ omega (
            arith,
            some,
            ap (λ (ws : List ℕ). bit_of ws q) (read_there h.queues t s (without_drained (Some k) (queue_at h t))
                [] other),
            ap (λ (ws : List ℕ). bit_of ws q)
                (read_there h.popped t s (with_drained (Some k) (queue_at h t) (popped_at h t)) [] other),
          )
          | inl same ↦ omega (
            arith,
            some,
            taken_bits k (queue_at h t) (popped_at h t) q long (bits_once h t q sound),
            ap (λ (ws : List ℕ). bit_of ws q)
                (ap (λ j. get_or (set h.queues t (without_drained (Some k) (queue_at h t))) j []) same
                ∙ read_here h.queues t (without_drained (Some k) (queue_at h t)) [] at_queues),
            ap (λ (ws : List ℕ). bit_of ws q)
                (ap (λ j. get_or (set h.popped t (with_drained (Some k) (queue_at h t) (popped_at h t))) j []) same
                ∙ read_here h.popped t (with_drained (Some k) (queue_at h t) (popped_at h t)) [] at_popped),
            ap (λ j. bit_of (queue_at h j) q) same,
            ap (λ j. bit_of (popped_at h j) q) same,
          )
        ]

-- a step that means no cell writes no cell, no frame and no worklist
taken_sound : (h : Heap) (t k : ℕ) (stage : Stage) → IsSound h → Takes h t k stage → IsSound (record h {
  rows = set h.rows t (record (row_at h t) { stage = stage });
  popped = set h.popped t (with_drained (Some k) (queue_at h t) (popped_at h t));
  queues = set h.queues t (without_drained (Some k) (queue_at h t));
})
taken_sound h t k stage sound takes =
    let n : New = taken h t k stage in
    subst (λ cells. IsSound (record h {
      cells = cells;
      rows = set h.rows t n.row;
      popped = set h.popped t n.popped;
      queues = n.queues;
    })) (set-get_or h.cells 0 no_cell)
    (subst (λ frames. IsSound
    (record h {
      cells = set h.cells 0 (cell_at h 0);
      frames = frames;
      rows = set h.rows t n.row;
      popped = set h.popped t n.popped;
      queues = n.queues;
    })) (set-get_or h.frames t [])
    (subst (λ worklists. IsSound
    (record h {
      cells = set h.cells 0 (cell_at h 0);
      frames = set h.frames t (frame_at h t);
      worklists = worklists;
      rows = set h.rows t n.row;
      popped = set h.popped t n.popped;
      queues = n.queues;
    })) (set-get_or h.worklists t [])
    (changed_sound h t 0 n sound (taken_fits h t k stage sound takes))))

-- a step that changes the thread's stage alone
restaged_sound : (h : Heap) (t : ℕ) (stage : Stage) → IsSound h → 0 < t → t < length h.rows
    → (row_at h t).hand ≡ hands.Free
    → (h.edition ≡ editions.One → (j : ℕ) → is_closed (row_at h t).stage j ≡ true → is_closed stage j ≡ true)
    → ((q : ℕ) → FIRST_MORTAL ≤ q → (cell_at h q).owner ≡ owners.Thread t → rests h.edition stage ≡ true
    → (cell_at h q).local ≡ 0)
    → ThreadFits h.edition (words_for (length h.cells)) (record (row_at h t) { stage = stage }) (frame_at h t)
    (popped_at h t) (worklist_at h t) (queue_at h t) (is_gathered h t)
    → IsSound (record h {
      rows = set h.rows t (record (row_at h t) { stage = stage });
      popped = set h.popped t (popped_at h t);
      queues = set h.queues t (queue_at h t);
    })
restaged_sound h t stage sound some inside free closes resting own =
    let n : New = record {
      cell = cell_at h 0;
      row = record (row_at h t) { stage = stage };
      frame = frame_at h t;
      popped = popped_at h t;
      worklist = worklist_at h t;
      entries = h.entries;
      queues = h.queues;
      past_allocs = h.past_allocs;
      past_frees = h.past_frees;
    } in
    let fits : Fits h t 0 n = record {
      thread = some;
      thread_inside = inside;
      cell_inside = omega (arith, sound.shaped.options.enough);
      marks = refl;
      lists = refl;
      words = refl;
      queues = refl;
      queue_words = λ s. refl;
      counted_here = not_mortal;
      counted_else = λ q _ _. refl;
      gripped_here = not_mortal;
      gripped_else = λ q _ _. refl;
      most_here = not_mortal;
      least_here = not_mortal;
      asks_else = λ q _ _. refl;
      offers_else = λ q _ _. refl;
      hand = λ p d e. let bad : hands.Free ≡ hands.Busy p d = sym free ∙ e in absurd (cc);
      hands_else = λ s p _ busy. not_mortal (sound.hands s 0 p busy).mortal;
      cell = not_mortal;
      immortal = sound.immortals 0;
      fewer = λ q _. same_entries _;
      works_here = sound.worklists t 0;
      works_own = λ q _ on. on;
      works_else = λ s _ on. sound.worklists s 0 on;
      closes = closes;
      resting = λ q. subst (λ cells. FIRST_MORTAL ≤ q → (get_or cells q no_cell).owner ≡ owners.Thread t
          → rests h.edition stage ≡ true → (get_or cells q no_cell).local ≡ 0) (sym (set-get_or h.cells 0 no_cell))
          (resting q);
      own = own;
      queues_else = λ s j ne closed. (sound.threads s).closed j closed;
      bits = same_bits h t 0 n sound (omega (arith, sound.shaped.options.enough)) (kept_bits h t sound inside)
          (inl refl);
      locks = same_locks h t 0 n sound inside (omega (arith, sound.shaped.options.enough))
          (record { mutex = refl; locked = refl; place = λ j _. refl });
      ledger = refl;
      past = sound.past.0;
    } in
    subst (λ cells. IsSound (record h {
      cells = cells;
      rows = set h.rows t n.row;
      popped = set h.popped t
          (popped_at h t);
      queues = set h.queues t (queue_at h t);
    })) (set-get_or h.cells 0 no_cell)
    (subst (λ frames. IsSound
    (record h {
      cells = set h.cells 0 (cell_at h 0);
      frames = frames;
      rows = set h.rows t n.row;
      popped = set h.popped t
          (popped_at h t);
      queues = set h.queues t (queue_at h t);
    })) (set-get_or h.frames t [])
    (subst (λ worklists. IsSound
    (record h {
      cells = set h.cells 0 (cell_at h 0);
      frames = set h.frames t (frame_at h t);
      worklists = worklists;
      rows = set h.rows t n.row;
      popped = set h.popped t (popped_at h t);
      queues = set h.queues t (queue_at h t);
    })) (set-get_or h.worklists t [])
    (subst (λ queues. IsSound (record h {
      cells = set h.cells 0 (cell_at h 0);
      frames = set h.frames t (frame_at h t);
      worklists = set h.worklists t (worklist_at h t);
      rows = set h.rows t n.row;
      popped = set h.popped t (popped_at h t);
      queues = queues;
    })) (sym (set-get_or h.queues t []))
    (changed_sound h t 0 n sound fits))))

pub drain_sound : (h : Heap) (t k : ℕ) → IsSound h → thread_may h t (Drain k) ≡ true
    → IsSound (kept_cells h t (Drain k))
drain_sound h t k sound ok =
    let may : May h t (Drain k) = may_parts h t (Drain k) ok in
    taken_sound h t k (row_at h t).stage sound (record {
      thread = may.some_thread;
      inside = may.inside;
      word = ltb-true _ _ may.own;
      free = free_hand _ may.hand;
      closes = λ _ j closed. closed;
      resting = λ q mortal owner rest. (sound.cells q mortal).rested t owner rest;
      own = active_fits _ _ (row_at h t) (row_at h t) (frame_at h t) (frame_at h t) _ (worklist_at h t)
          (worklist_at h t) _ _ (active_from _ (Drain k) may.stage refl refl refl) may.not_gathered refl
          (sound.threads t).locked_hand (sound.threads t).births (sound.threads t).places;
    })

-- ---- a word is closed

-- a frame without a filled place, marks without a mark
pub bare_places : (frame : List (Option ℕ)) → is_bare frame ≡ true → (k : ℕ) → place_at frame k ≡ None
bare_places frame bare k = elim (cases_lt k (length frame)) [
  | inr past ↦ get_or_past frame k None past
  | inl inside ↦ unfilled (place_at frame k)
      (omega (
        arith,
        eqb-true _ _ bare,
        get_or-le-sum_by (λ (x : Option ℕ). if filled x then 1 else 0) frame k
            None inside,
      ))
]
  where
    filled : Option ℕ → Bool
    filled None = false
    filled (Some c) = true

    unfilled : (x : Option ℕ) → (if filled x then 1 else 0) ≤ 0 → x ≡ None
    unfilled None none = refl
    unfilled (Some c) none = absurd (omega (arith, none))

pub no_marks : (marks : List Bool) → is_unmarked marks ≡ true → (q : ℕ) → is_marked marks q ≡ false
no_marks marks none q = elim (cases_lt q (length marks)) [
  | inr past ↦ get_or_past marks q false past
  | inl inside ↦ unset (is_marked marks q)
      (omega (arith, eqb-true _ _ none, get_or-le-sum_by (λ (b : Bool). if b then 1 else 0) marks q false inside))
]
  where
    unset : (b : Bool) → (if b then 1 else 0) ≤ 0 → b ≡ false
    unset true none = absurd (omega (arith, none))
    unset false none = refl

-- the next word joins those that are closed
more_closed : (words k : ℕ) (stage : Stage) → closes_next stage k ≡ true → (j : ℕ) → is_closed stage j ≡ true
    → is_closed (closed_more words k) j ≡ true
more_closed words k stages.Active next j closed = absurd (true≢false (sym closed))
more_closed words k (stages.Closing n) next j closed = elim (cases_eq (k + 1) words) [
  | inl last ↦ ap (λ b. let stage : Stage = if b then stages.Left else stages.Closing (k + 1) in is_closed stage j)
      (eq-eqb (k + 1) words last)
  | inr more ↦ ap (λ b. let stage : Stage = if b then stages.Left else stages.Closing (k + 1) in is_closed stage j)
      (ne_eqb (k + 1) words more) ∙ lt-ltb j (k + 1) (omega (arith, ltb-true _ _ closed, eqb-true _ _ next))
]
more_closed words k stages.Left next j closed = absurd (true≢false (sym next))
more_closed words k (stages.Opening n) next j closed = absurd (true≢false (sym next))

-- a closed word was closed before, or is this one, or stands past the last
now_closed : (words k : ℕ) (stage : Stage) → closes_next stage k ≡ true → (j : ℕ)
    → is_closed (closed_more words k) j ≡ true
    → (is_closed stage j ≡ true) ⊎ ((j ≡ k) ⊎ (words ≤ j))
now_closed words k stage next j closed = elim (cases_lt k j) [
  | inl above ↦ elim (cases_eq (k + 1) words) [
    | inl last ↦ inr (inr (omega (arith, above, last)))
    | inr more ↦ absurd (omega (
      arith,
      above,
      ltb-true j (k + 1)
          (sym (ap (λ b. let stage : Stage = if b then stages.Left else stages.Closing (k + 1) in is_closed stage j)
          (ne_eqb (k + 1) words more)) ∙ closed),
    ))
  ]
  | inr below ↦ elim (cases_eq j k) [
    | inl same ↦ inr (inl same)
    | inr other ↦ inl (by_stage stage (omega (arith, below, other)) next)
  ]
]
  where
    by_stage : (stage : Stage) → j < k → closes_next stage k ≡ true → is_closed stage j ≡ true
    by_stage stages.Active under next = absurd (omega (arith, under, eqb-true k 0 next))
    by_stage (stages.Closing n) under next = lt-ltb j n (omega (arith, under, eqb-true k n next))
    by_stage stages.Left under next = refl
    by_stage (stages.Opening n) under next = absurd (true≢false (sym next))

-- the thread isn't active any more, while words are left it is closing, and it isn't opening
more_stage : (words k : ℕ) → k < words
    → (is_active (closed_more words k) ≡ false) × ((n : ℕ) → closed_more words k ≡ stages.Closing n
    → (0 < n) × (n < words)) × ((n : ℕ) → closed_more words k ≢ stages.Opening n)
more_stage words k inside = elim (cases_eq (k + 1) words) [
  | inl last ↦
      let e : closed_more words k ≡ stages.Left = ap (λ b. if b then stages.Left else stages.Closing (k + 1))
      (eq-eqb (k + 1) words last) in (
        ap is_active e,
        λ n is. let bad : stages.Left ≡ stages.Closing n = sym e
            ∙ is in absurd (cc),
        λ n is. let bad : stages.Left ≡ stages.Opening n = sym e ∙ is in cc,
      )
  | inr more ↦
      let e : closed_more words k ≡ stages.Closing (k + 1) = ap (λ b. if b then stages.Left else stages.Closing (k + 1))
      (ne_eqb (k + 1) words more) in (
        ap is_active e,
        λ n is. let same : stages.Closing (k + 1) ≡ stages.Closing n = sym e ∙ is in let m : k + 1 ≡ n = cc in
            (omega (arith, m), omega (arith, m, inside, more)),
        λ n is. let bad : stages.Closing (k + 1) ≡ stages.Opening n = sym e ∙ is in cc,
      )
]

-- each object that the thread owns is on its worklist
owned_marked : (t : ℕ) (cells : List Cell) (worklist : List Bool) (n : ℕ) → owned_are_marked t cells worklist n ≡ true
    → (q : ℕ) → q < n → (get_or cells q no_cell).owner ≡ owners.Thread t
    → is_marked worklist q ≡ true
owned_marked t cells worklist zero ok q low owner = absurd (omega (arith, low))
owned_marked t cells worklist (suc n) ok q low owner =
    let parts = and_parts _ _ ok in
    elim (cases_eq q n) [
      | inl same ↦ ap (is_marked worklist) same ∙ second (not (is_owned_by t (get_or cells n no_cell).owner)) _
          (ap (λ o. not (is_owned_by t o)) (ap (λ i. (get_or cells i no_cell).owner) (sym same) ∙ owner)
          ∙ ap not (eq-eqb t t refl)) parts.1
      | inr other ↦ owned_marked t cells worklist n parts.0 q (omega (arith, low, other)) owner
    ]

-- so nothing is left on their local words
left_behind : (h : Heap) (t : ℕ) (e : Edition) → IsSound h → may_leave e t h.cells (worklist_at h t) ≡ true
    → e ≡ editions.Two
    → (q : ℕ) → FIRST_MORTAL ≤ q → (cell_at h q).owner ≡ owners.Thread t → (cell_at h q).local ≡ 0
left_behind h t editions.One sound ok is q mortal owner = absurd (cc)
left_behind h t editions.Two sound ok is q mortal owner =
    let inside : q < length h.cells = elim (cases_lt q (length h.cells)) [
      | inl low ↦ low
      | inr past ↦ absurd (let bad : owners.Free ≡ owners.Thread t =
          sym (ap (λ (x : Cell). x.owner) (get_or_past h.cells q no_cell past)) ∙ owner in cc)
    ] in
    let on : is_marked (worklist_at h t) q ≡ true = owned_marked t h.cells (worklist_at h t)
    (length h.cells) ok q inside owner in
    gripped_local h t q sound mortal owner
    (omega (arith, one-true _ on, sum_one (λ (marks : List Bool). one (is_marked marks q)) h.worklists t [] refl))

-- whether a thread rests at all says which edition it is
resting_two : (e : Edition) (stage : Stage) → rests e stage ≡ true → e ≡ editions.Two
resting_two editions.One stage rest = absurd (true≢false (sym rest))
resting_two editions.Two stage rest = refl

first_work : (e : Edition) (t : ℕ) (cells : List Cell) (worklist : List Bool) → e ≡ editions.One
    → may_leave e t cells worklist ≡ true → is_unmarked worklist ≡ true
first_work editions.One t cells worklist is ok = ok
first_work editions.Two t cells worklist is ok = absurd (cc)

pub close_sound : (h : Heap) (t k : ℕ) → IsSound h → thread_may h t (Close k) ≡ true
    → IsSound (kept_cells h t (Close k))
close_sound h t k sound ok =
    let may : May h t (Close k) = may_parts h t (Close k) ok in
    let a = and_parts _ _ may.own in
    let b = and_parts _ _ a.0 in
    let d = and_parts _ _ b.0 in
    let words : ℕ = words_for (length h.cells) in
    let inside : k < words = ltb-true _ _ d.0 in
    let next : closes_next (row_at h t).stage k ≡ true = d.1 in
    let places : (j : ℕ) → place_at (frame_at h t) j ≡ None = bare_places (frame_at h t) b.1 in
    let free : (row_at h t).hand ≡ hands.Free = free_hand _ may.hand in
    let unlocked : (row_at h t).locked ≡ None = no_lock _ (Close k) may.lock refl in
    let old : ThreadFits h.edition words (row_at h t) (frame_at h t) (popped_at h t) (worklist_at h t) (queue_at h t)
    (is_gathered h t) = sound.threads t in
    let stage = more_stage words k inside in
    let long : length (queue_at h t) ≡ words = sound.shaped.queue_words t may.some_thread may.inside in
    taken_sound h t k (closed_more words k) sound (record {
      thread = may.some_thread;
      inside = may.inside;
      word = inside;
      free = free;
      closes = λ _. more_closed words k (row_at h t).stage next;
      resting = λ q mortal owner rest. left_behind h t h.edition sound may.others
          (resting_two h.edition (closed_more words k) rest) q mortal owner;
      own = record {
        inactive_hand = λ _. ap is_active_hand free;
        inactive_frame = λ _. places;
        inactive_lock = λ _. unlocked;
        closing = λ n is. let bounds = stage.1 n is in (bounds.0, bounds.1, free);
        closing_work = λ n q first _. no_marks (worklist_at h t)
            (first_work h.edition t h.cells (worklist_at h t) first may.others) q;
        opening = λ n is. absurd (stage.2 n is);
        opening_rest = λ n q is. absurd (stage.2 n is);
        closed = λ j closed. elim (cases_eq j k) [
          | inl same ↦ ap (λ i. word_at (without_drained (Some k) (queue_at h t)) i) same
              ∙ get_or-set_same (queue_at h t) k 0 0 (omega (arith, inside, long))
          | inr other ↦ get_or-set_other (queue_at h t) k j 0 0 other
              ∙ elim (now_closed words k (row_at h t).stage next j closed) [
                | inl before ↦ old.closed j before
                | inr more ↦ elim more [
                  | inl same ↦ absurd (other same)
                  | inr past ↦ get_or_past (queue_at h t) j 0 (omega (arith, past, long))
                ]
              ]
        ];
        gathered_left = λ g. absurd (true≢false (sym g ∙ may.not_gathered));
        gathered_hand = λ g. absurd (true≢false (sym g ∙ may.not_gathered));
        gathered_work = λ g. absurd (true≢false (sym g ∙ may.not_gathered));
        locked_hand = λ _ _. free;
        births = old.births;
        places = old.places;
      };
    })

-- ---- a word is opened again

-- only a thread that opens has a next word to open
opening_now : (stage : Stage) (k : ℕ) → opens_next stage k ≡ true → stage ≡ stages.Opening k
opening_now stages.Active k next = absurd (true≢false (sym next))
opening_now (stages.Closing n) k next = absurd (true≢false (sym next))
opening_now stages.Left k next = absurd (true≢false (sym next))
opening_now (stages.Opening n) k next = ap stages.Opening (sym (eqb-true k n next))

never_reopens : (e : Edition) (row : Row) (k : ℕ) → edition_ok e row (Reopen k) ≡ true → e ≡ editions.One → ⊥
never_reopens editions.One row k ok is = true≢false (sym ok)
never_reopens editions.Two row k ok is = cc

-- the stage afterwards
opened_stage : (words k : ℕ) → k < words
    → (opened_more words k ≡ stages.Active) ⊎ ((opened_more words k ≡ stages.Opening (k + 1)) × (k + 1 < words))
opened_stage words k inside = elim (cases_eq (k + 1) words) [
  | inl last ↦ inl (ap (λ b. if b then stages.Active else stages.Opening (k + 1)) (eq-eqb (k + 1) words last))
  | inr more ↦ inr (
    ap (λ b. if b then stages.Active else stages.Opening (k + 1)) (ne_eqb (k + 1) words more),
    omega (arith, inside, more),
  )
]

pub reopen_sound : (h : Heap) (t k : ℕ) → IsSound h → thread_may h t (Reopen k) ≡ true
    → IsSound (kept_cells h t (Reopen k))
reopen_sound h t k sound ok =
    let may : May h t (Reopen k) = may_parts h t (Reopen k) ok in
    let a = and_parts _ _ may.own in
    let words : ℕ = words_for (length h.cells) in
    let inside : k < words = ltb-true _ _ a.0 in
    let now : (row_at h t).stage ≡ stages.Opening k = opening_now _ k a.1 in
    let free : (row_at h t).hand ≡ hands.Free = free_hand _ may.hand in
    let unlocked : (row_at h t).locked ≡ None = no_lock _ (Reopen k) may.lock refl in
    let old : ThreadFits h.edition words (row_at h t) (frame_at h t) (popped_at h t) (worklist_at h t) (queue_at h t)
    (is_gathered h t) = sound.threads t in
    let off : is_active (row_at h t).stage ≡ false = ap is_active now in
    let r : Row = record (row_at h t) { stage = opened_more words k } in
    let empty : word_at (queue_at h t) k ≡ 0 = old.closed k (ap (λ stage. is_closed stage k) now
    ∙ le-leb k k (omega arith)) in
    let own : ThreadFits h.edition words r (frame_at h t) (popped_at h t) (worklist_at h t) (queue_at h t)
    (is_gathered h t) = elim (opened_stage words k inside) [
      | inl active ↦ active_fits h.edition words (record (row_at h t) { stage = stages.Active }) r (frame_at h t)
          (frame_at h t) (popped_at h t) (worklist_at h t) (worklist_at h t) (queue_at h t) (is_gathered h t)
          refl may.not_gathered active (λ j e. let bad : None ≡ Some j = sym unlocked ∙ e in absurd (cc)) old.births
          old.places
      | inr still ↦ record {
        inactive_hand = λ _. ap is_active_hand free;
        inactive_frame = λ _. old.inactive_frame off;
        inactive_lock = λ _. unlocked;
        closing = λ n is. let bad : stages.Opening (k + 1) ≡ stages.Closing n = sym still.0 ∙ is in absurd (cc);
        closing_work = λ n q _ is. let bad : stages.Opening (k + 1) ≡ stages.Closing n = sym still.0
            ∙ is in absurd (cc);
        opening = λ n is. let same : stages.Opening (k + 1) ≡ stages.Opening n = sym still.0 ∙ is in let m : k + 1 ≡ n =
            cc in (omega (arith, m, still.1), free);
        opening_rest = λ n q _. old.opening_rest k q now;
        closed = λ j closed. old.closed j (ap (λ stage. is_closed stage j) now
            ∙ le-leb k j (omega (arith, leb-true (k + 1) j (sym (ap (λ stage. is_closed stage j) still.0) ∙ closed))));
        gathered_left = λ g. absurd (true≢false (sym g ∙ may.not_gathered));
        gathered_hand = λ g. absurd (true≢false (sym g ∙ may.not_gathered));
        gathered_work = λ g. absurd (true≢false (sym g ∙ may.not_gathered));
        locked_hand = λ _ _. free;
        births = old.births;
        places = old.places;
      }
    ] in
    restaged_sound h t (opened_more words k) sound may.some_thread may.inside free
    (λ first. absurd (never_reopens h.edition (row_at h t) k may.edition first))
    (λ q mortal owner _. (sound.cells q mortal).rested t owner (ap (rests h.edition) now
    ∙ opens_in_two h.edition (row_at h t) k may.edition)) own
  where
    opens_in_two : (e : Edition) (row : Row) (k : ℕ) → edition_ok e row (Reopen k) ≡ true
        → rests e (stages.Opening k) ≡ true
    opens_in_two editions.One row k ok = absurd (true≢false (sym ok))
    opens_in_two editions.Two row k ok = refl
