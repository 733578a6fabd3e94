-- One more thread: empty lists are appended, and nothing else changes.
use Rattle.std.proofs.Common.{◌≡◌, ◌≢◌, ℕ, ◌+◌, ◌/◌, ◌%◌, ◌<◌, ◌≤◌, Bool, true, false, pos, List, [], ◌∷◌, ◌++◌, length}
use Rattle.std.proofs.Common.{get_or, replicate, Some, None, refl, sym, ◌∙◌, ap, subst, inl, inr, arith, length-append}
use Rattle.std.proofs.Common.{◌*◌, sum_by}
use Rattle.std.proofs.lemmas.List.{get_or_append_left, get_or_past, get_or_push, get_or-replicate, length-replicate}
use Rattle.std.proofs.lemmas.List.Sums.{sum_by_push}
use Rattle.std.proofs.lemmas.Bool.{cases_eq, cases_lt, cases_Bool, true≢false}
use Rattle.std.proofs.lemmas.Nat.Bits.{bit_at-zero}
use Rattle.std.specs.Int.{bit_at}
use Rattle.brc_words.specs.declared.limits.TheConstants.{FIRST_MORTAL, MOST_THREADS, MOST_REGISTRATIONS, MOST_BIRTHS}
use Rattle.law.specs.declared.world.edition.Edition.{Edition}
use Rattle.law.specs.declared.world.edition.Edition.TheVariants as editions
use Rattle.brc_words.specs.declared.owner.Owner.TheVariants as owners
use Rattle.law.specs.declared.world.cell.Cell.{Cell}
use Rattle.law.specs.declared.world.row.Row.{Row}
use Rattle.law.specs.declared.world.row.Hand.TheVariants as hands
use Rattle.law.specs.declared.world.row.Phase.{Phase}
use Rattle.law.specs.declared.world.row.Phase.TheVariants as phases
use Rattle.law.specs.world.Lists.{one, times, bit_of, is_marked, place_at}
use Rattle.law.specs.world.Heap.{Heap, cell_at, entries_at, row_at, frame_at, popped_at, worklist_at, queue_at}
use Rattle.law.specs.world.Heap.{is_gathered, no_row, new_row, words_for, no_cell}
use Rattle.law.specs.world.Steps.{registered, is_closed}
use Rattle.law.specs.world.Holding.{lives, carries}
use Rattle.law.specs.world.Sound.{IsSound, IsShaped, CellFits, ThreadFits, PhaseFits, HandFits, WorklistFits, Locks}
use Rattle.law.specs.world.Sound.{grips, gripped, held, asks, rests, rests_at, offered, offering}
use Rattle.law.proofs.world.Naming.{dead_unheld, Unheld, busy_carrier}
use Rattle.law.proofs.world.Changes.{other_bearer}
use Rattle.law.proofs.world.Birthing.{active_fits}

pub push_else : {A : Type 0} (xs : List A) (v d : A) (j : ℕ) → j ≢ length xs → get_or (xs ++ v ∷ []) j d ≡ get_or xs j d
push_else {A} xs v d j other =
    elim (cases_lt j (length xs)) [
      | inl low ↦ get_or_append_left xs (v ∷ []) d j low
      | inr high ↦
          get_or_past (xs ++ v ∷ []) j d (omega (arith, length-append xs (v ∷ []), high, other))
          ∙ sym (get_or_past xs j d high)
    ]

-- what holds of the new value at the end and of all that was read before holds everywhere
pub read_push : {A : Type 0} (P : ℕ → A → Type 0) (xs : List A) (v d : A) → P (length xs) v
    → ((j : ℕ) → j ≢ length xs → P j (get_or xs j d)) → (j : ℕ) → P j (get_or (xs ++ v ∷ []) j d)
read_push {A} P xs v d here there j =
    elim (cases_eq j (length xs)) [
      | inl same ↦ subst (λ k. P k (get_or (xs ++ v ∷ []) k d)) (sym same)
          (subst (P (length xs)) (sym (get_or_push xs v d (length xs) refl)) here)
      | inr other ↦ subst (P j) (sym (push_else xs v d j other)) (there j other)
    ]

pub length-push : {A : Type 0} (xs : List A) (v : A) → length (xs ++ v ∷ []) ≡ length xs + 1
length-push xs v = length-append xs (v ∷ [])

-- new words and marks have nothing
pub new_word : (n i : ℕ) → ◌≡◌ {A = ℕ} (get_or (replicate n 0) i 0) 0
new_word n i = elim (cases_lt i n) [
  | inl low ↦ get_or-replicate n i 0 0 low
  | inr high ↦ get_or_past (replicate n 0) i 0 (subst (λ m. m ≤ i) (sym (length-replicate n 0)) high)
]

pub new_bit : (n q : ℕ) → bit_of (replicate n 0) q ≡ 0
new_bit n q = ap (λ w. bit_at w (q % 32)) (new_word n (q / 32)) ∙ bit_at-zero (q % 32)

pub new_mark : (n q : ℕ) → is_marked (replicate n false) q ≡ false
new_mark n q = elim (cases_lt q n) [
  | inl low ↦ get_or-replicate n q false false low
  | inr high ↦ get_or_past (replicate n false) q false (subst (λ m. m ≤ q) (sym (length-replicate n false)) high)
]

-- ---- clause by clause

module _ (h : Heap) (sound : IsSound h) where
  abbrev h' : Heap
  h' = registered h

  one_more : length h'.rows ≡ length h.rows + 1
  one_more = length-push h.rows new_row

  shape : length h.rows ≤ MOST_THREADS → IsShaped h'
  shape room =
      let n : ℕ = length h.cells in
      record {
        options = sound.shaped.options;
        entries = sound.shaped.entries;
        root = omega (arith, one_more);
        threads = omega (arith, one_more, room);
        frames = length-push h.frames [] ∙ ap (λ m. m + 1) sound.shaped.frames ∙ sym (one_more);
        popped = length-push h.popped _ ∙ ap (λ m. m + 1) sound.shaped.popped ∙ sym (one_more);
        worklists = length-push h.worklists _ ∙ ap (λ m. m + 1) sound.shaped.worklists ∙ sym (one_more);
        queues = length-push h.queues _ ∙ ap (λ m. m + 1) sound.shaped.queues ∙ sym (one_more);
        notify_words = length-push h.notify_words 0 ∙ ap (λ m. m + 1) sound.shaped.notify_words ∙ sym (one_more);
        gathered = length-push h.gathered false ∙ ap (λ m. m + 1) sound.shaped.gathered ∙ sym (one_more);
        marks = λ s low high. read_push (λ j (marks : List Bool). 0 < j → j < length h.rows + 1 → length marks ≡ n)
            h.worklists (replicate n false) []
            (λ _ _. length-replicate n false)
            (λ j other a b. sound.shaped.marks j a (omega (arith, sound.shaped.worklists, other, b))) s low
            (subst (λ m. s < m) (one_more) high);
        popped_words = λ s low high. read_push (λ j (words : List ℕ). 0 < j → j < length h.rows + 1
            → length words ≡ words_for n) h.popped (replicate (words_for n) 0) []
            (λ _ _. length-replicate (words_for n) 0)
            (λ j other a b. sound.shaped.popped_words j a (omega (arith, sound.shaped.popped, other, b))) s low
            (subst (λ m. s < m) (one_more) high);
        queue_words = λ s low high. read_push (λ j (words : List ℕ). 0 < j → j < length h.rows + 1
            → length words ≡ words_for n) h.queues (replicate (words_for n) 0) []
            (λ _ _. length-replicate (words_for n) 0)
            (λ j other a b. sound.shaped.queue_words j a (omega (arith, sound.shaped.queues, other, b))) s low
            (subst (λ m. s < m) (one_more) high);
      }

  -- the new thread adds nothing to any sum
  same_held : (q : ℕ) → held h' q ≡ held h q
  same_held q =
      let n : ℕ = words_for (length h.cells) in
      omega (
        arith,
        sum_by_push (times q) h.frames [],
        sum_by_push (λ (words : List ℕ). bit_of words q) h.popped (replicate n 0),
        sum_by_push (λ (words : List ℕ). bit_of words q) h.queues (replicate n 0),
        sum_by_push (λ (row : Row). one (carries q row.hand)) h.rows new_row,
        new_bit n q,
      )

  same_asks : (q : ℕ) → asks h' q ≡ asks h q
  same_asks q =
      let n : ℕ = words_for (length h.cells) in
      omega (
        arith,
        sum_by_push (λ (words : List ℕ). bit_of words q) h.popped (replicate n 0),
        sum_by_push (λ (words : List ℕ). bit_of words q) h.queues (replicate n 0),
        sum_by_push (λ (row : Row). one (carries q row.hand)) h.rows new_row,
        new_bit n q,
      )

  same_gripped : (q : ℕ) → gripped h' q ≡ gripped h q
  same_gripped q =
      omega (
        arith,
        sum_by_push (λ (marks : List Bool). one (is_marked marks q)) h.worklists (replicate (length h.cells) false),
        sum_by_push (λ (row : Row). one (grips q row.hand)) h.rows new_row,
        ap one (new_mark (length h.cells) q),
      )

  -- the bearer of an object that a hand refers to is registered
  same_offered : (q : ℕ) → offered h' q ≡ offered h q
  same_offered q = omega (arith, sum_by_push (λ (row : Row). one (offering q row.hand)) h.rows new_row)

  shut_bearer : (s d : ℕ) → (row_at h s).hand ≡ hands.Busy phases.Shut d → FIRST_MORTAL ≤ d
      → (cell_at h d).bearer ≢ length h.rows
  shut_bearer s d busy mortal e =
      elim (cases_Bool (lives (cell_at h d).owner)) [
        | inl live ↦ omega (arith, ((sound.cells d mortal).born live).1, e)
        | inr dead ↦
            let none : Unheld h d = dead_unheld h d sound mortal dead in
            omega (arith, none.hands s, busy_carrier phases.Shut d (row_at h s).hand refl busy)
      ]

  hands_fit : (s d : ℕ) (p : Phase) → (row_at h' s).hand ≡ hands.Busy p d → HandFits h' s p d
  hands_fit s d p busy =
      let bearer : (j : ℕ) → (row_at h j).hand ≡ hands.Busy p d → p ≡ phases.Shut
      → (row_at h (cell_at h d).bearer).stage ≡ (row_at h' (cell_at h d).bearer).stage =
      λ j at_d shut. ap (λ (row : Row). row.stage) (sym (push_else h.rows new_row no_row (cell_at h d).bearer
      (shut_bearer j d (at_d ∙ ap (λ z. hands.Busy z d) shut) (sound.hands j d p at_d).mortal))) in
      let old : (j : ℕ) → j ≢ length h.rows → (row_at h j).hand ≡ hands.Busy p d
      → (FIRST_MORTAL ≤ d) × PhaseFits h.edition j (row_at h j) (popped_at h' j) (cell_at h d)
      (row_at h' (cell_at h d).bearer).stage d p =
      λ j other at_d.
      let fits : HandFits h j p d = sound.hands j d p at_d in (
        fits.mortal,
        other_bearer h.edition j (row_at h j) (popped_at h' j) (cell_at h d) (row_at h (cell_at h d).bearer).stage
            (row_at h' (cell_at h d).bearer).stage d p (λ shut _ closed. subst (λ g. is_closed g (d / 32) ≡ true)
            (bearer j at_d shut) closed)
            (subst (λ popped. PhaseFits h.edition j (row_at h j) popped (cell_at h d)
            (row_at h (cell_at h d).bearer).stage d p)
            (sym (push_else h.popped _ [] j (λ e. other (e ∙ sound.shaped.popped)))) fits.fits),
      ) in
      let said : (FIRST_MORTAL ≤ d) × PhaseFits h.edition s (row_at h' s) (popped_at h' s) (cell_at h d)
      (row_at h' (cell_at h d).bearer).stage d p =
      read_push (λ j (row : Row). row.hand ≡ hands.Busy p d → (FIRST_MORTAL ≤ d) × PhaseFits h.edition j row
      (popped_at h' j) (cell_at h d) (row_at h' (cell_at h d).bearer).stage d p) h.rows new_row no_row
      (λ bad. absurd (let e : hands.Free ≡ hands.Busy p d = bad in cc)) old s busy in
      record { mortal = said.0; fits = said.1 }

  -- the new thread doesn't rest
  new_works : (e : Edition) → rests e new_row.stage ≡ false
  new_works editions.One = refl
  new_works editions.Two = refl

  rested_else : {x : Cell} {entries : List ℕ} → CellFits (length h.rows) h.limit (rests_at h) x entries → (s : ℕ)
      → x.owner ≡ owners.Thread s → rests_at h' s ≡ true → x.local ≡ 0
  rested_else {x} {entries} fits s owner =
      read_push (λ j (row : Row). x.owner ≡ owners.Thread j → rests h.edition row.stage ≡ true → x.local ≡ 0) h.rows
      new_row no_row
      (λ _ rest. absurd (true≢false (sym rest ∙ new_works h.edition)))
      (λ j _ e rest. fits.rested j e rest) s owner

  cells_fit : (q : ℕ) → FIRST_MORTAL ≤ q → CellFits (length h'.rows) h.limit (rests_at h') (cell_at h q)
      (entries_at h q)
  cells_fit q mortal =
      let fits : CellFits (length h.rows) h.limit (rests_at h) (cell_at h q) (entries_at h q) = sound.cells q mortal in
      record {
        default = fits.default;
        owned_unmerged = fits.owned_unmerged;
        owned_by_bearer = fits.owned_by_bearer;
        rested = λ s owner. rested_else fits s owner;
        dead_empty = fits.dead_empty;
        dead_count = fits.dead_count;
        born = λ live. ((fits.born live).0, omega (arith, (fits.born live).1, one_more));
        limited = fits.limited;
        plain = fits.plain;
        few = fits.few;
      }

  threads_fit : (s : ℕ)
      → ThreadFits h.edition (words_for (length h.cells)) (row_at h' s) (frame_at h' s) (popped_at h' s)
      (worklist_at h' s) (queue_at h' s) (is_gathered h' s)
  threads_fit s =
      let n : ℕ = words_for (length h.cells) in
      let m : ℕ = length h.cells in
      elim (cases_eq s (length h.rows)) [
        | inl same ↦
            let at_frames : s ≡ length h.frames = same ∙ sym sound.shaped.frames in
            let at_popped : s ≡ length h.popped = same ∙ sym sound.shaped.popped in
            let at_works : s ≡ length h.worklists = same ∙ sym sound.shaped.worklists in
            let at_queues : s ≡ length h.queues = same ∙ sym sound.shaped.queues in
            let at_gathered : s ≡ length h.gathered = same ∙ sym sound.shaped.gathered in
            subst (λ row. ThreadFits h.edition n row (frame_at h' s) (popped_at h' s) (worklist_at h' s) (queue_at h' s)
            (is_gathered h' s)) (sym (get_or_push h.rows new_row no_row s (sym same)))
            (subst (λ frame. ThreadFits h.edition n new_row frame (popped_at h' s) (worklist_at h' s) (queue_at h' s)
            (is_gathered h' s)) (sym (get_or_push h.frames [] [] s (sym at_frames)))
            (active_fits h.edition n new_row new_row [] [] (popped_at h' s) (worklist_at h' s) (worklist_at h' s)
            (queue_at h' s) (is_gathered h' s) refl
            (get_or_push h.gathered false false s (sym at_gathered)) refl (λ k _. refl) (omega arith) (omega arith)))
        | inr other ↦
            let not_frames : s ≢ length h.frames = λ e. other (e ∙ sound.shaped.frames) in
            let not_popped : s ≢ length h.popped = λ e. other (e ∙ sound.shaped.popped) in
            let not_works : s ≢ length h.worklists = λ e. other (e ∙ sound.shaped.worklists) in
            let not_queues : s ≢ length h.queues = λ e. other (e ∙ sound.shaped.queues) in
            let not_gathered : s ≢ length h.gathered = λ e. other (e ∙ sound.shaped.gathered) in
            subst (λ row. ThreadFits h.edition n row (frame_at h' s) (popped_at h' s) (worklist_at h' s) (queue_at h' s)
            (is_gathered h' s)) (sym (push_else h.rows new_row no_row s other))
            (subst (λ frame. ThreadFits h.edition n (row_at h s) frame (popped_at h' s) (worklist_at h' s)
            (queue_at h' s) (is_gathered h' s)) (sym (push_else h.frames [] [] s not_frames))
            (subst (λ popped. ThreadFits h.edition n (row_at h s) (frame_at h s) popped (worklist_at h' s)
            (queue_at h' s) (is_gathered h' s)) (sym (push_else h.popped _ [] s not_popped))
            (subst (λ worklist. ThreadFits h.edition n (row_at h s) (frame_at h s) (popped_at h s) worklist
            (queue_at h' s) (is_gathered h' s)) (sym (push_else h.worklists _ [] s not_works))
            (subst (λ queue. ThreadFits h.edition n (row_at h s) (frame_at h s) (popped_at h s) (worklist_at h s) queue
            (is_gathered h' s)) (sym (push_else h.queues _ [] s not_queues))
            (subst (λ gathered. ThreadFits h.edition n (row_at h s) (frame_at h s) (popped_at h s) (worklist_at h s)
            (queue_at h s) gathered) (sym (push_else h.gathered false false s not_gathered))
            (sound.threads s))))))
      ]

  works_fit : (s q : ℕ) → is_marked (worklist_at h' s) q ≡ true → WorklistFits s q (cell_at h q)
  works_fit s q = read_push (λ j (marks : List Bool). is_marked marks q ≡ true → WorklistFits j q (cell_at h q))
      h.worklists (replicate (length h.cells) false) []
      (λ on. absurd (true≢false (sym on ∙ new_mark (length h.cells) q))) (λ j _ on. sound.worklists j q on) s

  bits_fit : (s q : ℕ) → 0 < bit_of (queue_at h' s) q + bit_of (popped_at h' s) q
      → (FIRST_MORTAL ≤ q) × ((cell_at h q).bearer ≡ s)
  bits_fit s q some =
      let n : ℕ = words_for (length h.cells) in
      elim (cases_eq s (length h.rows)) [
        | inl same ↦ absurd (omega (
          arith,
          some,
          new_bit n q,
          ap (λ words. bit_of words q) (get_or_push h.queues (replicate n 0) [] s (sound.shaped.queues ∙ sym same)),
          ap (λ words. bit_of words q) (get_or_push h.popped (replicate n 0) [] s (sound.shaped.popped ∙ sym same)),
        ))
        | inr other ↦ sound.bits s q (omega (
          arith,
          some,
          ap (λ words. bit_of words q) (push_else h.queues (replicate n 0) [] s (λ e. other (e ∙ sound.shaped.queues))),
          ap (λ words. bit_of words q) (push_else h.popped (replicate n 0) [] s (λ e. other (e ∙ sound.shaped.popped))),
        ))
      ]

  -- a lock of a thread that was there
  old_lock : (s k q : ℕ) → s ≢ length h.rows → Locks h s k q → Locks h' s k q
  old_lock s k q other lock = record {
    thread = lock.thread;
    place = ap (λ (row : Row). row.locked) (push_else h.rows new_row no_row s other) ∙ lock.place;
    names = ap (λ frame. place_at frame k) (push_else h.frames [] [] s (λ e. other (e ∙ sound.shaped.frames)))
        ∙ lock.names;
  }

  locks_fit : (s k : ℕ) → (row_at h' s).locked ≡ Some k → (q : ℕ) × Locks h' s k q × ((cell_at h q).mutex ≡ s)
  locks_fit s k locked =
      elim (cases_eq s (length h.rows)) [
        | inl same ↦ absurd (let e : None ≡ Some k =
            sym (ap (λ (row : Row). row.locked) (get_or_push h.rows new_row no_row s (sym same))) ∙ locked in cc)
        | inr other ↦
            let old : (q : ℕ) × Locks h s k q × ((cell_at h q).mutex ≡ s) =
            sound.locks s k (sym (ap (λ (row : Row). row.locked) (push_else h.rows new_row no_row s other)) ∙ locked) in
            (old.0, old_lock s k old.0 other old.1, old.2)
      ]

  mutexes_fit : (s q : ℕ) → 0 < s → (cell_at h q).mutex ≡ s → (k : ℕ) × Locks h' s k q
  mutexes_fit s q some mutex =
      let old : (k : ℕ) × Locks h s k q = sound.mutexes s q some mutex in (
        old.0,
        old_lock s old.0 q (λ same.
            let e : None ≡ Some old.0 =
            sym (ap (λ (row : Row). row.locked) (get_or_past h.rows s no_row (omega (arith, same))))
            ∙ old.1.place in absurd (cc)) old.1,
      )

  pub registered_sound : length h.rows ≤ MOST_THREADS → h.registrations < MOST_REGISTRATIONS → IsSound h'
  registered_sound room few = record {
    shaped = shape room;
    counted = λ q mortal. sound.counted q mortal ∙ ap pos (sym (same_held q));
    gripped = λ q mortal. same_gripped q ∙ sound.gripped q mortal;
    most = λ q mortal. omega (arith, sound.most q mortal, same_asks q);
    least = λ q mortal. omega (arith, sound.least q mortal, same_asks q, same_offered q);
    hands = hands_fit;
    cells = cells_fit;
    immortals = sound.immortals;
    worklists = works_fit;
    threads = threads_fit;
    bits = bits_fit;
    locks = locks_fit;
    mutexes = mutexes_fit;
    ledger = omega (
      arith,
      sound.ledger,
      sum_by_push (λ (row : Row). row.allocs) h.rows new_row,
      sum_by_push (λ (row : Row). row.frees) h.rows new_row,
    );
    past = (omega (arith, sound.past.0), omega (arith, few));
    first = λ one. omega (arith, sound.first one, one_more);
  }
