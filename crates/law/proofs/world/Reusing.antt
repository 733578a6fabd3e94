-- A number is registered: the next one, or one that was gathered, whose ledger joins the past.
use Rattle.std.proofs.Common.{◌≡◌, ◌≢◌, ℕ, ◌+◌, ◌*◌, ◌<◌, ◌≤◌, ◌==◌, ◌&&◌, nat_lt, nat_le, Bool, true, false}
use Rattle.std.proofs.Common.{if◌then◌else◌, pos, List, [], ◌∷◌, zero, suc, length, get_or, set, replicate, Some, None}
use Rattle.std.proofs.Common.{sum_by, refl, sym, ◌∙◌, ap, subst, inl, inr, ◌⊎◌, arith, Option, ◌/◌, ◌%◌}
use Rattle.std.proofs.lemmas.List.{length-set, set-get_or, get_or_past, length-replicate}
use Rattle.std.proofs.lemmas.List.Sums.{sum_by-set}
use Rattle.std.proofs.lemmas.Bool.{cases_eq, cases_lt, cases_Bool, and_parts, eqb-true, leb-true, ltb-true, lt-ltb}
use Rattle.std.proofs.lemmas.Bool.{le-ltb, true≢false, ltb-false}
use Rattle.std.proofs.lemmas.Int.{ints}
use Rattle.std.proofs.lemmas.Nat.Bits.{bit_at-zero}
use Rattle.std.specs.Int.{bit_at}
use Rattle.brc_words.specs.declared.limits.TheConstants.{FIRST_MORTAL, MOST_THREADS, MOST_REGISTRATIONS, MOST_BIRTHS}
use Rattle.brc_words.specs.declared.owner.Owner.TheVariants as owners
use Rattle.law.specs.declared.world.edition.Edition.{Edition}
use Rattle.law.specs.declared.world.edition.Edition.TheVariants as editions
use Rattle.law.specs.declared.world.cell.Cell.{Cell}
use Rattle.law.specs.declared.world.event.Step.TheVariants.{Register}
use Rattle.law.specs.declared.world.row.Row.{Row}
use Rattle.law.specs.declared.world.row.Hand.TheVariants as hands
use Rattle.law.specs.declared.world.row.Stage.TheVariants as stages
use Rattle.law.specs.world.Lists.{one, times, bit_of, is_marked, place_at, word_at, names}
use Rattle.law.specs.world.Heap.{Heap, cell_at, entries_at, row_at, frame_at, popped_at, worklist_at, queue_at}
use Rattle.law.specs.world.Heap.{is_gathered, no_cell, no_row, again_row, words_for}
use Rattle.law.specs.world.Steps.{root_may, root_after, number_ok, first_gathered, registered, registered_again}
use Rattle.law.specs.world.Steps.{is_closed, is_active}
use Rattle.law.specs.world.Holding.{carries}
use Rattle.law.specs.world.Sound.{IsSound, ThreadFits, rests, grips, offering, in_queues}
use Rattle.law.proofs.world.Naming.{no_bit, carries_free, grips_free, offers_free, one-true, sum_one}
use Rattle.law.proofs.world.Counting.{sum_none}
use Rattle.law.proofs.world.Merging.{gripped_local}
use Rattle.law.proofs.world.Changes.{New, Fits, changed_sound, same_entries, same_locks, same_bits, read_by, read_here}
use Rattle.law.proofs.world.Changes.{read_there}
use Rattle.law.proofs.world.Registering.{registered_sound, new_bit, new_mark, new_word}
use Rattle.law.proofs.world.Resting.{aside_sound}

-- ---- which number

-- the first that is gathered, or none is
first_is : (xs : List Bool)
    → (first_gathered xs ≡ length xs) ⊎ ((first_gathered xs < length xs) × (get_or xs (first_gathered xs) false ≡ true))
first_is [] = inl refl
first_is (true ∷ xs) = inr (omega arith, refl)
first_is (false ∷ xs) = elim (first_is xs) [
  | inl none ↦ inl (ap suc none)
  | inr found ↦ inr (omega (arith, found.0), found.1)
]

-- a number that is in the list is a gathered one's
again_gathered : (xs : List Bool) (u : ℕ) → u ≡ first_gathered xs → u < length xs → get_or xs u false ≡ true
again_gathered xs u is inside = elim (first_is xs) [
  | inl none ↦ absurd (omega (arith, is, none, inside))
  | inr found ↦ ap (λ i. get_or xs i false) is ∙ found.1
]

new_last : (xs : List Bool) → first_gathered xs ≤ length xs
new_last xs = elim (first_is xs) [ inl none ↦ omega (arith, none) | inr found ↦ omega (arith, found.0) ]

-- ---- a number is used again

times_none : (q : ℕ) (frame : List (Option ℕ)) → ((k : ℕ) → place_at frame k ≡ None) → times q frame ≡ 0
times_none q frame none = sum_none (λ x. one (names q x)) frame None (λ k. ap (λ x. one (names q x)) (none k))

abbrev again : Heap → ℕ → New
again h u = record {
  cell = cell_at h 0;
  row = again_row;
  frame = [];
  popped = replicate (words_for (length h.cells)) 0;
  worklist = replicate (length h.cells) false;
  entries = h.entries;
  queues = set h.queues u (replicate (words_for (length h.cells)) 0);
  past_allocs = h.past_allocs + (row_at h u).allocs;
  past_frees = h.past_frees + (row_at h u).frees;
}

not_mortal : {A : Type 0} → FIRST_MORTAL ≤ 0 → A
not_mortal high = absurd (omega (arith, high))

-- the number's thread has been gathered, and one more registration is counted
record Again (h : Heap) (u : ℕ) : Type 0 where
  thread : 0 < u
  inside : u < length h.rows
  two : h.edition ≡ editions.Two
  left : (row_at h u).stage ≡ stages.Left
  free : (row_at h u).hand ≡ hands.Free
  frame : (k : ℕ) → place_at (frame_at h u) k ≡ None
  unlocked : (row_at h u).locked ≡ None
  work : (q : ℕ) → (is_marked (worklist_at h u) q ≡ false) × (bit_of (popped_at h u) q ≡ 0)
  here : is_gathered h u ≡ false
  counted : h.past_allocs + (row_at h u).allocs ≤ h.registrations * MOST_BIRTHS

again_fits : (h : Heap) (u : ℕ) → IsSound h → Again h u → Fits h u 0 (again h u)
again_fits h u sound a =
    let words : ℕ = words_for (length h.cells) in
    let blank : List ℕ = replicate words 0 in
    let old : ThreadFits h.edition words (row_at h u) (frame_at h u) (popped_at h u) (worklist_at h u) (queue_at h u)
    (is_gathered h u) = sound.threads u in
    let at_queues : u < length h.queues = omega (arith, sound.shaped.queues, a.inside) in
    let at_popped : u < length h.popped = omega (arith, sound.shaped.popped, a.inside) in
    let empty : (k : ℕ) → word_at (queue_at h u) k ≡ 0 = λ k. old.closed k (ap (λ stage. is_closed stage k) a.left) in
    let no_queue : (q : ℕ) → bit_of (queue_at h u) q ≡ 0 = λ q. ap (λ w. bit_at w (q % 32)) (empty (q / 32))
    ∙ bit_at-zero (q % 32) in
    let sum : (q : ℕ) → sum_by (λ (ws : List ℕ). bit_of ws q) (set h.queues u blank) ≡ in_queues h q = λ q.
    omega (
      arith,
      sum_by-set (λ (ws : List ℕ). bit_of ws q) h.queues u blank [] at_queues,
      no_queue q,
      new_bit words q,
    ) in
    let closed_else : (s k : ℕ) → is_closed (row_at h s).stage k ≡ true → word_at (get_or (set h.queues u blank) s []) k
    ≡ 0 = λ s k closed.
    read_by (λ j (ws : List ℕ). is_closed (row_at h j).stage k ≡ true → word_at ws k ≡ 0) h.queues u blank [] at_queues
    (λ _. new_word words k) (λ j _ closed. (sound.threads j).closed k closed) s closed in
    record {
      thread = a.thread;
      thread_inside = a.inside;
      cell_inside = omega (arith, sound.shaped.options.enough);
      marks = length-replicate (length h.cells) false ∙ sym (sound.shaped.marks u a.thread a.inside);
      lists = refl;
      words = length-replicate words 0 ∙ sym (sound.shaped.popped_words u a.thread a.inside);
      queues = length-set h.queues u blank;
      queue_words = λ s. read_by (λ j (ws : List ℕ). length ws ≡ length (queue_at h j)) h.queues u blank [] at_queues
          (length-replicate words 0 ∙ sym (sound.shaped.queue_words u a.thread a.inside)) (λ j _. refl) s;
      counted_here = not_mortal;
      counted_else = λ q _ _. omega (
        arith,
        times_none q (frame_at h u) a.frame,
        (a.work q).1,
        carries_free q _ a.free,
        sum q,
        new_bit words q,
      );
      gripped_here = not_mortal;
      gripped_else = λ q _ _. omega (
        arith,
        ap one (a.work q).0,
        grips_free q _ a.free,
        ap one (new_mark (length h.cells) q),
      );
      most_here = not_mortal;
      least_here = not_mortal;
      asks_else = λ q _ _. omega (arith, (a.work q).1, carries_free q _ a.free, sum q, new_bit words q);
      offers_else = λ q _ _. sym (offers_free q _ a.free);
      hand = λ p d e. let bad : hands.Free ≡ hands.Busy p d = e in absurd (cc);
      hands_else = λ s p _ busy. not_mortal (sound.hands s 0 p busy).mortal;
      cell = not_mortal;
      immortal = sound.immortals 0;
      fewer = λ q _. same_entries _;
      works_here = λ on. absurd (true≢false (sym on ∙ new_mark (length h.cells) 0));
      works_own = λ q _ on. absurd (true≢false (sym on ∙ new_mark (length h.cells) q));
      works_else = λ s _ on. sound.worklists s 0 on;
      closes = λ first. let bad : editions.One ≡ editions.Two = sym first ∙ a.two in absurd (cc);
      resting = λ q. subst (λ cells. FIRST_MORTAL ≤ q → (get_or cells q no_cell).owner ≡ owners.Thread u
          → rests h.edition again_row.stage ≡ true → (get_or cells q no_cell).local ≡ 0)
          (sym (set-get_or h.cells 0 no_cell))
          (λ mortal owner _. (sound.cells q mortal).rested u owner (ap (λ e. rests e (row_at h u).stage) a.two
          ∙ ap (rests editions.Two) a.left));
      own = record {
        inactive_hand = λ _. refl;
        inactive_frame = λ _ k. refl;
        inactive_lock = λ _. refl;
        closing = λ n is. let bad : stages.Opening 0 ≡ stages.Closing n = is in absurd (cc);
        closing_work = λ n q _ is. let bad : stages.Opening 0 ≡ stages.Closing n = is in absurd (cc);
        opening = λ n is. let same : stages.Opening 0 ≡ stages.Opening n = is in let m : 0 ≡ n = cc in
            (omega (arith, m, sound.shaped.options.enough), refl);
        opening_rest = λ n q _. (new_mark (length h.cells) q, new_bit words q);
        closed = λ k _. ap (λ (ws : List ℕ). word_at ws k) (read_here h.queues u blank [] at_queues) ∙ new_word words k;
        gathered_left = λ g. absurd (true≢false (sym g ∙ a.here));
        gathered_hand = λ g. absurd (true≢false (sym g ∙ a.here));
        gathered_work = λ g. absurd (true≢false (sym g ∙ a.here));
        locked_hand = λ _ _. refl;
        births = omega arith;
        places = omega arith;
      };
      queues_else = λ s k _. closed_else s k;
      bits = same_bits h u 0 (again h u) sound (omega (arith, sound.shaped.options.enough))
          (λ s q some. elim (cases_eq s u) [
            | inl same ↦ absurd (omega (
              arith,
              some,
              new_bit words q,
              ap (λ (ws : List ℕ). bit_of ws q) (ap (λ j. get_or (set h.queues u blank) j []) same
                  ∙ read_here h.queues u blank [] at_queues),
              ap (λ (ws : List ℕ). bit_of ws q) (ap (λ j. get_or (set h.popped u blank) j []) same
                  ∙ read_here h.popped u blank [] at_popped),
            ))
            | inr other ↦ omega (
              arith,
              some,
              ap (λ (ws : List ℕ). bit_of ws q) (read_there h.queues u s blank [] other),
              ap (λ (ws : List ℕ). bit_of ws q) (read_there h.popped u s blank [] other),
            )
          ]) (inl refl);
      locks = same_locks h u 0 (again h u) sound a.inside (omega (arith, sound.shaped.options.enough))
          (record {
            mutex = refl;
            locked = sym a.unlocked;
            place = λ k e. let bad : None ≡ Some k = sym a.unlocked
                ∙ e in absurd (cc);
          });
      ledger = omega arith;
      past = a.counted;
    }

-- first the number counts as no gathered one's, and the registration is counted
again_sound : (h : Heap) (u : ℕ) → IsSound h → h.edition ≡ editions.Two → 0 < u → u < length h.rows
    → is_gathered h u ≡ true → h.registrations < MOST_REGISTRATIONS → IsSound (registered_again h u)
again_sound h u sound two thread inside gathered few =
    let words : ℕ = words_for (length h.cells) in
    let old : ThreadFits h.edition words (row_at h u) (frame_at h u) (popped_at h u) (worklist_at h u) (queue_at h u)
    (is_gathered h u) = sound.threads u in
    let at_gathered : u < length h.gathered = omega (arith, sound.shaped.gathered, inside) in
    let h1 : Heap = record h { gathered = set h.gathered u false; registrations = h.registrations + 1 } in
    let left : (row_at h u).stage ≡ stages.Left = old.gathered_left gathered in
    let off : is_active (row_at h u).stage ≡ false = ap is_active left in
    let own : ThreadFits h.edition words (row_at h u) (frame_at h u) (popped_at h u) (worklist_at h u)
    (queue_at h u) false = record {
      inactive_hand = old.inactive_hand;
      inactive_frame = old.inactive_frame;
      inactive_lock = old.inactive_lock;
      closing = old.closing;
      closing_work = old.closing_work;
      opening = old.opening;
      opening_rest = old.opening_rest;
      closed = old.closed;
      gathered_left = λ g. absurd (true≢false (sym g));
      gathered_hand = λ g. absurd (true≢false (sym g));
      gathered_work = λ g. absurd (true≢false (sym g));
      locked_hand = old.locked_hand;
      births = old.births;
      places = old.places;
    } in
    let sound1 : IsSound h1 = aside_sound h h.notify_words (set h.gathered u false) (h.registrations + 1) sound refl
    (length-set h.gathered u false)
    (read_by (λ t g. ThreadFits h.edition words (row_at h t) (frame_at h t) (popped_at h t) (worklist_at h t)
    (queue_at h t) g) h.gathered u false false at_gathered own (λ t _. sound.threads t))
    (omega arith) (omega (arith, few)) (λ first. let bad : editions.One ≡ editions.Two = sym first
    ∙ two in absurd (cc)) in
    let a : Again h1 u = record {
      thread = thread;
      inside = inside;
      two = two;
      left = left;
      free = old.gathered_hand gathered;
      frame = old.inactive_frame off;
      unlocked = old.inactive_lock off;
      work = old.gathered_work gathered;
      here = read_here h.gathered u false false at_gathered;
      counted = omega (arith, sound.past.0, old.births);
    } in
    subst (λ cells. IsSound (record (registered_again h u) { cells = cells })) (set-get_or h.cells 0 no_cell)
    (changed_sound h1 u 0 (again h1 u) sound1 (again_fits h1 u sound1 a))

-- ---- the root registers

-- what a number that is used again has: nothing
pub record Vacated (h : Heap) (u : ℕ) : Type 0 where
  pub thread : 0 < u
  pub inside : u < length h.rows
  pub two : h.edition ≡ editions.Two
  pub gathered : is_gathered h u ≡ true
  pub stage : (row_at h u).stage ≡ stages.Left
  pub hand : (row_at h u).hand ≡ hands.Free
  pub unlocked : (row_at h u).locked ≡ None
  pub frame : (k : ℕ) → place_at (frame_at h u) k ≡ None
  pub work : (q : ℕ) → is_marked (worklist_at h u) q ≡ false
  pub popped : (q : ℕ) → bit_of (popped_at h u) q ≡ 0
  pub queue : (q : ℕ) → bit_of (queue_at h u) q ≡ 0

vacated : (h : Heap) (u : ℕ) → IsSound h → h.edition ≡ editions.Two → 0 < u → u < length h.rows → is_gathered h u ≡ true
    → Vacated h u
vacated h u sound two thread inside gathered =
    let old : ThreadFits h.edition (words_for (length h.cells)) (row_at h u) (frame_at h u) (popped_at h u)
    (worklist_at h u) (queue_at h u) (is_gathered h u) = sound.threads u in
    let left : (row_at h u).stage ≡ stages.Left = old.gathered_left gathered in
    record {
      thread = thread;
      inside = inside;
      two = two;
      gathered = gathered;
      stage = left;
      hand = old.gathered_hand gathered;
      unlocked = old.inactive_lock (ap is_active left);
      frame = old.inactive_frame (ap is_active left);
      work = λ q. (old.gathered_work gathered q).0;
      popped = λ q. (old.gathered_work gathered q).1;
      queue = λ q. ap (λ w. bit_at w (q % 32)) (old.closed (q / 32) (ap (λ stage. is_closed stage (q / 32)) left))
          ∙ bit_at-zero (q % 32);
    }

-- the number is the next one, or one that was gathered, of the second edition
pub data Registers (h : Heap) (u : ℕ) : Type 0 where
  fresh : u ≡ length h.rows → u ≤ MOST_THREADS → h.registrations < MOST_REGISTRATIONS
      → root_after h (Register u) ≡ registered h → Registers h u
  reused : Vacated h u → h.registrations < MOST_REGISTRATIONS → root_after h (Register u) ≡ registered_again h u
      → Registers h u

by_edition : (e : Edition) (h : Heap) (u : ℕ) → IsSound h → h.edition ≡ e → number_ok e h u ≡ true → u ≤ MOST_THREADS
    → (b : Bool) → nat_lt u (length h.rows) ≡ b → Registers h u
by_edition editions.One h u sound is ok most true low = let new : u ≡ length h.rows = eqb-true u (length h.rows) ok in
    absurd (omega (arith, new, ltb-true u (length h.rows) low))
by_edition editions.One h u sound is ok most false high =
    let new : u ≡ length h.rows = eqb-true u (length h.rows) ok in
    fresh new most (omega (arith, sound.first is, new, most))
    (ap (λ b. if b then registered_again h u else registered h) high)
by_edition editions.Two h u sound is ok most true low =
    let parts = and_parts (nat_lt 0 u && (u == first_gathered h.gathered))
    (nat_lt h.registrations MOST_REGISTRATIONS) ok in
    let more = and_parts (nat_lt 0 u) (u == first_gathered h.gathered) parts.0 in
    let inside : u < length h.rows = ltb-true u (length h.rows) low in
    reused (vacated h u sound is (ltb-true 0 u more.0) inside
    (again_gathered h.gathered u (eqb-true u (first_gathered h.gathered) more.1)
    (omega (arith, inside, sound.shaped.gathered))))
    (ltb-true h.registrations MOST_REGISTRATIONS parts.1)
    (ap (λ b. if b then registered_again h u else registered h) low)
by_edition editions.Two h u sound is ok most false high =
    let parts = and_parts (nat_lt 0 u && (u == first_gathered h.gathered))
    (nat_lt h.registrations MOST_REGISTRATIONS) ok in
    let more = and_parts (nat_lt 0 u) (u == first_gathered h.gathered) parts.0 in
    fresh (omega (
      arith,
      eqb-true u (first_gathered h.gathered) more.1,
      new_last h.gathered,
      sound.shaped.gathered,
      ltb-false u (length h.rows) high,
    )) most
    (ltb-true h.registrations MOST_REGISTRATIONS parts.1)
    (ap (λ b. if b then registered_again h u else registered h) high)

pub registers : (h : Heap) (u : ℕ) → IsSound h → root_may h (Register u) ≡ true → Registers h u
registers h u sound ok =
    let parts = and_parts (number_ok h.edition h u) (nat_le u MOST_THREADS) ok in
    by_edition h.edition h u sound refl parts.0 (leb-true u MOST_THREADS parts.1) (nat_lt u (length h.rows)) refl

pub register_sound : (h : Heap) (u : ℕ) → IsSound h → root_may h (Register u) ≡ true
    → IsSound (root_after h (Register u))
register_sound h u sound ok = elim (registers h u sound ok) [
  | fresh new most few is ↦ subst IsSound (sym is) (registered_sound h sound (omega (arith, new, most)) few)
  | reused v few is ↦ subst IsSound (sym is) (again_sound h u sound v.two v.thread v.inside v.gathered few)
]
