-- The opening world keeps all that reached worlds keep: nothing names a mortal cell, and all of them are free.
use Rattle.std.proofs.Common.{◌≡◌, ℕ, ◌+◌, ◌<◌, ◌≤◌, false, if◌then◌else◌, pos, List, [], ◌∷◌, zero, suc, length}
use Rattle.std.proofs.Common.{get_or, drop, replicate, Some, None, refl, sym, ◌∙◌, ap, subst, inl, inr, ◌⊎◌, arith}
use Rattle.std.proofs.lemmas.List.{get_or_past, get_or-replicate, length-replicate, get_or-drop}
use Rattle.std.proofs.lemmas.Bool.{cases_lt, lt-ltb, le-ltb, true≢false}
use Rattle.std.proofs.lemmas.Int.{ints}
use Rattle.brc_words.specs.declared.limits.TheConstants.{FIRST_MORTAL, MOST_PLACES}
use Rattle.brc_words.specs.declared.owner.Owner.TheVariants as owners
use Rattle.law.specs.declared.world.cell.Cell.{Cell}
use Rattle.law.specs.declared.world.edition.Edition.{Edition}
use Rattle.law.specs.declared.world.row.Row.{Row}
use Rattle.law.specs.declared.world.row.Hand.TheVariants as hands
use Rattle.law.specs.declared.world.row.Stage.TheVariants as stages
use Rattle.law.specs.world.Lists.{one, entry_times, bit_of, is_marked, place_at}
use Rattle.law.specs.world.Heap.{Heap, cell_at, entries_at, row_at, frame_at, popped_at, worklist_at, queue_at}
use Rattle.law.specs.world.Heap.{is_gathered, no_cell, no_row, opening, opening_cell, opening_cells, immortal}
use Rattle.law.specs.world.Heap.{words_for, AreOptions, opening_in}
use Rattle.law.specs.world.Holding.{lives, live_count}
use Rattle.law.specs.world.Sound.{IsSound, IsShaped, CellFits, ImmortalFits, ThreadFits, in_entries, counted_in, held}
use Rattle.law.specs.world.Sound.{gripped, grips_of, asks, asks_least, rests_at, offered}
use Rattle.law.proofs.world.Naming.{no_bit}
use Rattle.law.proofs.world.Counting.{sum_none}
use Rattle.law.proofs.world.Registering.{length-push, read_push}

pub length-opening : (n : ℕ) → length (opening_cells n) ≡ n
length-opening zero = refl
length-opening (suc n) = omega (arith, length-push (opening_cells n) (opening_cell n), length-opening n)

opening_low : (n c : ℕ) → c < n → get_or (opening_cells n) c no_cell ≡ opening_cell c
opening_low zero c low = absurd (omega arith)
opening_low (suc n) c low = read_push (λ j (x : Cell). j < suc n → x ≡ opening_cell j) (opening_cells n)
    (opening_cell n) no_cell
    (λ _. ap opening_cell (sym (length-opening n)))
    (λ j other below. opening_low n j (omega (arith, other, below, length-opening n))) c low

-- each cell as it opens; past the last one stands none
opening_read : (n c : ℕ) → ((c < n) × (get_or (opening_cells n) c no_cell ≡ opening_cell c))
    ⊎ ((n ≤ c) × (get_or (opening_cells n) c no_cell ≡ no_cell))
opening_read n c = elim (cases_lt c n) [
  | inl low ↦ inl (low, opening_low n c low)
  | inr high ↦ inr (high, get_or_past (opening_cells n) c no_cell (omega (arith, high, length-opening n)))
]

mortal_opens : (c : ℕ) → FIRST_MORTAL ≤ c → opening_cell c ≡ no_cell
mortal_opens c high = ap (λ b. if b then immortal c else no_cell) (le-ltb c FIRST_MORTAL high)

immortal_opens : (c : ℕ) → c < FIRST_MORTAL → opening_cell c ≡ immortal c
immortal_opens c low = ap (λ b. if b then immortal c else no_cell) (lt-ltb c FIRST_MORTAL low)

-- a mortal cell opens free
pub free_cell : (n c : ℕ) → FIRST_MORTAL ≤ c → get_or (opening_cells n) c no_cell ≡ no_cell
free_cell n c high = elim (opening_read n c) [
  | inl low ↦ low.1 ∙ mortal_opens c high
  | inr past ↦ past.1
]

pub immortal_cell : (n c : ℕ) → FIRST_MORTAL ≤ n → c < FIRST_MORTAL → get_or (opening_cells n) c no_cell ≡ immortal c
immortal_cell n c enough low = elim (opening_read n c) [
  | inl here ↦ here.1 ∙ immortal_opens c low
  | inr past ↦ absurd (omega (arith, past.0, enough, low))
]

-- no cell opens with entries
pub no_entries : (n c : ℕ) (none : List ℕ) → get_or (replicate n none) c none ≡ none
no_entries n c none = elim (cases_lt c n) [
  | inl low ↦ get_or-replicate n c none none low
  | inr high ↦ get_or_past (replicate n none) c none (subst (λ m. m ≤ c) (sym (length-replicate n none)) high)
]

-- a list of one default reads as the default
lone : {A : Type 0} (d : A) (j : ℕ) → get_or (d ∷ []) j d ≡ d
lone d zero = refl
lone d (suc j) = refl

opening_shape : (e : Edition) (n limit : ℕ) → AreOptions n limit → IsShaped (opening_in e n limit)
opening_shape e n limit options = record {
  options = subst (λ m. AreOptions m limit) (sym (length-opening n)) options;
  entries = length-replicate n [] ∙ sym (length-opening n);
  root = omega arith;
  threads = omega arith;
  frames = refl;
  popped = refl;
  worklists = refl;
  queues = refl;
  notify_words = refl;
  gathered = refl;
  marks = λ t low high. absurd (omega (arith, low, high));
  popped_words = λ t low high. absurd (omega (arith, low, high));
  queue_words = λ t low high. absurd (omega (arith, low, high));
}

pub opening_sound : (e : Edition) (n limit : ℕ) → AreOptions n limit → IsSound (opening_in e n limit)
opening_sound e n limit options =
    let h : Heap = opening_in e n limit in
    let row : (t : ℕ) → row_at h t ≡ no_row = lone no_row in
    let frame : (t : ℕ) → frame_at h t ≡ [] = lone [] in
    let popped : (t : ℕ) → popped_at h t ≡ [] = lone [] in
    let worklist : (t : ℕ) → worklist_at h t ≡ [] = lone [] in
    let queue : (t : ℕ) → queue_at h t ≡ [] = lone [] in
    let gathered : (t : ℕ) → is_gathered h t ≡ false = lone false in
    let cell : (q : ℕ) → FIRST_MORTAL ≤ q → cell_at h q ≡ no_cell = free_cell n in
    let entries : (q : ℕ) → entries_at h q ≡ [] = λ q. no_entries n q [] in
    let no_entry : (q : ℕ) → in_entries h q ≡ 0 = λ q. sum_none (entry_times q) (replicate n []) []
    (λ i. ap (entry_times q) (no_entries n i [])) in
    let no_live : live_count h ≡ 0 = sum_none (λ (x : Cell). one (lives x.owner))
    (drop FIRST_MORTAL (opening_cells n)) no_cell
    (λ i. ap (λ (x : Cell). one (lives x.owner)) (get_or-drop FIRST_MORTAL (opening_cells n) i no_cell
    ∙ free_cell n (FIRST_MORTAL + i) (omega arith))) in
    record {
      shaped = opening_shape e n limit options;
      counted = λ q mortal. subst (λ x. counted_in x ≡ pos (held h q)) (sym (cell q mortal))
          (ap pos (omega (arith, no_entry q, no_bit q)));
      gripped = λ q mortal. subst (λ x. gripped h q ≡ grips_of x) (sym (cell q mortal)) refl;
      most = λ q mortal. omega (arith, no_bit q);
      least = λ q mortal. subst (λ x. asks_least x ≤ asks h q + offered h q) (sym (cell q mortal)) (omega arith);
      hands = λ t d p busy. absurd (let e : hands.Free ≡ hands.Busy p d = sym (ap (λ (r : Row). r.hand) (row t))
          ∙ busy in cc);
      cells = λ q mortal. subst (λ x. CellFits 1 limit (rests_at h) x (entries_at h q)) (sym (cell q mortal)) (record {
        default = λ _. omega (arith, ints);
        owned_unmerged = λ t _. refl;
        owned_by_bearer = λ t e. let bad : owners.Free ≡ owners.Thread t = e in absurd (cc);
        rested = λ t e _. let bad : owners.Free ≡ owners.Thread t = e in absurd (cc);
        dead_empty = λ _. entries q;
        dead_count = λ _. refl;
        born = λ live. absurd (true≢false (sym live));
        limited = λ live. absurd (true≢false (sym live));
        plain = λ _. entries q;
        few = omega (arith, ap (λ (xs : List ℕ). length xs) (entries q));
      });
      immortals = λ q low. subst (λ x. ImmortalFits q x (entries_at h q))
          (sym (immortal_cell n q (omega (arith, options.enough)) low)) (record {
            owner = refl;
            local = refl;
            count = refl;
            state = refl;
            kind = refl;
            empty = λ _. entries q;
            few = omega (arith, ap (λ (xs : List ℕ). length xs) (entries q));
          });
      worklists = λ t q on. absurd (true≢false (sym on ∙ ap (λ marks. is_marked marks q) (worklist t)));
      threads = λ t.
          subst (λ r. ThreadFits h.edition (words_for (length (opening_cells n))) r (frame_at h t) (popped_at h t)
          (worklist_at h t) (queue_at h t) (is_gathered h t)) (sym (row t)) (record {
            inactive_hand = λ _. refl;
            inactive_frame = λ _ k. ap (λ f. place_at f k) (frame t);
            inactive_lock = λ _. refl;
            closing = λ m e. let bad : stages.Left ≡ stages.Closing m = e in absurd (cc);
            closing_work = λ m q _ e. let bad : stages.Left ≡ stages.Closing m = e in absurd (cc);
            opening = λ m e. let bad : stages.Left ≡ stages.Opening m = e in absurd (cc);
            opening_rest = λ m q e. let bad : stages.Left ≡ stages.Opening m = e in absurd (cc);
            closed = λ k _. ap (λ words. get_or words k 0) (queue t);
            gathered_left = λ _. refl;
            gathered_hand = λ _. refl;
            gathered_work = λ g _. absurd (true≢false (sym g ∙ gathered t));
            locked_hand = λ _ _. refl;
            births = omega arith;
            places = subst (λ f. length f ≤ MOST_PLACES) (sym (frame t)) (omega arith);
          });
      bits = λ t q some. absurd
          (omega (
            arith,
            some,
            ap (λ words. bit_of words q) (queue t),
            ap (λ words. bit_of words q) (popped t),
            no_bit q,
          ));
      locks = λ t k locked. absurd (let e : None ≡ Some k = sym (ap (λ (r : Row). r.locked) (row t)) ∙ locked in cc);
      mutexes = λ t q some mutex. absurd (elim (cases_lt q FIRST_MORTAL) [
        | inl low ↦ omega (
          arith,
          some,
          mutex,
          ap (λ (x : Cell). x.mutex)
              (immortal_cell n q (omega (arith, options.enough)) low),
        )
        | inr high ↦ omega (arith, some, mutex, ap (λ (x : Cell). x.mutex) (cell q high))
      ]);
      ledger = omega (arith, no_live);
      past = (omega arith, omega arith);
      first = λ _. refl;
    }
