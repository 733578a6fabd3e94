-- Steps that leave popped bits, queue words, stages and locks alone: what the law on changes asks of them.
use Rattle.std.proofs.Common.{◌≡◌, ◌≢◌, ℕ, ◌+◌, ◌<◌, ◌≤◌, true, pos, ◌+ℤ◌, Bool, List, [], length, get_or, Option, Some}
use Rattle.std.proofs.Common.{sum_by, refl, sym, subst, ◌⊎◌, arith}
use Rattle.std.proofs.lemmas.Int.{ints}
use Rattle.brc_words.specs.declared.limits.TheConstants.{FIRST_MORTAL}
use Rattle.law.specs.declared.world.cell.Cell.{Cell}
use Rattle.law.specs.declared.world.edition.Edition.TheVariants as editions
use Rattle.law.specs.declared.world.row.Row.{Row}
use Rattle.law.specs.declared.world.row.Hand.TheVariants as hands
use Rattle.law.specs.declared.world.row.Phase.{Phase}
use Rattle.law.specs.world.Lists.{one, times, entry_times, bit_of, is_marked, place_at}
use Rattle.law.specs.world.Heap.{Heap, cell_at, entries_at, row_at, frame_at, popped_at, worklist_at, queue_at}
use Rattle.law.specs.world.Heap.{is_gathered, words_for}
use Rattle.law.specs.world.Steps.{is_closed}
use Rattle.law.specs.world.Holding.{lives, carries}
use Rattle.law.specs.world.Sound.{IsSound, CellFits, ImmortalFits, WorklistFits, ThreadFits, PhaseFits, counted_in}
use Rattle.law.specs.world.Sound.{grips_of, grips, asks, asks_most, asks_least, in_entries, offering, offered, rests_at}
use Rattle.law.proofs.world.Changes.{New, Fits, Fewer, changed, changed_sound, immortal_entries, same_locks, same_bits}
use Rattle.law.proofs.world.Changes.{kept_bits, kept_resting}

-- one cell, one thread's row, frame and worklist, and entries replaced; the popped bits and all queues as they were
abbrev pub plain : Heap → ℕ → Cell → Row → List (Option ℕ) → List Bool → List (List ℕ) → New
plain h t x r f w es = record {
  cell = x;
  row = r;
  frame = f;
  popped = popped_at h t;
  worklist = w;
  entries = es;
  queues = h.queues;
  past_allocs = h.past_allocs;
  past_frees = h.past_frees;
}

pub record Plain (h : Heap) (t c : ℕ) (x : Cell) (r : Row) (f : List (Option ℕ)) (w : List Bool)
    (es : List (List ℕ)) : Type 0 where
  pub thread : 0 < t
  pub thread_inside : t < length h.rows
  pub cell_inside : c < length h.cells
  pub immortal : c < FIRST_MORTAL → x ≡ cell_at h c
  pub mutex : x.mutex ≡ (cell_at h c).mutex
  pub bearer : (x.bearer ≡ (cell_at h c).bearer) ⊎ ((s : ℕ) → bit_of (queue_at h s) c + bit_of (popped_at h s) c ≡ 0)
  pub stage : r.stage ≡ (row_at h t).stage
  pub locked : r.locked ≡ (row_at h t).locked
  pub locked_place : (k : ℕ) → (row_at h t).locked ≡ Some k → place_at f k ≡ place_at (frame_at h t) k
  pub marks : length w ≡ length (worklist_at h t)
  pub lists : length es ≡ length h.entries
  -- sums
  pub counted_here : FIRST_MORTAL ≤ c
      → counted_in x +ℤ pos (times c (frame_at h t) + one (carries c (row_at h t).hand) + in_entries h c)
      ≡ counted_in (cell_at h c) +ℤ pos (times c f + one (carries c r.hand) + sum_by (entry_times c) es)
  pub counted_else : (q : ℕ) → FIRST_MORTAL ≤ q → q ≢ c → times q (frame_at h t) + one (carries q (row_at h t).hand)
      + in_entries h q
      ≡ times q f + one (carries q r.hand) + sum_by (entry_times q) es
  pub gripped_here : FIRST_MORTAL ≤ c → grips_of x + one (is_marked (worklist_at h t) c) + one
      (grips c (row_at h t).hand)
      ≡ grips_of (cell_at h c) + one (is_marked w c) + one (grips c r.hand)
  pub gripped_else : (q : ℕ) → FIRST_MORTAL ≤ q → q ≢ c
      → one (is_marked (worklist_at h t) q) + one (grips q (row_at h t).hand)
      ≡ one (is_marked w q) + one (grips q r.hand)
  pub most_here : FIRST_MORTAL ≤ c → asks h c + one (carries c r.hand) ≤ asks_most x + one (carries c (row_at h t).hand)
  pub least_here : FIRST_MORTAL ≤ c → asks_least x + one (carries c (row_at h t).hand) + one
      (offering c (row_at h t).hand) ≤ asks h c + offered h c + one (carries c r.hand) + one (offering c r.hand)
  pub offers_else : (q : ℕ) → FIRST_MORTAL ≤ q → q ≢ c → one (offering q r.hand) ≡ one (offering q (row_at h t).hand)
  pub asks_else : (q : ℕ) → FIRST_MORTAL ≤ q → q ≢ c → one (carries q r.hand) ≡ one (carries q (row_at h t).hand)
  -- hands
  pub hand : (p : Phase) (d : ℕ) → r.hand ≡ hands.Busy p d → (d ≡ c) × (FIRST_MORTAL ≤ c) × PhaseFits h.edition t r
      (popped_at h t) x (row_at h x.bearer).stage c p
  pub hands_else : (s : ℕ) (p : Phase) → s ≢ t → (row_at h s).hand ≡ hands.Busy p c
      → PhaseFits h.edition s (row_at h s) (popped_at h s) x (row_at h x.bearer).stage c p
  -- cells and worklists
  pub cell : FIRST_MORTAL ≤ c → CellFits (length h.rows) h.limit (rests_at h) x (get_or es c [])
  pub fewer : (q : ℕ) → (FIRST_MORTAL ≤ q → q ≢ c) → Fewer (entries_at h q) (get_or es q [])
  pub works_here : is_marked w c ≡ true → WorklistFits t c x
  pub works_own : (q : ℕ) → q ≢ c → is_marked w q ≡ true → is_marked (worklist_at h t) q ≡ true
  pub works_else : (s : ℕ) → s ≢ t → is_marked (worklist_at h s) c ≡ true → WorklistFits s c x
  -- the thread, and the ledger
  pub own : ThreadFits h.edition (words_for (length h.cells)) r f (popped_at h t) w (queue_at h t) (is_gathered h t)
  pub ledger : r.allocs + (row_at h t).frees + one (lives (cell_at h c).owner) ≡ (row_at h t).allocs + r.frees + one
      (lives x.owner)

pub plain_fits : (h : Heap) (t c : ℕ) (x : Cell) (r : Row) (f : List (Option ℕ)) (w : List Bool) (es : List (List ℕ))
    → IsSound h → Plain h t c x r f w es → Fits h t c (plain h t x r f w es)
plain_fits h t c x r f w es sound p = record {
  thread = p.thread;
  thread_inside = p.thread_inside;
  cell_inside = p.cell_inside;
  marks = p.marks;
  lists = p.lists;
  words = refl;
  queues = refl;
  queue_words = λ s. refl;
  counted_here = λ mortal. omega (arith, ints, p.counted_here mortal);
  counted_else = λ q mortal ne. omega (arith, p.counted_else q mortal ne);
  gripped_here = p.gripped_here;
  gripped_else = p.gripped_else;
  most_here = λ mortal. omega (arith, p.most_here mortal);
  least_here = λ mortal. omega (arith, p.least_here mortal);
  asks_else = λ q mortal ne. omega (arith, p.asks_else q mortal ne);
  offers_else = p.offers_else;
  hand = p.hand;
  hands_else = p.hands_else;
  cell = p.cell;
  immortal = λ low. immortal_entries c x (entries_at h c) (get_or es c [])
      (p.fewer c (λ high. absurd (omega (arith, low, high))))
      (subst (λ y. ImmortalFits c y (entries_at h c)) (sym (p.immortal low)) (sound.immortals c low));
  fewer = λ q ne. p.fewer q (λ _. ne);
  works_here = p.works_here;
  works_own = p.works_own;
  works_else = p.works_else;
  closes = λ _ k. subst (λ g. is_closed (row_at h t).stage k ≡ true → is_closed g k ≡ true) (sym p.stage)
      (λ closed. closed);
  resting = kept_resting h t c x es r.stage sound p.cell_inside p.stage p.cell;
  own = p.own;
  queues_else = λ s k _. (sound.threads s).closed k;
  bits = same_bits h t c (plain h t x r f w es) sound p.cell_inside (kept_bits h t sound p.thread_inside) p.bearer;
  locks = same_locks h t c (plain h t x r f w es) sound p.thread_inside p.cell_inside
      (record { mutex = p.mutex; locked = p.locked; place = p.locked_place });
  ledger = omega (arith, p.ledger);
  past = sound.past.0;
}

pub plain_sound : (h : Heap) (t c : ℕ) (x : Cell) (r : Row) (f : List (Option ℕ)) (w : List Bool) (es : List (List ℕ))
    → IsSound h → Plain h t c x r f w es → IsSound (changed h t c (plain h t x r f w es))
plain_sound h t c x r f w es sound p = changed_sound h t c (plain h t x r f w es) sound
    (plain_fits h t c x r f w es sound p)
