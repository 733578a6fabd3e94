-- One thread's part and one cell change, with entries and queue words: what every clause becomes, once for all steps.
use Rattle.std.proofs.Common.{◌≡◌, ◌≢◌, ℕ, ◌+◌, ◌-◌, ◌/◌, ◌<◌, ◌≤◌, Bool, true, ℤ, pos, ◌+ℤ◌, List, [], length, get_or}
use Rattle.std.proofs.Common.{set, drop, Option, Some, sum_by, refl, sym, ◌∙◌, ap, subst, inl, inr, ◌⊎◌, arith, ◌*◌}
use Rattle.std.proofs.lemmas.List.{get_or-set_same, get_or-set_other, length-set, drop-set-lt, drop-set-add}
use Rattle.std.proofs.lemmas.List.{get_or-drop, length-drop}
use Rattle.std.proofs.lemmas.List.Sums.{sum_by-set}
use Rattle.std.proofs.lemmas.Bool.{cases_eq, cases_lt}
use Rattle.std.proofs.lemmas.Int.{ints}
use Rattle.brc_words.specs.declared.limits.TheConstants.{FIRST_MORTAL, MOST_THREADS, MOST_BIRTHS}
use Rattle.law.specs.declared.world.cell.Cell.{Cell}
use Rattle.brc_words.specs.declared.owner.Owner.TheVariants as owners
use Rattle.law.specs.declared.world.edition.Edition.{Edition}
use Rattle.law.specs.declared.world.edition.Edition.TheVariants as editions
use Rattle.law.specs.declared.world.row.Row.{Row}
use Rattle.law.specs.declared.world.row.Hand.TheVariants as hands
use Rattle.law.specs.declared.world.row.Phase.{Phase}
use Rattle.law.specs.declared.world.row.Phase.TheVariants as phases
use Rattle.law.specs.declared.world.row.Stage.{Stage}
use Rattle.law.specs.world.Lists.{one, times, entry_times, bit_of, is_marked, place_at, word_at}
use Rattle.law.specs.world.Heap.{Heap, cell_at, entries_at, row_at, frame_at, popped_at, worklist_at, queue_at, no_cell}
use Rattle.law.specs.world.Heap.{no_row, is_gathered, words_for, AreOptions}
use Rattle.law.specs.world.Steps.{is_closed}
use Rattle.law.specs.world.Holding.{lives, carries, live_count}
use Rattle.law.specs.world.Sound.{IsSound, IsShaped, CellFits, ImmortalFits, WorklistFits, ThreadFits, HandFits}
use Rattle.law.specs.world.Sound.{PhaseFits, Locks, counted_in, grips_of, grips, gripped, held, asks, asks_most}
use Rattle.law.specs.world.Sound.{asks_least, in_frames, in_popped, in_queues, in_hands, in_entries, ShutFits, offering}
use Rattle.law.specs.world.Sound.{offered, rests, rests_at}

-- what a step puts in place of one cell, of one thread's parts, of all entries and of all queue words
pub record New : Type 0 where
  pub cell : Cell
  pub row : Row
  pub frame : List (Option ℕ)
  pub popped : List ℕ
  pub worklist : List Bool
  pub entries : List (List ℕ)
  pub queues : List (List ℕ)
  pub past_allocs : ℕ
  pub past_frees : ℕ

abbrev pub changed : Heap → ℕ → ℕ → New → Heap
changed h t c n = record h {
  cells = set h.cells c n.cell;
  entries = n.entries;
  rows = set h.rows t n.row;
  frames = set h.frames t n.frame;
  popped = set h.popped t n.popped;
  worklists = set h.worklists t n.worklist;
  queues = n.queues;
  past_allocs = n.past_allocs;
  past_frees = n.past_frees;
}

-- ---- reading a list after a write

pub read_here : {A : Type 0} (xs : List A) (i : ℕ) (v d : A) → i < length xs → get_or (set xs i v) i d ≡ v
read_here xs i v d h = get_or-set_same xs i v d h

pub read_there : {A : Type 0} (xs : List A) (i j : ℕ) (v d : A) → j ≢ i → get_or (set xs i v) j d ≡ get_or xs j d
read_there xs i j v d ne = get_or-set_other xs i j v d ne

-- what holds of the new value where it was put and of the old ones elsewhere holds everywhere
pub read_by : {A : Type 0} (P : ℕ → A → Type 0) (xs : List A) (i : ℕ) (v d : A) → i < length xs → P i v
    → ((j : ℕ) → j ≢ i → P j (get_or xs j d)) → (j : ℕ) → P j (get_or (set xs i v) j d)
read_by {A} P xs i v d h here there j =
    elim (cases_eq j i) [
      | inl same ↦ subst (λ k. P k (get_or (set xs i v) k d)) (sym same)
          (subst (P i) (sym (get_or-set_same xs i v d h)) here)
      | inr other ↦ subst (P j) (sym (get_or-set_other xs i j v d other)) (there j other)
    ]

-- ---- what the law asks: each fact is about the changed cell, the changed thread, or those that name the cell

-- the references to a cell where the step changes something, before and after; and those on their way among them
abbrev pub old_part : Heap → ℕ → ℕ → ℕ
old_part h t q = times q (frame_at h t) + bit_of (popped_at h t) q + one (carries q (row_at h t).hand) + in_queues h q
    + in_entries h q

abbrev pub new_part : New → ℕ → ℕ
new_part n q = times q n.frame + bit_of n.popped q + one (carries q n.row.hand) + sum_by (λ words. bit_of words q)
    n.queues + sum_by (entry_times q) n.entries

abbrev pub old_asks : Heap → ℕ → ℕ → ℕ
old_asks h t q = bit_of (popped_at h t) q + one (carries q (row_at h t).hand) + in_queues h q

abbrev pub new_asks : New → ℕ → ℕ
new_asks n q = bit_of n.popped q + one (carries q n.row.hand) + sum_by (λ words. bit_of words q) n.queues

-- entries that grow no longer
pub record Fewer (old new : List ℕ) : Type 0 where
  pub empty : old ≡ [] → new ≡ []
  pub few : length new ≤ length old

-- a lock is told by the thread's place and by the cell's mutex alike
pub record LocksFit (h : Heap) : Type 0 where
  pub locks : (s k : ℕ) → (row_at h s).locked ≡ Some k → (q : ℕ) × Locks h s k q × ((cell_at h q).mutex ≡ s)
  pub mutexes : (s q : ℕ) → 0 < s → (cell_at h q).mutex ≡ s → (k : ℕ) × Locks h s k q

pub record Fits (h : Heap) (t c : ℕ) (n : New) : Type 0 where
  pub thread : 0 < t
  pub thread_inside : t < length h.rows
  pub cell_inside : c < length h.cells
  -- lengths
  pub marks : length n.worklist ≡ length (worklist_at h t)
  pub lists : length n.entries ≡ length h.entries
  pub words : length n.popped ≡ length (popped_at h t)
  pub queues : length n.queues ≡ length h.queues
  pub queue_words : (s : ℕ) → length (get_or n.queues s []) ≡ length (queue_at h s)
  -- sums
  pub counted_here : FIRST_MORTAL ≤ c → counted_in n.cell +ℤ pos (old_part h t c) ≡ counted_in (cell_at h c) +ℤ pos
      (new_part n c)
  pub counted_else : (q : ℕ) → FIRST_MORTAL ≤ q → q ≢ c → old_part h t q ≡ new_part n q
  pub gripped_here : FIRST_MORTAL ≤ c → grips_of n.cell + one (is_marked (worklist_at h t) c) + one
      (grips c (row_at h t).hand)
      ≡ grips_of (cell_at h c) + one (is_marked n.worklist c) + one (grips c n.row.hand)
  pub gripped_else : (q : ℕ) → FIRST_MORTAL ≤ q → q ≢ c
      → one (is_marked (worklist_at h t) q) + one (grips q (row_at h t).hand)
      ≡ one (is_marked n.worklist q) + one (grips q n.row.hand)
  pub most_here : FIRST_MORTAL ≤ c → asks h c + new_asks n c ≤ asks_most n.cell + old_asks h t c
  pub least_here : FIRST_MORTAL ≤ c → asks_least n.cell + old_asks h t c + one (offering c (row_at h t).hand) ≤ asks h c
      + offered h c + new_asks n c + one (offering c n.row.hand)
  pub offers_else : (q : ℕ) → FIRST_MORTAL ≤ q → q ≢ c
      → one (offering q n.row.hand) ≡ one (offering q (row_at h t).hand)
  pub asks_else : (q : ℕ) → FIRST_MORTAL ≤ q → q ≢ c → new_asks n q ≡ old_asks h t q
  -- hands
  pub hand : (p : Phase) (d : ℕ) → n.row.hand ≡ hands.Busy p d
      → (d ≡ c) × (FIRST_MORTAL ≤ c) × PhaseFits h.edition t n.row n.popped n.cell (row_at h n.cell.bearer).stage c p
  pub hands_else : (s : ℕ) (p : Phase) → s ≢ t → (row_at h s).hand ≡ hands.Busy p c
      → PhaseFits h.edition s (row_at h s) (popped_at h s) n.cell (row_at h n.cell.bearer).stage c p
  -- cells, entries and worklists
  pub cell : FIRST_MORTAL ≤ c → CellFits (length h.rows) h.limit (rests_at h) n.cell (get_or n.entries c [])
  pub immortal : c < FIRST_MORTAL → ImmortalFits c n.cell (get_or n.entries c [])
  pub fewer : (q : ℕ) → q ≢ c → Fewer (entries_at h q) (get_or n.entries q [])
  pub works_here : is_marked n.worklist c ≡ true → WorklistFits t c n.cell
  pub works_own : (q : ℕ) → q ≢ c → is_marked n.worklist q ≡ true → is_marked (worklist_at h t) q ≡ true
  pub works_else : (s : ℕ) → s ≢ t → is_marked (worklist_at h s) c ≡ true → WorklistFits s c n.cell
  -- threads: closed words hold nothing, and in the first edition they stay closed; a thread that rests owns nothing
  -- alive
  pub closes : h.edition ≡ editions.One → (k : ℕ) → is_closed (row_at h t).stage k ≡ true
      → is_closed n.row.stage k ≡ true
  pub resting : (q : ℕ) → FIRST_MORTAL ≤ q → (get_or (set h.cells c n.cell) q no_cell).owner ≡ owners.Thread t
      → rests h.edition n.row.stage ≡ true
      → (get_or (set h.cells c n.cell) q no_cell).local ≡ 0
  pub own : ThreadFits h.edition (words_for (length h.cells)) n.row n.frame n.popped n.worklist (get_or n.queues t [])
      (is_gathered h t)
  pub queues_else : (s k : ℕ) → s ≢ t → is_closed (row_at h s).stage k ≡ true → word_at (get_or n.queues s []) k ≡ 0
  -- bits are of objects that the thread bore; locks
  pub bits : (s q : ℕ) → 0 < bit_of (get_or n.queues s []) q + bit_of (get_or (set h.popped t n.popped) s []) q
      → (FIRST_MORTAL ≤ q) × ((get_or (set h.cells c n.cell) q no_cell).bearer ≡ s)
  pub locks : LocksFit (changed h t c n)
  pub ledger : n.row.allocs + (row_at h t).frees + one (lives (cell_at h c).owner) + (n.past_allocs + h.past_frees)
      ≡ (row_at h t).allocs + n.row.frees + one (lives n.cell.owner) + (h.past_allocs + n.past_frees)
  pub past : n.past_allocs ≤ h.registrations * MOST_BIRTHS

-- ---- sums

frames_sum : (h : Heap) (t q : ℕ) (f : List (Option ℕ)) → t < length h.frames
    → sum_by (times q) (set h.frames t f) + times q (frame_at h t) ≡ in_frames h q + times q f
frames_sum h t q f inside = sum_by-set (times q) h.frames t f [] inside

popped_sum : (h : Heap) (t q : ℕ) (words : List ℕ) → t < length h.popped
    → sum_by (λ words. bit_of words q) (set h.popped t words) + bit_of (popped_at h t) q ≡ in_popped h q
    + bit_of words q
popped_sum h t q words inside = sum_by-set (λ words. bit_of words q) h.popped t words [] inside

hands_sum : (h : Heap) (t q : ℕ) (r : Row) → t < length h.rows
    → sum_by (λ row. one (carries q row.hand)) (set h.rows t r) + one (carries q (row_at h t).hand) ≡ in_hands h q + one
    (carries q r.hand)
hands_sum h t q r inside = sum_by-set (λ row. one (carries q row.hand)) h.rows t r no_row inside

offers_sum : (h : Heap) (t q : ℕ) (r : Row) → t < length h.rows
    → sum_by (λ row. one (offering q row.hand)) (set h.rows t r) + one (offering q (row_at h t).hand) ≡ sum_by
    (λ row. one (offering q row.hand)) h.rows + one (offering q r.hand)
offers_sum h t q r inside = sum_by-set (λ row. one (offering q row.hand)) h.rows t r no_row inside

grips_sum : (h : Heap) (t q : ℕ) (r : Row) → t < length h.rows
    → sum_by (λ row. one (grips q row.hand)) (set h.rows t r) + one (grips q (row_at h t).hand) ≡ sum_by
    (λ row. one (grips q row.hand)) h.rows + one (grips q r.hand)
grips_sum h t q r inside = sum_by-set (λ row. one (grips q row.hand)) h.rows t r no_row inside

marks_sum : (h : Heap) (t q : ℕ) (w : List Bool) → t < length h.worklists
    → sum_by (λ marks. one (is_marked marks q)) (set h.worklists t w) + one (is_marked (worklist_at h t) q) ≡ sum_by
    (λ marks. one (is_marked marks q)) h.worklists + one (is_marked w q)
marks_sum h t q w inside = sum_by-set (λ marks. one (is_marked marks q)) h.worklists t w [] inside

-- plain arithmetic: the holders of one cell, and those of the others
here_balance : (new old : ℤ) (frames' popped' hands' queues' entries' frames popped hands queues entries f f0 p
    p0 d d0 : ℕ)
    → frames' + f0 ≡ frames + f → popped' + p0 ≡ popped + p → hands' + d0 ≡ hands + d
    → old ≡ pos (frames + popped + hands + queues + entries)
    → new +ℤ pos (f0 + p0 + d0 + queues + entries) ≡ old +ℤ pos (f + p + d + queues' + entries')
    → new ≡ pos (frames' + popped' + hands' + queues' + entries')
here_balance new old frames' popped' hands' queues' entries' frames popped hands queues entries f f0 p p0 d d0 a b c e
    g = omega (arith, ints)

else_balance : (old : ℤ) (frames' popped' hands' queues' entries' frames popped hands queues entries f f0 p p0 d d0 : ℕ)
    → frames' + f0 ≡ frames + f → popped' + p0 ≡ popped + p → hands' + d0 ≡ hands + d
    → old ≡ pos (frames + popped + hands + queues + entries)
    → f0 + p0 + d0 + queues + entries ≡ f + p + d + queues' + entries'
    → old ≡ pos (frames' + popped' + hands' + queues' + entries')
else_balance old frames' popped' hands' queues' entries' frames popped hands queues entries f f0 p p0 d d0 a b c e g =
    omega (arith, ints)

-- ---- what hands, cells and threads keep where something else changes

-- what a hand says of a cell, whichever row and cell are read
PhaseHolds : Heap → ℕ → Row → List ℕ → ℕ → Phase → Cell → Type 0
PhaseHolds h' s row popped d p y = (FIRST_MORTAL ≤ d) × PhaseFits h'.edition s row popped y
    (row_at h' y.bearer).stage d p

shut_elsewhere : (e : Edition) (x : Cell) (old new : Stage) (d : ℕ)
    → (e ≡ editions.One → is_closed old (d / 32) ≡ true → is_closed new (d / 32) ≡ true) → ShutFits e x old d
    → ShutFits e x new d
shut_elsewhere editions.One x old new d same fits = same refl fits
shut_elsewhere editions.Two x old new d same fits = fits

-- only a shut hand looks at the bearer's stage, in the first edition, where closed words stay closed
pub other_bearer : (e : Edition) (t : ℕ) (row : Row) (popped : List ℕ) (x : Cell) (old new : Stage) (d : ℕ) (p : Phase)
    → (p ≡ phases.Shut → e ≡ editions.One → is_closed old (d / 32) ≡ true → is_closed new (d / 32) ≡ true)
    → PhaseFits e t row popped x old d p → PhaseFits e t row popped x new d p
other_bearer e t row popped x old new d phases.Shut same fits = shut_elsewhere e x old new d (same refl) fits
other_bearer e t row popped x old new d _ same fits = fits

-- fewer entries break nothing that a cell says
other_entries : (threads limit : ℕ) (resting : ℕ → Bool) (y : Cell) (old new : List ℕ) → Fewer old new
    → CellFits threads limit resting y old → CellFits threads limit resting y new
other_entries threads limit resting y old new fewer fits = record {
  default = fits.default;
  owned_unmerged = fits.owned_unmerged;
  owned_by_bearer = fits.owned_by_bearer;
  rested = fits.rested;
  dead_empty = λ dead. fewer.empty (fits.dead_empty dead);
  dead_count = fits.dead_count;
  born = fits.born;
  limited = fits.limited;
  plain = λ plain. fewer.empty (fits.plain plain);
  few = omega (arith, fits.few, fewer.few);
}

resting_cell : (threads limit : ℕ) (before after : ℕ → Bool) (y : Cell) (entries : List ℕ)
    → ((t : ℕ) → y.owner ≡ owners.Thread t → after t ≡ true → y.local ≡ 0)
    → CellFits threads limit before y entries → CellFits threads limit after y entries
resting_cell threads limit before after y entries rested fits = record {
  default = fits.default;
  owned_unmerged = fits.owned_unmerged;
  owned_by_bearer = fits.owned_by_bearer;
  rested = rested;
  dead_empty = fits.dead_empty;
  dead_count = fits.dead_count;
  born = fits.born;
  limited = fits.limited;
  plain = fits.plain;
  few = fits.few;
}

pub immortal_entries : (c : ℕ) (y : Cell) (old new : List ℕ) → Fewer old new → ImmortalFits c y old
    → ImmortalFits c y new
immortal_entries c y old new fewer fits = record {
  owner = fits.owner;
  local = fits.local;
  count = fits.count;
  state = fits.state;
  kind = fits.kind;
  empty = λ ne. fewer.empty (fits.empty ne);
  few = omega (arith, fits.few, fewer.few);
}

-- another thread's queue may change, where its closed words stay empty
pub other_queue : (e : Edition) (words : ℕ) (row : Row) (frame : List (Option ℕ)) (popped : List ℕ)
    (worklist : List Bool) (old new : List ℕ) (gathered : Bool)
    → ((k : ℕ) → is_closed row.stage k ≡ true → word_at new k ≡ 0)
    → ThreadFits e words row frame popped worklist old gathered
    → ThreadFits e words row frame popped worklist new gathered
other_queue e words row frame popped worklist old new gathered empty fits = record {
  inactive_hand = fits.inactive_hand;
  inactive_frame = fits.inactive_frame;
  inactive_lock = fits.inactive_lock;
  closing = fits.closing;
  closing_work = fits.closing_work;
  opening = fits.opening;
  opening_rest = fits.opening_rest;
  closed = empty;
  gathered_left = fits.gathered_left;
  gathered_hand = fits.gathered_hand;
  gathered_work = fits.gathered_work;
  locked_hand = fits.locked_hand;
  births = fits.births;
  places = fits.places;
}

-- ---- the ledger

live_sum : (cells : List Cell) (c : ℕ) (x : Cell) → c < length cells
    → (c < FIRST_MORTAL → lives x.owner ≡ lives (get_or cells c no_cell).owner)
    → sum_by (λ y. one (lives y.owner)) (drop FIRST_MORTAL (set cells c x)) + one (lives (get_or cells c no_cell).owner)
    ≡ sum_by (λ y. one (lives y.owner)) (drop FIRST_MORTAL cells) + one (lives x.owner)
live_sum cells c x inside same =
    elim (cases_lt c FIRST_MORTAL) [
      | inl low ↦ subst (λ (l : List Cell). sum_by (λ y. one (lives y.owner)) l + one
          (lives (get_or cells c no_cell).owner) ≡ sum_by (λ y. one (lives y.owner)) (drop FIRST_MORTAL cells) + one
          (lives x.owner))
          (sym (drop-set-lt FIRST_MORTAL cells c x low))
          (ap (λ b. sum_by (λ z. one (lives z.owner)) (drop FIRST_MORTAL cells) + one b) (sym (same low)))
      | inr high ↦
          let e : FIRST_MORTAL + (c - FIRST_MORTAL) ≡ c = omega arith in
          let within : c - FIRST_MORTAL < length (drop FIRST_MORTAL cells) =
          omega (arith, length-drop FIRST_MORTAL cells) in
          let moved : drop FIRST_MORTAL (set cells c x) ≡ set (drop FIRST_MORTAL cells) (c - FIRST_MORTAL) x =
          subst (λ i. drop FIRST_MORTAL (set cells i x) ≡ set (drop FIRST_MORTAL cells) (c - FIRST_MORTAL) x) e
          (drop-set-add FIRST_MORTAL cells (c - FIRST_MORTAL) x) in
          let read : get_or (drop FIRST_MORTAL cells) (c - FIRST_MORTAL) no_cell ≡ get_or cells c no_cell =
          get_or-drop FIRST_MORTAL cells (c - FIRST_MORTAL) no_cell ∙ ap (λ i. get_or cells i no_cell) e in
          subst (λ (l : List Cell). sum_by (λ y. one (lives y.owner)) l + one (lives (get_or cells c no_cell).owner)
          ≡ sum_by (λ y. one (lives y.owner)) (drop FIRST_MORTAL cells) + one (lives x.owner))
          (sym moved)
          (subst (λ (y : Cell). sum_by (λ z. one (lives z.owner)) (set (drop FIRST_MORTAL cells) (c - FIRST_MORTAL) x)
          + one (lives y.owner) ≡ sum_by (λ z. one (lives z.owner)) (drop FIRST_MORTAL cells) + one (lives x.owner))
          read (sum_by-set (λ z. one (lives z.owner)) (drop FIRST_MORTAL cells) (c - FIRST_MORTAL) x no_cell within))
    ]

-- ---- the whole, clause by clause

module _ (h : Heap) (t c : ℕ) (n : New) (sound : IsSound h) (fits : Fits h t c n) where
  abbrev h' : Heap
  h' = changed h t c n

  at_frames : t < length h.frames
  at_frames = omega (arith, sound.shaped.frames, fits.thread_inside)

  at_popped : t < length h.popped
  at_popped = omega (arith, sound.shaped.popped, fits.thread_inside)

  at_works : t < length h.worklists
  at_works = omega (arith, sound.shaped.worklists, fits.thread_inside)

  changed_shape : IsShaped h'
  changed_shape =
      let cells : length (set h.cells c n.cell) ≡ length h.cells = length-set h.cells c n.cell in
      let rows : length (set h.rows t n.row) ≡ length h.rows = length-set h.rows t n.row in
      let frames : length (set h.frames t n.frame) ≡ length h.frames = length-set h.frames t n.frame in
      let worklists : length (set h.worklists t n.worklist) ≡ length h.worklists =
      length-set h.worklists t n.worklist in
      let popped : length (set h.popped t n.popped) ≡ length h.popped = length-set h.popped t n.popped in
      record {
        options = subst (λ m. AreOptions m h.limit) (sym cells) sound.shaped.options;
        entries = fits.lists ∙ sound.shaped.entries ∙ sym cells;
        root = subst (λ m. 0 < m) (sym rows) sound.shaped.root;
        threads = subst (λ m. m ≤ MOST_THREADS + 1) (sym rows) sound.shaped.threads;
        frames = frames ∙ sound.shaped.frames ∙ sym rows;
        popped = popped ∙ sound.shaped.popped ∙ sym rows;
        worklists = worklists ∙ sound.shaped.worklists ∙ sym rows;
        queues = fits.queues ∙ sound.shaped.queues ∙ sym rows;
        notify_words = sound.shaped.notify_words ∙ sym rows;
        gathered = sound.shaped.gathered ∙ sym rows;
        marks = λ s low high. read_by (λ j marks. 0 < j → j < length h.rows
            → length marks ≡ length (set h.cells c n.cell)) h.worklists t n.worklist [] at_works
            (λ a b. fits.marks ∙ sound.shaped.marks t a b ∙ sym cells) (λ j ne a b. sound.shaped.marks j a b
            ∙ sym cells) s low (subst (λ m. s < m) rows high);
        popped_words = λ s low high. read_by (λ j words. 0 < j → j < length h.rows
            → length words ≡ words_for (length (set h.cells c n.cell))) h.popped t n.popped [] at_popped
            (λ a b. fits.words ∙ sound.shaped.popped_words t a b ∙ ap words_for (sym cells))
            (λ j ne a b. sound.shaped.popped_words j a b ∙ ap words_for (sym cells)) s low
            (subst (λ m. s < m) rows high);
        queue_words = λ s low high. fits.queue_words s ∙ sound.shaped.queue_words s low (subst (λ m. s < m) rows high)
            ∙ ap words_for (sym cells);
      }

  changed_counted : (q : ℕ) → FIRST_MORTAL ≤ q → counted_in (cell_at h' q) ≡ pos (held h' q)
  changed_counted =
      read_by (λ q y. FIRST_MORTAL ≤ q → counted_in y ≡ pos (held h' q)) h.cells c n.cell no_cell fits.cell_inside
      (λ mortal. here_balance _ _ (in_frames h' c) (in_popped h' c) (in_hands h' c) (in_queues h' c) (in_entries h' c)
      (in_frames h c) (in_popped h c) (in_hands h c) (in_queues h c) (in_entries h c) _ _ _ _ _ _
      (frames_sum h t c n.frame at_frames) (popped_sum h t c n.popped at_popped)
      (hands_sum h t c n.row fits.thread_inside) (sound.counted c mortal) (fits.counted_here mortal))
      (λ q ne mortal. else_balance _ (in_frames h' q) (in_popped h' q) (in_hands h' q) (in_queues h' q)
      (in_entries h' q) (in_frames h q) (in_popped h q) (in_hands h q) (in_queues h q) (in_entries h q) _ _ _ _ _ _
      (frames_sum h t q n.frame at_frames) (popped_sum h t q n.popped at_popped)
      (hands_sum h t q n.row fits.thread_inside) (sound.counted q mortal) (fits.counted_else q mortal ne))

  changed_gripped : (q : ℕ) → FIRST_MORTAL ≤ q → gripped h' q ≡ grips_of (cell_at h' q)
  changed_gripped =
      read_by (λ q y. FIRST_MORTAL ≤ q → gripped h' q ≡ grips_of y) h.cells c n.cell no_cell fits.cell_inside
      (λ mortal. omega (
        arith,
        marks_sum h t c n.worklist at_works,
        grips_sum h t c n.row fits.thread_inside,
        sound.gripped c mortal,
        fits.gripped_here mortal,
      ))
      (λ q ne mortal. omega (
        arith,
        marks_sum h t q n.worklist at_works,
        grips_sum h t q n.row fits.thread_inside,
        sound.gripped q mortal,
        fits.gripped_else q mortal ne,
      ))

  changed_most : (q : ℕ) → FIRST_MORTAL ≤ q → asks h' q ≤ asks_most (cell_at h' q)
  changed_most =
      read_by (λ q y. FIRST_MORTAL ≤ q → asks h' q ≤ asks_most y) h.cells c n.cell no_cell fits.cell_inside
      (λ mortal. omega (
        arith,
        hands_sum h t c n.row fits.thread_inside,
        popped_sum h t c n.popped at_popped,
        fits.most_here mortal,
      ))
      (λ q ne mortal. omega (
        arith,
        hands_sum h t q n.row fits.thread_inside,
        popped_sum h t q n.popped at_popped,
        fits.asks_else q mortal ne,
        sound.most q mortal,
      ))

  changed_least : (q : ℕ) → FIRST_MORTAL ≤ q → asks_least (cell_at h' q) ≤ asks h' q + offered h' q
  changed_least =
      read_by (λ q y. FIRST_MORTAL ≤ q → asks_least y ≤ asks h' q + offered h' q) h.cells c n.cell no_cell
      fits.cell_inside
      (λ mortal. omega (
        arith,
        hands_sum h t c n.row fits.thread_inside,
        popped_sum h t c n.popped at_popped,
        offers_sum h t c n.row fits.thread_inside,
        fits.least_here mortal,
      ))
      (λ q ne mortal. omega (
        arith,
        hands_sum h t q n.row fits.thread_inside,
        popped_sum h t q n.popped at_popped,
        offers_sum h t q n.row fits.thread_inside,
        fits.asks_else q mortal ne,
        fits.offers_else q mortal ne,
        sound.least q mortal,
      ))

  stays_closed : h.edition ≡ editions.One → (j k : ℕ) → is_closed (row_at h j).stage k ≡ true
      → is_closed (row_at h' j).stage k ≡ true
  stays_closed first j k = read_by (λ i row. is_closed (row_at h i).stage k ≡ true → is_closed row.stage k ≡ true)
      h.rows t n.row no_row fits.thread_inside (fits.closes first k) (λ i _ closed. closed) j

  changed_hands : (s d : ℕ) (p : Phase) → (row_at h' s).hand ≡ hands.Busy p d → HandFits h' s p d
  unfolding PhaseHolds
  changed_hands s d p busy =
      let bearer : (j : ℕ) (row : Row) (popped : List ℕ) (y : Cell) (e : ℕ)
      → PhaseFits h.edition j row popped y (row_at h y.bearer).stage e p
      → PhaseFits h.edition j row popped y (row_at h' y.bearer).stage e p =
      λ j row popped y e. other_bearer h.edition j row popped y (row_at h y.bearer).stage (row_at h' y.bearer).stage e p
      (λ _ first. stays_closed first y.bearer (e / 32)) in
      let own : n.row.hand ≡ hands.Busy p d → PhaseHolds h' t n.row (popped_at h' t) d p (cell_at h' d) = λ busy.
      let said : (d ≡ c) × (FIRST_MORTAL ≤ c) × PhaseFits h.edition t n.row n.popped n.cell
      (row_at h n.cell.bearer).stage c p = fits.hand p d busy in
      subst (λ e. PhaseHolds h' t n.row (popped_at h' t) e p (cell_at h' e)) (sym said.0)
      (subst (λ words. PhaseHolds h' t n.row words c p (cell_at h' c))
      (sym (read_here h.popped t n.popped [] at_popped))
      (subst (λ y. PhaseHolds h' t n.row n.popped c p y) (sym (read_here h.cells c n.cell no_cell fits.cell_inside))
      (said.1, bearer t n.row n.popped n.cell c said.2))) in
      let others : (j : ℕ) → j ≢ t → (row_at h j).hand ≡ hands.Busy p d
      → PhaseHolds h' j (row_at h j) (popped_at h' j) d p (cell_at h' d) = λ j ne busy.
      subst (λ words. PhaseHolds h' j (row_at h j) words d p (cell_at h' d))
      (sym (read_there h.popped t j n.popped [] ne))
      (read_by (λ e y. (row_at h j).hand ≡ hands.Busy p e → PhaseHolds h' j (row_at h j) (popped_at h j) e p y) h.cells
      c n.cell no_cell fits.cell_inside
      (λ at_c. (
        (sound.hands j c p at_c).mortal,
        bearer j (row_at h j) (popped_at h j) n.cell c
            (fits.hands_else j p ne at_c),
      ))
      (λ e _ at_e. (
        (sound.hands j e p at_e).mortal,
        bearer j (row_at h j) (popped_at h j) (cell_at h e) e
            (sound.hands j e p at_e).fits,
      ))
      d busy) in
      let holds : PhaseHolds h' s (row_at h' s) (popped_at h' s) d p (cell_at h' d) =
      read_by (λ j row. row.hand ≡ hands.Busy p d → PhaseHolds h' j row (popped_at h' j) d p (cell_at h' d)) h.rows t
      n.row no_row fits.thread_inside own others s busy in
      record { mortal = holds.0; fits = holds.1 }

  changed_cells : (q : ℕ) → FIRST_MORTAL ≤ q → CellFits (length (set h.rows t n.row)) h.limit (rests_at h')
      (cell_at h' q) (get_or n.entries q [])
  changed_cells q mortal =
      let kept : CellFits (length h.rows) h.limit (rests_at h) (cell_at h' q) (get_or n.entries q []) =
      read_by (λ j y. FIRST_MORTAL ≤ j → CellFits (length h.rows) h.limit (rests_at h) y (get_or n.entries j []))
      h.cells c n.cell no_cell fits.cell_inside
      fits.cell
      (λ j ne mortal. other_entries (length h.rows) h.limit (rests_at h) (cell_at h j) (entries_at h j)
      (get_or n.entries j []) (fits.fewer j ne) (sound.cells j mortal))
      q mortal in
      subst (λ m. CellFits m h.limit (rests_at h') (cell_at h' q) (get_or n.entries q []))
      (sym (length-set h.rows t n.row))
      (resting_cell (length h.rows) h.limit (rests_at h) (rests_at h') (cell_at h' q) (get_or n.entries q [])
      (λ s owner rest. elim (cases_eq s t) [
        | inl same ↦ fits.resting q mortal (owner ∙ ap owners.Thread same)
            (sym (ap (λ (row : Row). rests h.edition row.stage) (read_here h.rows t n.row no_row fits.thread_inside))
            ∙ ap (rests_at h') (sym same) ∙ rest)
        | inr other ↦ kept.rested s owner
            (sym (ap (λ (row : Row). rests h.edition row.stage) (read_there h.rows t s n.row no_row other)) ∙ rest)
      ])
      kept)

  changed_immortals : (q : ℕ) → q < FIRST_MORTAL → ImmortalFits q (cell_at h' q) (get_or n.entries q [])
  changed_immortals =
      read_by (λ j y. j < FIRST_MORTAL → ImmortalFits j y (get_or n.entries j [])) h.cells c n.cell no_cell
      fits.cell_inside
      fits.immortal
      (λ j ne low. immortal_entries j (cell_at h j) (entries_at h j) (get_or n.entries j []) (fits.fewer j ne)
      (sound.immortals j low))

  changed_works : (s q : ℕ) → is_marked (worklist_at h' s) q ≡ true → WorklistFits s q (cell_at h' q)
  changed_works s q marked =
      read_by (λ j marks. is_marked marks q ≡ true → WorklistFits j q (cell_at h' q)) h.worklists t n.worklist
      [] at_works
      (λ on. read_by (λ e y. is_marked n.worklist e ≡ true → WorklistFits t e y) h.cells c n.cell no_cell
      fits.cell_inside
      fits.works_here (λ e ne on. sound.worklists t e (fits.works_own e ne on)) q on)
      (λ j ne on. read_by (λ e y. is_marked (worklist_at h j) e ≡ true → WorklistFits j e y) h.cells c n.cell no_cell
      fits.cell_inside
      (fits.works_else j ne) (λ e _ on. sound.worklists j e on) q on)
      s marked

  changed_threads : (s : ℕ)
      → ThreadFits h.edition (words_for (length (set h.cells c n.cell))) (row_at h' s) (frame_at h' s) (popped_at h' s)
      (worklist_at h' s) (get_or n.queues s []) (is_gathered h s)
  changed_threads s =
      let m : ℕ = words_for (length h.cells) in
      subst (λ i. ThreadFits h.edition (words_for i) (row_at h' s) (frame_at h' s) (popped_at h' s) (worklist_at h' s)
      (get_or n.queues s []) (is_gathered h s)) (sym (length-set h.cells c n.cell))
      (elim (cases_eq s t) [
        | inl same ↦ subst (λ j. ThreadFits h.edition m (row_at h' j) (frame_at h' j) (popped_at h' j)
            (worklist_at h' j) (get_or n.queues j []) (is_gathered h j)) (sym same)
            (subst (λ row. ThreadFits h.edition m row (frame_at h' t) (popped_at h' t) (worklist_at h' t)
            (get_or n.queues t []) (is_gathered h t)) (sym (read_here h.rows t n.row no_row fits.thread_inside))
            (subst (λ frame. ThreadFits h.edition m n.row frame (popped_at h' t) (worklist_at h' t)
            (get_or n.queues t []) (is_gathered h t)) (sym (read_here h.frames t n.frame [] at_frames))
            (subst (λ words. ThreadFits h.edition m n.row n.frame words (worklist_at h' t) (get_or n.queues t [])
            (is_gathered h t)) (sym (read_here h.popped t n.popped [] at_popped))
            (subst (λ worklist. ThreadFits h.edition m n.row n.frame n.popped worklist (get_or n.queues t [])
            (is_gathered h t)) (sym (read_here h.worklists t n.worklist [] at_works)) fits.own))))
        | inr other ↦
            (subst (λ row. ThreadFits h.edition m row (frame_at h' s) (popped_at h' s) (worklist_at h' s)
            (get_or n.queues s []) (is_gathered h s)) (sym (read_there h.rows t s n.row no_row other))
            (subst (λ frame. ThreadFits h.edition m (row_at h s) frame (popped_at h' s) (worklist_at h' s)
            (get_or n.queues s []) (is_gathered h s)) (sym (read_there h.frames t s n.frame [] other))
            (subst (λ words. ThreadFits h.edition m (row_at h s) (frame_at h s) words (worklist_at h' s)
            (get_or n.queues s []) (is_gathered h s)) (sym (read_there h.popped t s n.popped [] other))
            (subst (λ worklist. ThreadFits h.edition m (row_at h s) (frame_at h s) (popped_at h s) worklist
            (get_or n.queues s []) (is_gathered h s)) (sym (read_there h.worklists t s n.worklist [] other))
            (other_queue h.edition m (row_at h s) (frame_at h s) (popped_at h s) (worklist_at h s) (queue_at h s)
            (get_or n.queues s []) (is_gathered h s) (λ k. fits.queues_else s k other) (sound.threads s))))))
      ])

  changed_ledger : sum_by (λ row. row.allocs) (set h.rows t n.row) + n.past_allocs ≡ sum_by (λ row. row.frees)
      (set h.rows t n.row) + n.past_frees + live_count h'
  changed_ledger =
      let allocs = sum_by-set (λ (row : Row). row.allocs) h.rows t n.row no_row fits.thread_inside in
      let frees = sum_by-set (λ (row : Row). row.frees) h.rows t n.row no_row fits.thread_inside in
      let live = live_sum h.cells c n.cell fits.cell_inside
      (λ low. ap lives ((fits.immortal low).owner ∙ sym (sound.immortals c low).owner)) in
      omega (arith, allocs, frees, live, fits.ledger, sound.ledger)

  pub changed_sound : IsSound h'
  changed_sound = record {
    shaped = changed_shape;
    counted = changed_counted;
    gripped = changed_gripped;
    most = changed_most;
    least = changed_least;
    hands = changed_hands;
    cells = changed_cells;
    immortals = changed_immortals;
    worklists = changed_works;
    threads = changed_threads;
    bits = fits.bits;
    locks = fits.locks.locks;
    mutexes = fits.locks.mutexes;
    ledger = changed_ledger;
    past = (fits.past, sound.past.1);
    first = λ one. sound.first one ∙ sym (length-set h.rows t n.row);
  }

-- a thread whose stage stays rests as before
pub kept_resting : (h : Heap) (t c : ℕ) (x : Cell) (es : List (List ℕ)) (stage : Stage) → IsSound h → c < length h.cells
    → stage ≡ (row_at h t).stage
    → (FIRST_MORTAL ≤ c → CellFits (length h.rows) h.limit (rests_at h) x (get_or es c []))
    → (q : ℕ) → FIRST_MORTAL ≤ q → (get_or (set h.cells c x) q no_cell).owner ≡ owners.Thread t
    → rests h.edition stage ≡ true
    → (get_or (set h.cells c x) q no_cell).local ≡ 0
kept_resting h t c x es stage sound inside same here q =
    read_by (λ j y. FIRST_MORTAL ≤ j → y.owner ≡ owners.Thread t → rests h.edition stage ≡ true → y.local ≡ 0) h.cells c
    x no_cell inside
    (λ mortal owner rest. (here mortal).rested t owner (ap (rests h.edition) (sym same) ∙ rest))
    (λ j _ mortal owner rest. (sound.cells j mortal).rested t owner (ap (rests h.edition) (sym same) ∙ rest))
    q

-- ---- what most steps leave alone

-- locks stay as they are
pub record SameLocks (h : Heap) (t c : ℕ) (n : New) : Type 0 where
  pub mutex : n.cell.mutex ≡ (cell_at h c).mutex
  pub locked : n.row.locked ≡ (row_at h t).locked
  pub place : (k : ℕ) → (row_at h t).locked ≡ Some k → place_at n.frame k ≡ place_at (frame_at h t) k

pub same_locks : (h : Heap) (t c : ℕ) (n : New) → IsSound h → t < length h.rows → c < length h.cells → SameLocks h t c n
    → LocksFit (changed h t c n)
same_locks h t c n sound thread_inside cell_inside same =
    let h' : Heap = changed h t c n in
    let at_frames : t < length h.frames = omega (arith, sound.shaped.frames, thread_inside) in
    let mutex : (q : ℕ) → (cell_at h' q).mutex ≡ (cell_at h q).mutex = read_by (λ j y. y.mutex ≡ (cell_at h j).mutex)
    h.cells c n.cell no_cell cell_inside same.mutex (λ j _. refl) in
    let locked : (j : ℕ) → (row_at h' j).locked ≡ (row_at h j).locked =
    read_by (λ j row. row.locked ≡ (row_at h j).locked) h.rows t n.row no_row thread_inside same.locked (λ j _. refl) in
    let names : (j k : ℕ) → (row_at h j).locked ≡ Some k
    → place_at (frame_at h' j) k ≡ place_at (frame_at h j) k = λ j k.
    read_by (λ i frame. (row_at h i).locked ≡ Some k → place_at frame k ≡ place_at (frame_at h i) k) h.frames t n.frame
    [] at_frames (same.place k) (λ i _ _. refl) j in
    record {
      locks = λ s k is.
          let before : (row_at h s).locked ≡ Some k = sym (locked s) ∙ is in
          let old : (q : ℕ) × Locks h s k q × ((cell_at h q).mutex ≡ s) = sound.locks s k before in (
            old.0,
            record { thread = old.1.thread; place = is; names = names s k before ∙ old.1.names },
            mutex old.0 ∙ old.2,
          );
      mutexes = λ s q some is.
          let old : (k : ℕ) × Locks h s k q = sound.mutexes s q some (sym (mutex q) ∙ is) in (
            old.0,
            record {
              thread = some;
              place = locked s ∙ old.1.place;
              names = names s old.0 old.1.place
                  ∙ old.1.names;
            },
          );
    }

-- no bit is new, and whoever has one bore the object
pub same_bits : (h : Heap) (t c : ℕ) (n : New) → IsSound h → c < length h.cells
    → ((s q : ℕ) → 0 < bit_of (get_or n.queues s []) q + bit_of (get_or (set h.popped t n.popped) s []) q
    → 0 < bit_of (queue_at h s) q + bit_of (popped_at h s) q)
    → (n.cell.bearer ≡ (cell_at h c).bearer) ⊎ ((s : ℕ) → bit_of (queue_at h s) c + bit_of (popped_at h s) c ≡ 0)
    → (s q : ℕ) → 0 < bit_of (get_or n.queues s []) q + bit_of (get_or (set h.popped t n.popped) s []) q
    → (FIRST_MORTAL ≤ q) × ((get_or (set h.cells c n.cell) q no_cell).bearer ≡ s)
same_bits h t c n sound inside older bearer s q some =
    let before : 0 < bit_of (queue_at h s) q + bit_of (popped_at h s) q = older s q some in
    read_by (λ j y. 0 < bit_of (queue_at h s) j + bit_of (popped_at h s) j → (FIRST_MORTAL ≤ j) × (y.bearer ≡ s))
    h.cells c n.cell no_cell inside
    (λ some. elim bearer [
      | inl same ↦ ((sound.bits s c some).0, same ∙ (sound.bits s c some).1)
      | inr none ↦ absurd (omega (arith, none s, some))
    ])
    (λ j _ some. sound.bits s j some)
    q before

-- where the popped words and the queues stay
pub kept_bits : (h : Heap) (t : ℕ) → IsSound h → t < length h.rows → (s q : ℕ)
    → 0 < bit_of (queue_at h s) q + bit_of (get_or (set h.popped t (popped_at h t)) s []) q
    → 0 < bit_of (queue_at h s) q + bit_of (popped_at h s) q
kept_bits h t sound inside s q =
    read_by (λ j words. 0 < bit_of (queue_at h j) q + bit_of words q
    → 0 < bit_of (queue_at h j) q + bit_of (popped_at h j) q) h.popped t (popped_at h t) []
    (omega (arith, sound.shaped.popped, inside)) (λ some. some) (λ j _ some. some) s

pub same_entries : (xs : List ℕ) → Fewer xs xs
same_entries xs = record { empty = λ e. e; few = omega arith }
