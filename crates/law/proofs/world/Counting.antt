-- The owner counts up and down on the local word; of an immortal only the places change.
use Rattle.std.proofs.Common.{◌≡◌, ◌≢◌, ℕ, ◌+◌, ◌-◌, ◌<◌, ◌≤◌, ◌==◌, ◌&&◌, not, Bool, true, false, if◌then◌else◌, ℤ}
use Rattle.std.proofs.Common.{pos, ◌+ℤ◌, List, [], ◌∷◌, suc, length, get_or, Option, Some, None, sum_by, refl, sym, ◌∙◌}
use Rattle.std.proofs.Common.{ap, subst, inl, inr, arith}
use Rattle.std.proofs.lemmas.List.Sums.{sum_by-cons}
use Rattle.std.proofs.lemmas.Bool.{cases_eq, cases_Bool, eq-eqb, ne_eqb, true≢false}
use Rattle.std.proofs.lemmas.Int.{ints}
use Rattle.brc_words.specs.declared.limits.TheConstants.{FIRST_MORTAL, MOST_PLACES}
use Rattle.brc_words.specs.declared.owner.Owner.TheVariants as owners
use Rattle.brc_words.specs.declared.state.State.{State}
use Rattle.brc_words.specs.declared.state.State.TheVariants as states
use Rattle.law.specs.world.Phases.{is_gripping}
use Rattle.law.specs.declared.world.cell.Cell.{Cell}
use Rattle.law.specs.declared.world.edition.Edition.{Edition}
use Rattle.law.specs.declared.world.row.Row.{Row}
use Rattle.law.specs.declared.world.row.Hand.{Hand}
use Rattle.law.specs.declared.world.row.Hand.TheVariants as hands
use Rattle.law.specs.declared.world.row.Phase.{Phase}
use Rattle.law.specs.declared.world.row.Phase.TheVariants as phases
use Rattle.law.specs.declared.world.row.Stage.{Stage}
use Rattle.law.specs.declared.world.row.Stage.TheVariants as stages
use Rattle.law.specs.world.Lists.{one, times, entry_times, is_marked, place_at, filled}
use Rattle.law.specs.world.Heap.{Heap, cell_at, entries_at, row_at, frame_at, popped_at, worklist_at, queue_at}
use Rattle.law.specs.world.Heap.{is_gathered, words_for, no_row}
use Rattle.law.specs.world.Steps.{is_merged, is_default, is_queued}
use Rattle.law.specs.world.Holding.{lives, carries, count_of_state}
use Rattle.law.specs.world.Sound.{IsSound, CellFits, ThreadFits, PhaseFits, HandFits, WorklistFits, Locks, counted_in}
use Rattle.law.specs.world.Sound.{grips_of, grips_by_owner, grips, gripped, held, in_entries, is_threads, asks_least}
use Rattle.law.specs.world.Sound.{asks_most, Offered, offering, rests_at}
use Rattle.law.proofs.world.Naming.{no_mark, grips_free, carries_free, live_counts, sum_one, gripping_owner}
use Rattle.law.proofs.world.Naming.{active_works, offers_free, offers_none, same_shut}
use Rattle.law.proofs.world.Framing.{place_at-filled_else, times-filled, length-filled}
use Rattle.law.proofs.world.Birthing.{active_fits, busy_else}
use Rattle.law.proofs.world.Asking.{Vacant}
use Rattle.law.proofs.world.Changes.{Fewer, same_entries}
use Rattle.law.proofs.world.Plainly.{Plain}

-- ---- an owned object that somebody holds is gripped by nobody, so its local count isn't 0

-- what another thread's hand says of a cell that a thread owns is no birth, merge or burial
others_phase : (e : Edition) (s t : ℕ) (row : Row) (popped : List ℕ) (x : Cell) (g : Stage) (c : ℕ) (p : Phase)
    → PhaseFits e s row popped x g c p
    → x.owner ≡ owners.Thread t → s ≢ t → is_gripping p ≡ false
others_phase e s t row popped x g c p fits owner ne =
    elim (cases_Bool (is_gripping p)) [
      | inr off ↦ off
      | inl grip ↦ absurd (elim (gripping_owner e s row popped x g c p fits grip) [
        | inl claimed ↦ let e : owners.Thread t ≡ owners.Claimed s = sym owner ∙ claimed in cc
        | inr (inl owned) ↦ let e : owners.Thread t ≡ owners.Thread s = sym owner ∙ owned in ne (cc)
        | inr (inr nobody) ↦ let e : owners.Thread t ≡ owners.Nobody = sym owner ∙ nobody in cc
      ])
    ]

-- it says the same of the cell with another local count
others_local : (e : Edition) (s t n : ℕ) (row : Row) (popped : List ℕ) (x : Cell) (g : Stage) (c : ℕ) (p : Phase)
    → PhaseFits e s row popped x g c p
    → x.owner ≡ owners.Thread t → s ≢ t → PhaseFits e s row popped (record x { local = n }) g c p
others_local e s t n row popped x g c phases.Claimed fits owner ne = let e : owners.Thread t ≡ owners.Claimed s =
    sym owner ∙ fits.claimed in absurd (cc)
others_local e s t n row popped x g c phases.Counted fits owner ne = let e : owners.Thread t ≡ owners.Claimed s =
    sym owner ∙ fits.0.claimed in absurd (cc)
others_local e s t n row popped x g c phases.Ready fits owner ne = let e : owners.Thread t ≡ owners.Claimed s =
    sym owner ∙ fits.0.claimed in absurd (cc)
others_local e s t n row popped x g c phases.Untied fits owner ne = let e : owners.Thread t ≡ owners.Nobody = sym owner
    ∙ fits.owner in absurd (cc)
others_local e s t n row popped x g c phases.Shut fits owner ne = same_shut e x (record x { local = n }) g c
    (λ is. is) fits
others_local e s t n row popped x g c phases.Offered fits owner ne = let e : owners.Thread t ≡ owners.Thread s =
    sym owner ∙ fits.owner in absurd (ne (cc))
others_local e s t n row popped x g c phases.Yielding fits owner ne = let e : owners.Thread t ≡ owners.Nobody =
    sym owner ∙ fits.owner in absurd (cc)
others_local e s t n row popped x g c _ fits owner ne = fits

-- terms that are all 0 add up to 0
pub sum_none : {A : Type 0} (f : A → ℕ) (xs : List A) (d : A) → ((i : ℕ) → f (get_or xs i d) ≡ 0) → sum_by f xs ≡ 0
sum_none {A} f [] d none = refl
sum_none {A} f (x ∷ xs) d none = omega (arith, sum_by-cons f x xs, none 0, sum_none f xs d (λ i. none (suc i)))

-- what is on a worklist is held by nothing
pub marked_unheld : (h : Heap) (s c : ℕ) → IsSound h → is_marked (worklist_at h s) c ≡ true → held h c ≡ 0
marked_unheld h s c sound on =
    let fits : WorklistFits s c (cell_at h c) = sound.worklists s c on in
    omega (arith, ints, sound.counted c fits.mortal, live_counts (cell_at h c) fits.lives, fits.total)

pub held_unmarked : (h : Heap) (s c : ℕ) → IsSound h → 1 ≤ held h c → one (is_marked (worklist_at h s) c) ≡ 0
held_unmarked h s c sound some =
    elim (cases_Bool (is_marked (worklist_at h s) c)) [
      | inl on ↦ absurd (omega (arith, some, marked_unheld h s c sound on))
      | inr off ↦ ap one off
    ]

-- a hand of a thread that doesn't own the cell
pub hand_apart : (h : Heap) (t s c : ℕ) (hand : Hand) → IsSound h → (cell_at h c).owner ≡ owners.Thread t → s ≢ t
    → (row_at h s).hand ≡ hand → one (grips c hand) ≡ 0
hand_apart h t s c hands.Free sound owner ne e = refl
hand_apart h t s c (hands.Busy p d) sound owner ne e =
    elim (cases_eq d c) [
      | inl same ↦
          let fits : HandFits h s p c = sound.hands s c p (e ∙ ap (hands.Busy p) same) in
          ap (λ b. one (b && (d == c))) (others_phase h.edition s t (row_at h s) (popped_at h s)
          (cell_at h c) _ c p fits.fits owner ne)
      | inr other ↦ (busy_else p d c (λ e. other (sym e))).0
    ]

-- nobody grips an object that its owner and others hold
pub owned_ungripped : (h : Heap) (t c : ℕ) → IsSound h → FIRST_MORTAL ≤ c → (cell_at h c).owner ≡ owners.Thread t
    → 1 ≤ held h c
    → one (grips c (row_at h t).hand) ≡ 0 → gripped h c ≡ 0
owned_ungripped h t c sound mortal owner some free =
    let marks : sum_by (λ (marks : List Bool). one (is_marked marks c)) h.worklists ≡ 0 =
    sum_none (λ (marks : List Bool). one (is_marked marks c)) h.worklists [] (λ s. held_unmarked h s c sound some) in
    let rows : sum_by (λ (row : Row). one (grips c row.hand)) h.rows ≡ 0 =
    sum_none (λ (row : Row). one (grips c row.hand)) h.rows no_row (λ s.
    elim (cases_eq s t) [
      | inl same ↦ ap (λ j. one (grips c (row_at h j).hand)) same ∙ free
      | inr other ↦ hand_apart h t s c (row_at h s).hand sound owner other refl
    ]) in
    omega (arith, marks, rows)

pub local_positive : (h : Heap) (t c : ℕ) → IsSound h → FIRST_MORTAL ≤ c → (cell_at h c).owner ≡ owners.Thread t
    → gripped h c ≡ 0 → 1 ≤ (cell_at h c).local
local_positive h t c sound mortal owner none =
    let e : one ((cell_at h c).local == 0) ≡ 0 =
    sym (ap (λ o. grips_by_owner o (cell_at h c).state (cell_at h c).local (cell_at h c).count) owner)
    ∙ sym (sound.gripped c mortal) ∙ none in
    elim (cases_eq (cell_at h c).local 0) [
      | inl zero ↦ absurd (omega (arith, e, ap one (eq-eqb (cell_at h c).local 0 zero)))
      | inr some ↦ omega (arith, some)
    ]

-- before the merge local and shared count are the total
pub total_unmerged : (state : State) (local : ℕ) (count : ℤ) → is_merged state ≡ false
    → count_of_state state local count ≡ pos local +ℤ count
total_unmerged states.Default local count h = refl
total_unmerged states.Queued local count h = refl
total_unmerged states.Merged local count h = absurd (true≢false h)

-- the words of a cell that a thread owns, at another local count
pub owned_counts : (x : Cell) (t n : ℕ) → x.owner ≡ owners.Thread t → is_merged x.state ≡ false
    → counted_in (record x { local = n }) ≡ pos n +ℤ x.count
owned_counts x t n owner unmerged = live_counts (record x { local = n }) (ap lives owner)
    ∙ total_unmerged x.state n x.count unmerged

-- what the cell says of itself, at another local count and with entries that are no more
local_cell : (threads limit : ℕ) (resting : ℕ → Bool) (x : Cell) (n : ℕ) (old new : List ℕ)
    → CellFits threads limit resting x old → (lives x.owner ≡ true → n ≤ limit)
    → ((s : ℕ) → x.owner ≡ owners.Thread s → resting s ≡ true → n ≡ 0) → Fewer old new
    → CellFits threads limit resting (record x { local = n }) new
local_cell threads limit resting x n old new fits limited rested fewer = record {
  default = fits.default;
  owned_unmerged = fits.owned_unmerged;
  owned_by_bearer = fits.owned_by_bearer;
  rested = rested;
  dead_empty = λ dead. fewer.empty (fits.dead_empty dead);
  dead_count = fits.dead_count;
  born = fits.born;
  limited = limited;
  plain = λ plain. fewer.empty (fits.plain plain);
  few = omega (arith, fits.few, fewer.few);
}

-- an active thread doesn't rest
resting_never : (h : Heap) (t : ℕ) (x : Cell) (n : ℕ) → x.owner ≡ owners.Thread t → (row_at h t).stage ≡ stages.Active
    → (s : ℕ) → x.owner ≡ owners.Thread s → rests_at h s ≡ true → n ≡ 0
resting_never h t x n owner active s e rest =
    let both : owners.Thread t ≡ owners.Thread s = sym owner ∙ e in
    let same : t ≡ s = cc in
    absurd (true≢false (sym rest ∙ ap (rests_at h) (sym same) ∙ active_works h.edition _ active))

-- ---- up

-- a lock's place is filled, so it isn't the vacant one
pub lock_stays : (h : Heap) (t k c : ℕ) → IsSound h → place_at (frame_at h t) k ≡ None
    → (j : ℕ) → (row_at h t).locked ≡ Some j → place_at (filled (frame_at h t) k c) j ≡ place_at (frame_at h t) j
lock_stays h t k c sound none j locked =
    let lock : (q : ℕ) × Locks h t j q × ((cell_at h q).mutex ≡ t) = sound.locks t j locked in
    place_at-filled_else (frame_at h t) k c j (λ same.
    let e : None ≡ Some lock.0 = sym none ∙ ap (place_at (frame_at h t)) (sym same) ∙ lock.1.names in absurd (cc))

-- what is common to counting up: one more place has the cell
pub record Ups (h : Heap) (t c k : ℕ) : Type 0 where
  pub thread : 0 < t
  pub inside : t < length h.rows
  pub cell_inside : c < length h.cells
  pub place : Vacant (frame_at h t) k
  pub active : (row_at h t).stage ≡ stages.Active
  pub here : is_gathered h t ≡ false
  pub hand : (row_at h t).hand ≡ hands.Free

-- what counting up owes besides: which word it writes, and that the total rises by one
pub record Raises (h : Heap) (t c : ℕ) (x : Cell) : Type 0 where
  pub immortal : c < FIRST_MORTAL → x ≡ cell_at h c
  pub mutex : x.mutex ≡ (cell_at h c).mutex
  pub bearer : x.bearer ≡ (cell_at h c).bearer
  pub owner : x.owner ≡ (cell_at h c).owner
  pub state : x.state ≡ (cell_at h c).state
  pub counted : FIRST_MORTAL ≤ c → counted_in x ≡ counted_in (cell_at h c) +ℤ pos 1
  pub gripped : FIRST_MORTAL ≤ c → grips_of x ≡ grips_of (cell_at h c)
  pub hands_else : (s : ℕ) (p : Phase) → s ≢ t → (row_at h s).hand ≡ hands.Busy p c
      → PhaseFits h.edition s (row_at h s) (popped_at h s) x (row_at h x.bearer).stage c p
  pub cell : FIRST_MORTAL ≤ c → CellFits (length h.rows) h.limit (rests_at h) x (entries_at h c)
  pub worklists : (s : ℕ) → is_marked (worklist_at h s) c ≡ true → WorklistFits s c x

pub up_fits : (h : Heap) (t c k : ℕ) (x : Cell) → IsSound h → Ups h t c k → Raises h t c x
    → Plain h t c x (row_at h t) (filled (frame_at h t) k c) (worklist_at h t) h.entries
up_fits h t c k x sound ups raises = record {
  thread = ups.thread;
  thread_inside = ups.inside;
  cell_inside = ups.cell_inside;
  immortal = raises.immortal;
  mutex = raises.mutex;
  bearer = inl raises.bearer;
  stage = refl;
  locked = refl;
  locked_place = lock_stays h t k c sound ups.place.none;
  marks = refl;
  lists = refl;
  counted_here = λ mortal. omega (
    arith,
    ints,
    raises.counted mortal,
    times-filled c (frame_at h t) k c ups.place.none,
    ap one (eq-eqb c c refl),
  );
  counted_else = λ q _ ne. omega (
    arith,
    times-filled q (frame_at h t) k c ups.place.none,
    ap one (ne_eqb c q (λ e. ne (sym e))),
  );
  gripped_here = λ mortal. omega (arith, raises.gripped mortal);
  gripped_else = λ q _ ne. refl;
  most_here = λ mortal. omega (arith, sound.most c mortal, ap (λ s. one (not (is_default s))) raises.state);
  least_here = λ mortal. omega (arith, sound.least c mortal, same_least x (cell_at h c) raises.owner raises.state);
  asks_else = λ q _ ne. refl;
  offers_else = λ q _ ne. refl;
  hand = λ p d busy. let bad : hands.Free ≡ hands.Busy p d = sym ups.hand ∙ busy in absurd (cc);
  hands_else = raises.hands_else;
  cell = raises.cell;
  fewer = λ q _. same_entries _;
  works_here = raises.worklists t;
  works_own = λ q _ on. on;
  works_else = λ s _ on. raises.worklists s on;
  own = active_fits _ _ (row_at h t) (row_at h t) (frame_at h t) _ _ (worklist_at h t) _ _ _ ups.active ups.here refl
      (λ _ _. ups.hand) (sound.threads t).births
      (length-filled (frame_at h t) k c ups.place.low (sound.threads t).places);
  ledger = omega (arith, ap (λ o. one (lives o)) raises.owner);
}
  where
    same_least : (x y : Cell) → x.owner ≡ y.owner → x.state ≡ y.state → asks_least x ≡ asks_least y
    same_least x y owner state = ap (λ o. one (is_queued x.state && is_threads o)) owner
        ∙ ap (λ s. one (is_queued s && is_threads y.owner)) state

-- an immortal's words don't change
pub raises_immortal : (h : Heap) (t c : ℕ) → IsSound h → c < FIRST_MORTAL → Raises h t c (cell_at h c)
raises_immortal h t c sound low = record {
  immortal = λ _. refl;
  mutex = refl;
  bearer = refl;
  owner = refl;
  state = refl;
  counted = λ high. absurd (omega (arith, low, high));
  gripped = λ _. refl;
  hands_else = λ s p _ busy. (sound.hands s c p busy).fits;
  cell = λ high. absurd (omega (arith, low, high));
  worklists = λ s on. sound.worklists s c on;
}

-- the owner counts on the local word
pub raises_local : (h : Heap) (t c : ℕ) → IsSound h → (row_at h t).hand ≡ hands.Free → FIRST_MORTAL ≤ c
    → (cell_at h c).owner ≡ owners.Thread t
    → (row_at h t).stage ≡ stages.Active → (cell_at h c).local < h.limit → 1 ≤ held h c
    → Raises h t c (record (cell_at h c) { local = (cell_at h c).local + 1 })
raises_local h t c sound free mortal owner active below some =
    let x : Cell = cell_at h c in
    let none : gripped h c ≡ 0 = owned_ungripped h t c sound mortal owner some (grips_free c _ free) in
    let fits : CellFits (length h.rows) h.limit (rests_at h) x (entries_at h c) = sound.cells c mortal in
    let unmerged = fits.owned_unmerged t owner in
    let old_grip : grips_of x ≡ 0 = sym (sound.gripped c mortal) ∙ none in
    let new_grip : grips_of (record x { local = x.local + 1 }) ≡ 0 =
    ap (λ o. grips_by_owner o x.state (x.local + 1) x.count) owner
    ∙ ap one (ne_eqb (x.local + 1) 0 (λ e. omega (arith, e))) in
    record {
      immortal = λ low. absurd (omega (arith, low, mortal));
      mutex = refl;
      bearer = refl;
      owner = refl;
      state = refl;
      counted = λ _. omega (
        arith,
        ints,
        owned_counts x t x.local owner unmerged,
        owned_counts x t (x.local + 1) owner unmerged,
      );
      gripped = λ _. new_grip ∙ sym old_grip;
      hands_else = λ s p ne busy. others_local h.edition s t (x.local + 1) (row_at h s) (popped_at h s) x _ c p
          (sound.hands s c p busy).fits owner ne;
      cell = λ _. local_cell _ _ _ x (x.local + 1) _ _ fits (λ _. omega (arith, below))
          (resting_never h t (cell_at h c) _ owner active) (same_entries _);
      worklists = λ s on. absurd (no_mark _ (held_unmarked h s c sound some) on);
    }

-- ---- down

-- what is common to counting down: one place, or one entry, lets the cell go
pub record Downs (h : Heap) (t c : ℕ) (f : List (Option ℕ)) (es : List (List ℕ)) : Type 0 where
  pub thread : 0 < t
  pub inside : t < length h.rows
  pub cell_inside : c < length h.cells
  pub unlocked : (row_at h t).locked ≡ None
  pub here : is_gathered h t ≡ false
  pub hand : (row_at h t).hand ≡ hands.Free
  pub let_go : (q : ℕ) → times q f + sum_by (entry_times q) es + one (c == q) ≡ times q (frame_at h t) + in_entries h q
  pub vacant : (j : ℕ) → place_at (frame_at h t) j ≡ None → place_at f j ≡ None
  pub places : length f ≤ MOST_PLACES
  pub lists : length es ≡ length h.entries
  pub fewer : (q : ℕ) → Fewer (entries_at h q) (get_or es q [])

-- what counting down owes besides: which word it writes, that the total falls by one, and what is in the hand then
pub record Lowers (h : Heap) (t c : ℕ) (x : Cell) (now : Hand) (f : List (Option ℕ)) (es : List (List ℕ)) : Type 0 where
  pub immortal : c < FIRST_MORTAL → x ≡ cell_at h c
  pub mutex : x.mutex ≡ (cell_at h c).mutex
  pub bearer : x.bearer ≡ (cell_at h c).bearer
  pub live : lives x.owner ≡ lives (cell_at h c).owner
  pub most : asks_most x ≡ asks_most (cell_at h c)
  pub least : asks_least x ≡ asks_least (cell_at h c)
  pub counted : FIRST_MORTAL ≤ c → counted_in x +ℤ pos 1 ≡ counted_in (cell_at h c)
  pub gripped : FIRST_MORTAL ≤ c → grips_of x ≡ grips_of (cell_at h c) + one (grips c now)
  pub grips_else : (q : ℕ) → q ≢ c → one (grips q now) ≡ 0
  pub carries_none : (q : ℕ) → one (carries q now) ≡ 0
  pub offers_now : (q : ℕ) → one (offering q now) ≡ 0
  pub hand : (p : Phase) (d : ℕ) → now ≡ hands.Busy p d
      → (d ≡ c) × (FIRST_MORTAL ≤ c) × PhaseFits h.edition t (record (row_at h t) { hand = now }) (popped_at h t) x
      (row_at h x.bearer).stage c p
  pub hands_else : (s : ℕ) (p : Phase) → s ≢ t → (row_at h s).hand ≡ hands.Busy p c
      → PhaseFits h.edition s (row_at h s) (popped_at h s) x (row_at h x.bearer).stage c p
  pub cell : FIRST_MORTAL ≤ c → CellFits (length h.rows) h.limit (rests_at h) x (get_or es c [])
  pub worklists : (s : ℕ) → is_marked (worklist_at h s) c ≡ true → WorklistFits s c x
  pub own : ThreadFits h.edition (words_for (length h.cells)) (record (row_at h t) { hand = now }) f (popped_at h t)
      (worklist_at h t) (queue_at h t) (is_gathered h t)

pub down_fits : (h : Heap) (t c : ℕ) (x : Cell) (now : Hand) (f : List (Option ℕ)) (es : List (List ℕ)) → IsSound h
    → Downs h t c f es → Lowers h t c x now f es
    → Plain h t c x (record (row_at h t) { hand = now }) f (worklist_at h t) es
down_fits h t c x now f es sound downs lowers = record {
  thread = downs.thread;
  thread_inside = downs.inside;
  cell_inside = downs.cell_inside;
  immortal = lowers.immortal;
  mutex = lowers.mutex;
  bearer = inl lowers.bearer;
  stage = refl;
  locked = refl;
  locked_place = λ j e. let bad : None ≡ Some j = sym downs.unlocked ∙ e in absurd (cc);
  marks = refl;
  lists = downs.lists;
  counted_here = λ mortal. omega (
    arith,
    ints,
    lowers.counted mortal,
    ap one (eq-eqb c c refl),
    downs.let_go c,
    lowers.carries_none c,
    carries_free c _ downs.hand,
  );
  counted_else = λ q _ ne. omega (
    arith,
    downs.let_go q,
    ap one (ne_eqb c q (λ e. ne (sym e))),
    lowers.carries_none q,
    carries_free q _ downs.hand,
  );
  gripped_here = λ mortal. omega (arith, lowers.gripped mortal, grips_free c _ downs.hand);
  gripped_else = λ q _ ne. omega (arith, grips_free q _ downs.hand, lowers.grips_else q ne);
  most_here = λ mortal. omega (
    arith,
    sound.most c mortal,
    lowers.most,
    lowers.carries_none c,
    carries_free c _ downs.hand,
  );
  least_here = λ mortal. omega (
    arith,
    sound.least c mortal,
    lowers.least,
    lowers.carries_none c,
    carries_free c _ downs.hand,
    offers_free c _ downs.hand,
  );
  offers_else = λ q _ ne. lowers.offers_now q ∙ sym (offers_free q _ downs.hand);
  asks_else = λ q _ ne. lowers.carries_none q ∙ sym (carries_free q _ downs.hand);
  hand = lowers.hand;
  hands_else = lowers.hands_else;
  cell = lowers.cell;
  fewer = λ q _. downs.fewer q;
  works_here = lowers.worklists t;
  works_own = λ q _ on. on;
  works_else = λ s _ on. lowers.worklists s on;
  own = lowers.own;
  ledger = omega (arith, ap one lowers.live);
}

-- an immortal's words don't change
pub lowers_immortal : (h : Heap) (t c : ℕ) (f : List (Option ℕ)) (es : List (List ℕ)) → IsSound h → Downs h t c f es
    → c < FIRST_MORTAL
    → Lowers h t c (cell_at h c) (row_at h t).hand f es
lowers_immortal h t c f es sound downs low =
    let old : ThreadFits h.edition (words_for (length h.cells)) (row_at h t) (frame_at h t) (popped_at h t)
    (worklist_at h t) (queue_at h t) (is_gathered h t) = sound.threads t in
    record {
      immortal = λ _. refl;
      mutex = refl;
      bearer = refl;
      live = refl;
      most = refl;
      least = refl;
      counted = λ high. absurd (omega (arith, low, high));
      gripped = λ high. absurd (omega (arith, low, high));
      grips_else = λ q _. grips_free q _ downs.hand;
      carries_none = λ q. carries_free q _ downs.hand;
      offers_now = λ q. offers_free q _ downs.hand;
      hand = λ p d busy. let bad : hands.Free ≡ hands.Busy p d = sym downs.hand ∙ busy in absurd (cc);
      hands_else = λ s p ne busy. (sound.hands s c p busy).fits;
      cell = λ high. absurd (omega (arith, low, high));
      worklists = λ s on. sound.worklists s c on;
      own = record {
        inactive_hand = old.inactive_hand;
        inactive_frame = λ off j. downs.vacant j (old.inactive_frame off j);
        inactive_lock = old.inactive_lock;
        closing = old.closing;
        closing_work = old.closing_work;
        opening = old.opening;
        opening_rest = old.opening_rest;
        closed = old.closed;
        gathered_left = old.gathered_left;
        gathered_hand = old.gathered_hand;
        gathered_work = old.gathered_work;
        locked_hand = old.locked_hand;
        births = old.births;
        places = downs.places;
      };
    }

-- the hand after counting down: at 0 it has the cell
abbrev pub down_hand : ℕ → ℕ → Hand → Hand
down_hand c n hand = if n == 1 then hands.Busy phases.Zero c else hand

pub lowers_local : (h : Heap) (t c : ℕ) (f : List (Option ℕ)) (es : List (List ℕ)) → IsSound h → Downs h t c f es
    → FIRST_MORTAL ≤ c
    → (cell_at h c).owner ≡ owners.Thread t → (row_at h t).stage ≡ stages.Active
    → Lowers h t c (record (cell_at h c) { local = (cell_at h c).local - 1 })
    (down_hand c (cell_at h c).local (row_at h t).hand) f es
lowers_local h t c f es sound downs mortal owner active =
    let x : Cell = cell_at h c in
    let hand' : Hand = down_hand c x.local (row_at h t).hand in
    let here : one (c == c) ≡ 1 = ap one (eq-eqb c c refl) in
    let some : 1 ≤ held h c = omega (arith, downs.let_go c, here, sum_one (times c) h.frames t [] refl) in
    let none : gripped h c ≡ 0 = owned_ungripped h t c sound mortal owner some (grips_free c _ downs.hand) in
    let positive : 1 ≤ x.local = local_positive h t c sound mortal owner none in
    let fits : CellFits (length h.rows) h.limit (rests_at h) x (entries_at h c) = sound.cells c mortal in
    let unmerged = fits.owned_unmerged t owner in
    let old_grip : grips_of x ≡ 0 = sym (sound.gripped c mortal) ∙ none in
    let new_grip : grips_of (record x { local = x.local - 1 }) ≡ one (x.local - 1 == 0) =
    ap (λ o. grips_by_owner o x.state (x.local - 1) x.count) owner in
    -- the hand grips the cell exactly where nothing is left on the local word, and never has a reference
    let hands_now : (one (grips c hand') ≡ one (x.local - 1 == 0)) × ((q : ℕ) → q ≢ c → one (grips q hand') ≡ 0)
    × ((q : ℕ) → one (carries q hand') ≡ 0)
    × ((p : Phase) (d : ℕ) → hand' ≡ hands.Busy p d → (d ≡ c) × (p ≡ phases.Zero)) =
    elim (cases_eq x.local 1) [
      | inl last ↦
          let e : hand' ≡ hands.Busy phases.Zero c = ap (λ b. if b then hands.Busy phases.Zero c else (row_at h t).hand)
          (eq-eqb x.local 1 last) in
          let zero : one (x.local - 1 == 0) ≡ 1 = ap one (eq-eqb (x.local - 1) 0 (omega (arith, last))) in (
            ap (λ z. one (grips c z)) e ∙ here ∙ sym zero,
            λ q ne. ap (λ z. one (grips q z)) e ∙ (busy_else phases.Zero c q ne).0,
            λ q. ap (λ z. one (carries q z)) e,
            λ p d busy. let same : hands.Busy phases.Zero c ≡ hands.Busy p d = sym e ∙ busy in (cc, cc),
          )
      | inr more ↦
          let e : hand' ≡ hands.Free = ap (λ b. if b then hands.Busy phases.Zero c else (row_at h t).hand)
          (ne_eqb x.local 1 more) ∙ downs.hand in
          let left : one (x.local - 1 == 0) ≡ 0 =
          ap one (ne_eqb (x.local - 1) 0 (λ z. more (omega (arith, z, positive)))) in (
            grips_free c _ e ∙ sym left,
            λ q ne. grips_free q _ e,
            λ q. carries_free q _ e,
            λ p d busy. let bad : hands.Free ≡ hands.Busy p d = sym e ∙ busy in absurd (cc),
          )
    ] in
    let offers_now : (q : ℕ) → one (offering q hand') ≡ 0 = λ q. elim (cases_eq x.local 1) [
      | inl last ↦ offers_none phases.Zero c q hand' refl
          (ap (λ b. if b then hands.Busy phases.Zero c else (row_at h t).hand) (eq-eqb x.local 1 last))
      | inr more ↦ offers_free q hand' (ap (λ b. if b then hands.Busy phases.Zero c else (row_at h t).hand)
          (ne_eqb x.local 1 more) ∙ downs.hand)
    ] in
    record {
      immortal = λ low. absurd (omega (arith, low, mortal));
      mutex = refl;
      bearer = refl;
      live = refl;
      most = refl;
      least = refl;
      counted = λ _. omega (
        arith,
        ints,
        owned_counts x t x.local owner unmerged,
        owned_counts x t (x.local - 1) owner unmerged,
        positive,
      );
      gripped = λ _. omega (arith, old_grip, new_grip, hands_now.0);
      grips_else = hands_now.1;
      carries_none = hands_now.2;
      offers_now = offers_now;
      hand = λ p d busy. let said = hands_now.3 p d busy in (
        said.0,
        mortal,
        subst (λ z. PhaseFits h.edition t (record (row_at h t) { hand = hand' }) (popped_at h t)
            (record x { local = x.local - 1 }) (row_at h x.bearer).stage c z) (sym said.1) owner,
      );
      hands_else = λ s p ne busy. others_local h.edition s t (x.local - 1) (row_at h s) (popped_at h s) x _ c p
          (sound.hands s c p busy).fits owner ne;
      cell = λ _. local_cell _ _ _ x (x.local - 1) _ _ fits (λ live. omega (arith, fits.limited live))
          (resting_never h t (cell_at h c) _ owner active) (downs.fewer c);
      worklists = λ s on. absurd (no_mark _ (held_unmarked h s c sound some) on);
      own = active_fits _ _ (row_at h t) _ (frame_at h t) f _ (worklist_at h t) _ _ _ active downs.here refl
          (λ j e. let bad : None ≡ Some j = sym downs.unlocked ∙ e in absurd (cc)) (sound.threads t).births
          downs.places;
    }
