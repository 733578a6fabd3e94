-- A thread without a lock turns one mortal cell, its hand and its worklist, and may let a place or an entry go: what
-- such a step owes, and that it keeps all that reached worlds keep.
use Rattle.std.proofs.Common.{◌≡◌, ◌≢◌, ℕ, ◌+◌, ◌<◌, ◌≤◌, Bool, true, false, pos, ◌+ℤ◌, List, [], length, get_or}
use Rattle.std.proofs.Common.{Option, Some, None, sum_by, refl, sym, ◌∙◌, ap, subst, inl, arith}
use Rattle.std.proofs.lemmas.Bool.{true≢false}
use Rattle.brc_words.specs.declared.limits.TheConstants.{FIRST_MORTAL, MOST_PLACES}
use Rattle.law.specs.declared.world.cell.Cell.{Cell}
use Rattle.law.specs.declared.world.edition.Edition.{Edition}
use Rattle.law.specs.declared.world.event.Step.{Step}
use Rattle.law.specs.declared.world.row.Row.{Row}
use Rattle.law.specs.declared.world.row.Hand.{Hand}
use Rattle.law.specs.declared.world.row.Hand.TheVariants as hands
use Rattle.law.specs.declared.world.row.Phase.{Phase}
use Rattle.law.specs.declared.world.row.Stage.{Stage}
use Rattle.law.specs.declared.world.row.Stage.TheVariants as stages
use Rattle.law.specs.world.Lists.{one, times, entry_times, is_marked, place_at}
use Rattle.law.specs.world.Heap.{Heap, cell_at, entries_at, row_at, frame_at, popped_at, worklist_at, queue_at}
use Rattle.law.specs.world.Heap.{is_gathered}
use Rattle.law.specs.world.Steps.{stage_ok, is_close, needs_lock, is_active, is_open}
use Rattle.law.specs.world.Holding.{lives, carries}
use Rattle.law.specs.world.Sound.{IsSound, CellFits, WorklistFits, ThreadFits, PhaseFits, counted_in, grips_of, grips}
use Rattle.law.specs.world.Sound.{is_active_hand, asks, asks_most, asks_least, in_entries, offering, offered, rests_at}
use Rattle.law.proofs.world.Naming.{offers_else}
use Rattle.law.proofs.world.Asking.{May}
use Rattle.law.proofs.world.Birthing.{no_lock, busy_else}
use Rattle.law.proofs.world.Changes.{Fewer, changed}
use Rattle.law.proofs.world.Plainly.{Plain, plain, plain_sound}

-- who steps: a registered thread that isn't gathered, isn't closing and has no lock
pub record Acts (h : Heap) (t : ℕ) : Type 0 where
  pub thread : 0 < t
  pub inside : t < length h.rows
  pub here : is_gathered h t ≡ false
  pub not_closing : (n : ℕ) → (row_at h t).stage ≢ stages.Closing n
  pub not_opening : (n : ℕ) → (row_at h t).stage ≢ stages.Opening n
  pub unlocked : (row_at h t).locked ≡ None

open_stage : (stage : Stage) (s : Step) (n : ℕ) → stage_ok stage s ≡ true → is_close s ≡ false
    → stage ≢ stages.Closing n
open_stage stages.Active s n ok other e = cc
open_stage (stages.Closing m) s n ok other e = absurd (true≢false (sym ok ∙ other))
open_stage stages.Left s n ok other e = cc
open_stage (stages.Opening m) s n ok other e = cc

all_open : (stage : Stage) (s : Step) (n : ℕ) → stage_ok stage s ≡ true → is_open s ≡ false → stage ≢ stages.Opening n
all_open stages.Active s n ok other e = cc
all_open (stages.Closing m) s n ok other e = cc
all_open stages.Left s n ok other e = cc
all_open (stages.Opening m) s n ok other e = absurd (true≢false (sym ok ∙ other))

pub acts : (h : Heap) (t : ℕ) (s : Step) → May h t s → is_close s ≡ false → is_open s ≡ false → needs_lock s ≡ false
    → Acts h t
acts h t s may other opened plain = record {
  thread = may.some_thread;
  inside = may.inside;
  here = may.not_gathered;
  not_closing = λ n. open_stage (row_at h t).stage s n may.stage other;
  not_opening = λ n. all_open (row_at h t).stage s n may.stage opened;
  unlocked = no_lock _ s may.lock plain;
}

pub record Turn (h : Heap) (t c : ℕ) (x : Cell) (hand : Hand) (f : List (Option ℕ)) (w : List Bool)
    (es : List (List ℕ)) : Type 0 where
  pub acts : Acts h t
  pub cell_inside : c < length h.cells
  pub mortal : FIRST_MORTAL ≤ c
  pub mutex : x.mutex ≡ (cell_at h c).mutex
  pub bearer : x.bearer ≡ (cell_at h c).bearer
  pub live : lives x.owner ≡ lives (cell_at h c).owner
  -- the frame fills no place
  pub vacant : (j : ℕ) → place_at (frame_at h t) j ≡ None → place_at f j ≡ None
  pub places : length f ≤ MOST_PLACES
  pub marks : length w ≡ length (worklist_at h t)
  pub lists : length es ≡ length h.entries
  -- sums
  pub counted_here : counted_in x +ℤ pos (times c (frame_at h t) + one (carries c (row_at h t).hand) + in_entries h c)
      ≡ counted_in (cell_at h c) +ℤ pos (times c f + one (carries c hand) + sum_by (entry_times c) es)
  pub part_else : (q : ℕ) → q ≢ c → times q (frame_at h t) + in_entries h q ≡ times q f + sum_by (entry_times q) es
  pub gripped_here : grips_of x + one (is_marked (worklist_at h t) c) + one (grips c (row_at h t).hand)
      ≡ grips_of (cell_at h c) + one (is_marked w c) + one (grips c hand)
  pub most_here : asks h c + one (carries c hand) ≤ asks_most x + one (carries c (row_at h t).hand)
  pub least_here : asks_least x + one (carries c (row_at h t).hand) + one (offering c (row_at h t).hand) ≤ asks h c
      + offered h c + one (carries c hand) + one (offering c hand)
  -- hands: before and after the thread's own has nothing or this cell
  pub before : (p : Phase) (d : ℕ) → (row_at h t).hand ≡ hands.Busy p d → d ≡ c
  pub after : (p : Phase) (d : ℕ) → hand ≡ hands.Busy p d
      → (d ≡ c) × PhaseFits h.edition t (record (row_at h t) { hand = hand }) (popped_at h t) x
      (row_at h x.bearer).stage c p
  pub idle : is_active (row_at h t).stage ≡ false → is_active_hand hand ≡ false
  pub hands_else : (s : ℕ) (p : Phase) → s ≢ t → (row_at h s).hand ≡ hands.Busy p c
      → PhaseFits h.edition s (row_at h s) (popped_at h s) x (row_at h x.bearer).stage c p
  -- cells, entries and worklists
  pub cell : CellFits (length h.rows) h.limit (rests_at h) x (get_or es c [])
  pub fewer : (q : ℕ) → q ≢ c → Fewer (entries_at h q) (get_or es q [])
  pub works_here : is_marked w c ≡ true → WorklistFits t c x
  pub marks_else : (q : ℕ) → q ≢ c → is_marked w q ≡ is_marked (worklist_at h t) q
  pub works_else : (s : ℕ) → s ≢ t → is_marked (worklist_at h s) c ≡ true → WorklistFits s c x

-- a hand that has at most the one cell
pub hand_else : (c q : ℕ) (hand : Hand) → ((p : Phase) (d : ℕ) → hand ≡ hands.Busy p d → d ≡ c) → q ≢ c
    → (one (grips q hand) ≡ 0) × (one (carries q hand) ≡ 0)
hand_else c q hands.Free at_c ne = (refl, refl)
hand_else c q (hands.Busy p d) at_c ne =
    subst (λ e. (one (grips q (hands.Busy p e)) ≡ 0) × (one (carries q (hands.Busy p e)) ≡ 0)) (sym (at_c p d refl))
    (busy_else p c q ne)

-- the thread's own part after such a step
pub turned_thread : (e : Edition) (words : ℕ) (row : Row) (hand : Hand) (frame f : List (Option ℕ))
    (popped popped' : List ℕ) (worklist w : List Bool) (queue : List ℕ) (gathered : Bool)
    → ThreadFits e words row frame popped worklist queue gathered → gathered ≡ false
    → ((n : ℕ) → row.stage ≢ stages.Closing n) → ((n : ℕ) → row.stage ≢ stages.Opening n) → row.locked ≡ None
    → (is_active row.stage ≡ false → is_active_hand hand ≡ false)
    → ((j : ℕ) → place_at frame j ≡ None → place_at f j ≡ None) → length f ≤ MOST_PLACES
    → ThreadFits e words (record row { hand = hand }) f popped' w queue gathered
turned_thread e words row hand frame f popped popped' worklist w queue gathered old here apart opened unlocked idle
    vacant places = record {
      inactive_hand = idle;
      inactive_frame = λ off j. vacant j (old.inactive_frame off j);
      inactive_lock = old.inactive_lock;
      closing = λ n e. absurd (apart n e);
      closing_work = λ n q _ e. absurd (apart n e);
      opening = λ n e. absurd (opened n e);
      opening_rest = λ n q e. absurd (opened n e);
      closed = old.closed;
      gathered_left = λ g. absurd (true≢false (sym g ∙ here));
      gathered_hand = λ g. absurd (true≢false (sym g ∙ here));
      gathered_work = λ g. absurd (true≢false (sym g ∙ here));
      locked_hand = λ k e. let bad : None ≡ Some k = sym unlocked ∙ e in absurd (cc);
      births = old.births;
      places = places;
    }

pub turn_plain : (h : Heap) (t c : ℕ) (x : Cell) (hand : Hand) (f : List (Option ℕ)) (w : List Bool)
    (es : List (List ℕ))
    → IsSound h → Turn h t c x hand f w es → Plain h t c x (record (row_at h t) { hand = hand }) f w es
turn_plain h t c x hand f w es sound turn =
    let old_else = λ (q : ℕ) (ne : q ≢ c). hand_else c q (row_at h t).hand turn.before ne in
    let new_else = λ (q : ℕ) (ne : q ≢ c). hand_else c q hand (λ p d busy. (turn.after p d busy).0) ne in
    record {
      thread = turn.acts.thread;
      thread_inside = turn.acts.inside;
      cell_inside = turn.cell_inside;
      immortal = λ low. absurd (omega (arith, low, turn.mortal));
      mutex = turn.mutex;
      bearer = inl turn.bearer;
      stage = refl;
      locked = refl;
      locked_place = λ k e. let bad : None ≡ Some k = sym turn.acts.unlocked ∙ e in absurd (cc);
      marks = turn.marks;
      lists = turn.lists;
      counted_here = λ _. turn.counted_here;
      counted_else = λ q _ ne. omega (arith, turn.part_else q ne, (old_else q ne).1, (new_else q ne).1);
      gripped_here = λ _. turn.gripped_here;
      gripped_else = λ q _ ne. omega (arith, ap one (turn.marks_else q ne), (old_else q ne).0, (new_else q ne).0);
      most_here = λ _. turn.most_here;
      least_here = λ _. turn.least_here;
      asks_else = λ q _ ne. (new_else q ne).1 ∙ sym (old_else q ne).1;
      offers_else = λ q _ ne. offers_else c q hand (λ p d busy. (turn.after p d busy).0) ne
          ∙ sym (offers_else c q (row_at h t).hand turn.before ne);
      hand = λ p d busy. let said = turn.after p d busy in (said.0, turn.mortal, said.1);
      hands_else = turn.hands_else;
      cell = λ _. turn.cell;
      fewer = λ q other. turn.fewer q (other_cell q other);
      works_here = turn.works_here;
      works_own = λ q ne on. sym (turn.marks_else q ne) ∙ on;
      works_else = turn.works_else;
      own = turned_thread _ _ (row_at h t) hand (frame_at h t) f (popped_at h t) (popped_at h t) (worklist_at h t) w
          (queue_at h t) (is_gathered h t)
          (sound.threads t) turn.acts.here turn.acts.not_closing turn.acts.not_opening turn.acts.unlocked turn.idle
          turn.vacant turn.places;
      ledger = omega (arith, ap one turn.live);
    }
  where
    other_cell : (q : ℕ) → (FIRST_MORTAL ≤ q → q ≢ c) → q ≢ c
    other_cell q other same = other (omega (arith, turn.mortal, same)) same

pub turn_sound : (h : Heap) (t c : ℕ) (x : Cell) (hand : Hand) (f : List (Option ℕ)) (w : List Bool)
    (es : List (List ℕ))
    → IsSound h → Turn h t c x hand f w es
    → IsSound (changed h t c (plain h t x (record (row_at h t) { hand = hand }) f w es))
turn_sound h t c x hand f w es sound turn = plain_sound h t c x (record (row_at h t) { hand = hand }) f w es sound
    (turn_plain h t c x hand f w es sound turn)
