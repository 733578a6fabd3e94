-- References, and what the theorem on them says of a world.
--
-- A holder is a place that keeps an object alive; it is read off frames, entries, queue bits, popped bits and hands,
-- and never off a count. The total is the count of PEP 703: the shared count once merged, else local and shared
-- together.
use Rattle.std.specs.Prelude.{◌≡◌, ℕ, suc, ◌+◌, ◌==◌, ◌&&◌, ◌||◌, not, Bool, true, false, if◌then◌else◌, ℤ, pos, ◌+ℤ◌}
use Rattle.std.specs.Prelude.{List, [], ◌∷◌, ◌++◌, length, drop, sum_by, count_by}
use Rattle.brc_words.specs.declared.limits.TheConstants.{FIRST_MORTAL}
use Rattle.brc_words.specs.declared.owner.Owner.{Owner}
use Rattle.brc_words.specs.declared.owner.Owner.TheVariants as owners
use Rattle.brc_words.specs.declared.state.State.{State}
use Rattle.brc_words.specs.declared.state.State.TheVariants as states
use Rattle.brc_model.specs.declared.holder.Holder.{Holder}
use Rattle.brc_model.specs.declared.holder.Holder.TheVariants as holders
use Rattle.law.specs.world.Phases.{has_reference}
use Rattle.law.specs.declared.world.cell.Cell.{Cell}
use Rattle.law.specs.declared.world.event.Event.{Event}
use Rattle.law.specs.declared.world.event.Step.{Step}
use Rattle.law.specs.declared.world.event.Step.TheVariants.{Birth, Free}
use Rattle.law.specs.declared.world.row.Hand.{Hand}
use Rattle.law.specs.declared.world.row.Hand.TheVariants as hands
use Rattle.law.specs.declared.world.row.Phase.TheVariants as phases
use Rattle.law.specs.world.Lists.{one, names, bit_of, is_marked}
use Rattle.law.specs.world.Heap.{Heap, cell_at, row_at, worklist_at, is_immortal}
use Rattle.law.specs.world.Steps.{is_at, is_free_step}
use Rattle.law.specs.world.Runs.{world_after}

-- an object lives from its birth until it is freed: while its owner word is nobody's or a thread's
abbrev pub lives : Owner → Bool
lives owners.Nobody = true
lives (owners.Thread t) = true
lives (owners.Claimed t) = false
lives owners.Free = false

-- a mortal object lives in the cell
abbrev pub lives_at : Heap → ℕ → Bool
lives_at h c = not (is_immortal c) && lives (cell_at h c).owner

-- once merged the shared count is the count, before that local and shared count together
abbrev pub count_of_state : State → ℕ → ℤ → ℤ
count_of_state states.Default local count = pos local +ℤ count
count_of_state states.Queued local count = pos local +ℤ count
count_of_state states.Merged local count = count

abbrev pub total_of : Cell → ℤ
total_of x = count_of_state x.state x.local x.count

abbrev pub carries : ℕ → Hand → Bool
carries q hands.Free = false
carries q (hands.Busy phase c) = has_reference phase && (c == q)

-- what f makes of each item and its index, one after the other
abbrev pub each : {A : Type 0} → (ℕ → A → List Holder) → ℕ → List A → List Holder
each f i [] = []
each f i (x ∷ xs) = f i x ++ each f (suc i) xs

-- this holder, if it is one
abbrev pub if_so : Bool → Holder → List Holder
if_so true holder = holder ∷ []
if_so false holder = []

-- The holders of a cell: frame places, entries, queue bits, popped bits, hands, each by rising numbers. The entries of
-- a locked container count as they stood when it was locked.
abbrev pub holders_of : Heap → ℕ → List Holder
holders_of h q =
    each (λ t frame. each (λ k x. if_so (names q x) (holders.Frame t k)) 0 frame) 0 h.frames
    ++ each (λ c entries. each (λ i x. if_so (x == q) (holders.Entry c i)) 0 entries) 0 h.entries
    ++ each (λ t words. if_so (bit_of words q == 1) (holders.Queue t q)) 0 h.queues
    ++ each (λ t words. if_so (bit_of words q == 1) (holders.Popped t q)) 0 h.popped
    ++ each (λ t row. if_so (carries q row.hand) (holders.Hand t q)) 0 h.rows

-- the thread is about to bury the object: it merges at zero, has it on its worklist, or hands it over
abbrev pub buries : Heap → ℕ → ℕ → Bool
buries h c t = is_at phases.Zero c (row_at h t).hand || is_at phases.Over c (row_at h t).hand
    || is_at phases.Untied c (row_at h t).hand || is_at phases.Offered c (row_at h t).hand
    || is_at phases.Yielding c (row_at h t).hand || is_marked (worklist_at h t) c

-- the object is in the hand of some thread
abbrev pub IsInHand : Heap → ℕ → Type 0
IsInHand h c = (t : ℕ) × (buries h c t ≡ true)

-- how many mortal objects live
abbrev pub live_count : Heap → ℕ
live_count h = sum_by (λ x. one (lives x.owner)) (drop FIRST_MORTAL h.cells)

-- The theorem on a world: counts are references, an object without references is in some thread's hand, and the
-- births less the frees of all threads are the live objects.
pub record Headline (h : Heap) : Type 0 where
  pub counted : (c : ℕ) → lives_at h c ≡ true → total_of (cell_at h c) ≡ pos (length (holders_of h c))
  pub in_hand : (c : ℕ) → lives_at h c ≡ true → holders_of h c ≡ [] → IsInHand h c
  pub ledger : sum_by (λ row. row.allocs) h.rows + h.past_allocs ≡ sum_by (λ row. row.frees) h.rows + h.past_frees
      + live_count h

-- ---- lives and ledgers, told by the run alone

-- the step's cell is born, is freed, or neither
abbrev pub lives_since : Step → ℕ → Bool → Bool
lives_since (Birth d kind k) c before = if d == c then true else before
lives_since (Free d) c before = if d == c then false else before
lives_since _ c before = before

-- whether the newest birth or free of the cell was a birth
abbrev pub lives_by : List Event → ℕ → Bool
lives_by [] c = false
lives_by (e ∷ run) c = lives_since e.step c (lives_by run c)

abbrev pub is_birth : Step → Bool
is_birth (Birth c kind k) = true
is_birth _ = false

-- the thread's births and frees among the events
abbrev pub births_by : ℕ → List Event → ℕ
births_by t run = count_by (λ e. (e.thread == t) && is_birth e.step) run

abbrev pub frees_by : ℕ → List Event → ℕ
frees_by t run = count_by (λ e. (e.thread == t) && is_free_step e.step) run

-- an object that dies lives until then, and nothing holds it
abbrev pub DiesUnheld : Heap → List Event → Step → Type 0
DiesUnheld before earlier (Free c) = (lives_by earlier c ≡ true) × (holders_of before c ≡ [])
DiesUnheld before earlier (Birth c kind k) = lives_by earlier c ≡ false
DiesUnheld before earlier _ = Unit {0}

-- each death in the run is of an object that was born since the last one, and had no holder; none is born twice
abbrev pub IsOncePerBirth : Heap → List Event → Type 0
IsOncePerBirth start [] = Unit {0}
IsOncePerBirth start (e ∷ run) = IsOncePerBirth start run × DiesUnheld (world_after start run) run e.step

-- what the run says of lives and ledgers is so in its world
pub record Histories (start : Heap) (run : List Event) : Type 0 where
  pub lives : (c : ℕ) → lives_at (world_after start run) c ≡ lives_by run c
  pub allocs : (t : ℕ) → (row_at (world_after start run) t).allocs ≡ births_by t run
  pub frees : (t : ℕ) → (row_at (world_after start run) t).frees ≡ frees_by t run
  pub deaths : IsOncePerBirth start run
