-- How the log of a thread begins that the root registers.
use Rattle.std.proofs.Common.{◌≡◌, ◌<◌, ℕ, zero, suc, Bool, true, false, List, [], replicate, refl, ◌∙◌, ap}
use Rattle.brc_table.specs.law.declared.world.row.Stage.TheVariants as stages
use Rattle.brc_table.specs.law.declared.world.event.Step.TheVariants.{Register}
use Rattle.brc_table.specs.law.world.Heap.{words_for}
use Rattle.brc_table.specs.law.world.Lists.{is_blank}
use Rattle.brc_table.specs.law.declared.rule.told.Moved.TheVariants.{Nothing}
use Rattle.brc_table.specs.law.declared.rule.told.LogItem.{LogItem}
use Rattle.brc_table.specs.law.declared.rule.told.LogItem.TheVariants.{Stepped}
use Rattle.brc_table.specs.law.world.Steps.{is_active}
use Rattle.brc_table.specs.law.rule.Seen.{part_seen, counts_seen}
use Rattle.brc_table.specs.law.declared.rule.view.View.{View}
use Rattle.brc_table.specs.law.rule.Logs.{begins}
use Rattle.brc_table.specs.law.steps.Joining.{is_again, starting, next_thread}
use Rattle.brc_table.specs.Seated.{TableSeen, IsSameSeat}
use Rattle.brc_count.specs.Frames.{FrameSeen, Framing, ledger_seen}
use Rattle.brc_count.specs.Closing.{IsFirst, FirstNew, FirstAgain, ReopensWords, NoneOpened, Opened, stage_opened}
use Rattle.brc_count.proofs.Leaving.{stage_active}

-- it is empty or the root's item; it counts nothing; and of a number that was used before it says that all words are
-- closed
begins_first : (b : Bool) (t : ℕ) (log : List LogItem) → log ≡ begins b (Stepped (Register t) 0 Nothing) → IsFirst log
begins_first true t log is = FirstAgain t is
begins_first false t log is = FirstNew is

pub started_first : (v : View) (log : List LogItem) → log ≡ (starting v).log → IsFirst log
started_first v log is = begins_first (is_again v) (next_thread v) log is

pub first_none : (n : ℕ) (log : List LogItem) (c : ℕ) → IsFirst log → counts_seen n log c ≡ 0
first_none n log c (FirstNew is) = ap (λ l. counts_seen n l c) is
first_none n log c (FirstAgain t is) = ap (λ l. counts_seen n l c) is

pub again_opening : (n : ℕ) (v : View) (log : List LogItem) → log ≡ (starting v).log → is_again v ≡ true
    → (part_seen n log).row.stage ≡ stages.Opening 0
again_opening n v log is again = ap (λ l. (part_seen n l).row.stage) is
    ∙ ap (λ b. (part_seen n (begins b (Stepped (Register (next_thread v)) 0 Nothing))).row.stage) again

-- such a log has no popped entry, no birth and no free
blank_zeros : (k : ℕ) → is_blank (replicate k 0) ≡ true
blank_zeros zero = refl
blank_zeros (suc k) = blank_zeros k

first_blank : (n : ℕ) (log : List LogItem) → IsFirst log → is_blank (part_seen n log).popped ≡ true
first_blank n log (FirstNew is) = ap (λ l. is_blank (part_seen n l).popped) is ∙ blank_zeros (words_for n)
first_blank n log (FirstAgain t is) = ap (λ l. is_blank (part_seen n l).popped) is ∙ blank_zeros (words_for n)

-- opening queue words pops nothing, and neither bears nor frees
record IsStill (n : ℕ) (before log : List LogItem) : Type 0 where
  popped : (part_seen n log).popped ≡ (part_seen n before).popped
  allocs : (part_seen n log).row.allocs ≡ (part_seen n before).row.allocs
  frees : (part_seen n log).row.frees ≡ (part_seen n before).row.frees

opens_still : (n : ℕ) (before : List LogItem) (k : ℕ) (log : List LogItem) → ReopensWords before k log
    → IsStill n before log
opens_still n before _ _ NoneOpened = record { popped = refl; allocs = refl; frees = refl }
opens_still n before _ _ (Opened k log more) = let still = opens_still n before k log more in
    record { popped = still.popped; allocs = still.allocs; frees = still.frees }

module _ {A : Type 0} where
  first_ledger : (frame : FrameSeen A) → IsFirst frame.seat.log → ledger_seen frame ≡ record { allocs = 0; frees = 0 }
  first_ledger frame (FirstNew is) =
      ap (λ l. record {
        allocs = (part_seen frame.heap.cells l).row.allocs;
        frees =
            (part_seen frame.heap.cells l).row.frees;
      }) is
  first_ledger frame (FirstAgain t is) =
      ap (λ l. record {
        allocs = (part_seen frame.heap.cells l).row.allocs;
        frees =
            (part_seen frame.heap.cells l).row.frees;
      }) is

  -- the frame of a new number, and its ledger
  pub begins_new : (frame : FrameSeen A) (thread : ℕ) → frame.seat.log ≡ [] → frame.seat.thread ≡ thread → 0 < thread
      → Framing frame thread
  begins_new frame thread log same some = record {
    same_thread = same;
    some_thread = some;
    active = ap (λ l. is_active (part_seen frame.heap.cells l).row.stage) log;
    blank = first_blank frame.heap.cells frame.seat.log (FirstNew log);
  }

  pub new_ledger : (frame : FrameSeen A) → frame.seat.log ≡ [] → ledger_seen frame ≡ record { allocs = 0; frees = 0 }
  new_ledger frame log = first_ledger frame (FirstNew log)

  -- the frame of a number that is used again, once its words are open, and its ledger
  module _ (old new : FrameSeen A) (first : IsFirst old.seat.log) (same : new ≡ record old { seat = new.seat })
      (opens : ReopensWords old.seat.log (words_for old.heap.cells) new.seat.log) where
    heap_same : new.heap ≡ old.heap
    heap_same = ap (λ (f : FrameSeen A). f.heap) same

    still : IsStill old.heap.cells old.seat.log new.seat.log
    still = opens_still old.heap.cells old.seat.log (words_for old.heap.cells) new.seat.log opens

    pub begins_again : (thread : ℕ) → old.seat.thread ≡ thread → 0 < thread → IsSameSeat old.seat new.seat
        → (part_seen old.heap.cells new.seat.log).row.stage ≡ stage_opened (words_for old.heap.cells)
        (words_for old.heap.cells)
        → 0 < words_for old.heap.cells → Framing new thread
    begins_again thread is some stays stage words = record {
      same_thread = stays.1 ∙ is;
      some_thread = some;
      active = ap (λ (h : TableSeen). is_active (part_seen h.cells new.seat.log).row.stage) heap_same
          ∙ ap is_active stage ∙ stage_active (words_for old.heap.cells) words;
      blank = ap (λ (h : TableSeen). is_blank (part_seen h.cells new.seat.log).popped) heap_same
          ∙ ap is_blank still.popped ∙ first_blank old.heap.cells old.seat.log first;
    }

    pub again_ledger : ledger_seen new ≡ record { allocs = 0; frees = 0 }
    again_ledger =
        ap (λ (h : TableSeen). record {
          allocs = (part_seen h.cells new.seat.log).row.allocs;
          frees =
              (part_seen h.cells new.seat.log).row.frees;
        }) heap_same
        ∙ (λ i. record { allocs = still.allocs i; frees = still.frees i }) ∙ first_ledger old first
