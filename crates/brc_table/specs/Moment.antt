-- What a table shows at a moment.
use Rattle.std.specs.Prelude.{◌≡◌, ℕ, ◌<◌, ◌≤◌, true, slice_index, Option}
use mathlib.Core.Option.{some}
use lib.ListN.{get_elem?}
use Rattle.atomic_table.specs.Table.{State}
use Rattle.brc_block.specs.declared.payload.Payload.{Payload}
use Rattle.brc_words.specs.declared.limits.TheConstants.{FIRST_MORTAL}
use Rattle.law.specs.known.Start.{start_of}
use Rattle.law.specs.known.Counts.{own_count}
use Rattle.law.specs.rule.Seen.{counts_seen}
use Rattle.law.specs.world.Heap.{cell_at, row_at}
use Rattle.law.specs.world.Holding.{Headline}
use Rattle.law.specs.world.Since.{HistoriesSince}
use Rattle.law.specs.world.Runs.{IsReached}
use Rattle.law.specs.declared.known.word.Word.{Word}
use Rattle.law.specs.known.Items.{IsWord, WordShows, events_of}
use Rattle.law.specs.declared.rule.view.View.{View}
use Rattle.law.specs.rule.Layout.{spot}
use Rattle.law.specs.rule.Logs.{Run, items_of, own_of, all_of, lives_of, world, IsLegal}
use Rattle.law.specs.rule.Homes.{HomeShown}
use Rattle.law.specs.rule.Rule.{stands, Seated, StandsOnce}
use Rattle.brc_table.specs.Shown.{shows}

module _ {A : Type 0} where
  -- A table's words, its blocks at home and its seats' logs are those of one legal run of all threads' steps. The world
  -- that the run leads to is reached, and counts are references there; each object that died had no holder, and died
  -- once for its birth. Each thread that is registered and not gathered has one seat, whose log is what the thread did;
  -- and each item of the run stands in one log, once: a seat's, or one that the root keeps of a registration that has
  -- ended. No word shows an owner's count: it is the one that the seat's log tells.
  pub record ShowsOneRun (n limit : ℕ) (s : State (Option (ℕ × Payload A)) View) : Type 0 where
    pub run : Run
    pub legal : IsLegal n limit run
    pub reached : IsReached (world n limit run)
    pub headline : Headline (world n limit run)
    pub histories : HistoriesSince (start_of n limit) (events_of (items_of run))
    pub words : (w : Word) → IsWord n w → WordShows (world n limit run) w (slice_index s.words (spot n w))
    pub homes : (c : ℕ) → c < n → HomeShown shows s.homes (world n limit run) run c
    pub seats : (t : ℕ) → stands (world n limit run) t ≡ true → (j : ℕ) × Seated s.views t j
    pub one_seat : (i j : ℕ) (v w : View) → get_elem? s.views i ≡ some v → get_elem? s.views j ≡ some w
        → v.active ≡ true → w.active ≡ true → v.thread ≡ w.thread → i ≡ j
    pub logs : (j : ℕ) (v : View) → get_elem? s.views j ≡ some v → v.active ≡ true → own_of v.thread run ≡ v.log
    pub counts : (j : ℕ) (v : View) → get_elem? s.views j ≡ some v → v.active ≡ true → 0 < v.thread → (c : ℕ)
        → FIRST_MORTAL ≤ c
        → own_count v.thread (row_at (world n limit run) v.thread).stage (cell_at (world n limit run) c) ≡ counts_seen n v.log c
    pub ended : (j : ℕ) (v : View) → get_elem? s.views j ≡ some v → v.active ≡ true → v.thread ≡ 0
        → v.gathered ≡ lives_of run
    pub root_once : all_of 0 run ≡ own_of 0 run
    pub each_once : (t : ℕ) → 0 < t → StandsOnce (world n limit run) run t
