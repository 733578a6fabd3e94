-- How a heap ends: what is left of it, and what is so of all that was done on it.
use Rattle.std.specs.Prelude.{◌≡◌, ◌<◌, ◌+◌, ℕ, true, List, length, sum_by, Option, Some}
use Rattle.brc_count.specs.block.declared.payload.Payload.{Payload}
use Rattle.brc_count.specs.law.known.Items.{events_of}
use Rattle.brc_count.specs.law.known.Root.{gathered_of, rows_of}
use Rattle.brc_count.specs.law.declared.rule.view.View.{View}
use Rattle.brc_count.specs.law.rule.Logs.{items_of, log_items, own_of, all_of, lives_of, world}
use Rattle.brc_count.specs.law.rule.Rule.{log_in, StandsOnce}
use Rattle.brc_count.specs.law.known.Start.{start_of}
use Rattle.brc_count.specs.law.world.Heap.{Heap, row_at, is_registered, is_gathered}
use Rattle.brc_count.specs.law.world.Holding.{Headline}
use Rattle.brc_count.specs.law.world.Since.{HistoriesSince}
use Rattle.brc_count.specs.law.world.Runs.{IsReached}
use Rattle.brc_count.specs.table.Rest.{Remains}
use Rattle.brc_count.specs.declared.ledger.Ledger.{Ledger}
use Rattle.brc_thread.specs.Counting.{registrations, gatherings, births_of_all, frees_of_all}
use Rattle.brc_thread.specs.Emptied.{AllGathered, AllAtHome}
use Rattle.brc_thread.specs.Threads.{ledger_of}

-- the births and frees that a world counts for a thread
abbrev pub ledger_at : Heap → ℕ → Ledger
ledger_at h t = record { allocs = (row_at h t).allocs; frees = (row_at h t).frees }

module _ {A : Type 0} where
  -- What is left are the slots of a last state that keeps the rule: it is the world of one run of all threads' steps.
  -- In that world counts are references, an object without references is in some thread's hand, and births less frees
  -- are the live objects; each object that died had no holder, and died once for its birth. Of that run the root's own
  -- steps are its log, and those of each thread that was gathered are the log that the root took in: it has one for
  -- each registration that ended, and each item of a thread stands in one of them or in its seat's, once and in its
  -- order. What that world counts for a registered number is the ledger of its last registration, which `Retired`
  -- answers; for the root it counts nothing. What earlier registrations of a number count is the world's past. The
  -- root's log tells how many registrations there were, how many numbers were used, and which of these are gathered:
  -- all are, if it has gathered as often as it has registered. If all are gathered, what their logs count, added up, is
  -- what that world counts, its past and its numbers together. The blocks that are left are then those of all live
  -- objects and immortals, each with what was put home there last.
  pub record IsLastState (n limit id : ℕ) (root : View) (slots : List (Option (ℕ × Payload A))) : Type 0 where
    pub remains : Remains n limit id root slots
    pub reached : IsReached (world n limit remains.kept.run)
    pub headline : Headline (world n limit remains.kept.run)
    pub histories : HistoriesSince (start_of n limit) (events_of (items_of remains.kept.run))
    pub root_did : own_of 0 remains.kept.run ≡ root.log
    pub gathered_did : (t : ℕ) → 0 < t → is_gathered (world n limit remains.kept.run) t ≡ true
        → log_in root.gathered t ≡ Some (own_of t remains.kept.run)
    pub root_once : all_of 0 remains.kept.run ≡ own_of 0 remains.kept.run
    pub lives_did : root.gathered ≡ lives_of remains.kept.run
    pub each_once : (t : ℕ) → 0 < t → StandsOnce (world n limit remains.kept.run) remains.kept.run t
    pub root_counts : ledger_at (world n limit remains.kept.run) 0 ≡ record { allocs = 0; frees = 0 }
    pub ledgers : (t : ℕ) → is_registered (world n limit remains.kept.run) t ≡ true
        → ledger_at (world n limit remains.kept.run) t ≡ ledger_of n (own_of t remains.kept.run)
    pub registered : (world n limit remains.kept.run).registrations ≡ registrations root
    pub rows : length (world n limit remains.kept.run).rows ≡ rows_of (log_items root.log)
    pub gathered : (t : ℕ) → is_gathered (world n limit remains.kept.run) t ≡ gathered_of (log_items root.log) t
    pub all_at_home : AllGathered (world n limit remains.kept.run)
        → AllAtHome n (world n limit remains.kept.run) remains.kept.run slots
    pub everyone : registrations root ≡ gatherings root → AllGathered (world n limit remains.kept.run)
    pub births : AllGathered (world n limit remains.kept.run) → births_of_all root.gathered
        ≡ (world n limit remains.kept.run).past_allocs
        + sum_by (λ row. row.allocs) (world n limit remains.kept.run).rows
    pub frees : AllGathered (world n limit remains.kept.run) → frees_of_all root.gathered
        ≡ (world n limit remains.kept.run).past_frees
        + sum_by (λ row. row.frees) (world n limit remains.kept.run).rows
