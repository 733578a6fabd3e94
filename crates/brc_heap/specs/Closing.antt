-- What the report of a closed heap says.
use Rattle.std.specs.Prelude.{◌≡◌, ◌≢◌, ◌+◌, ℕ, List, [], length, map, sum_by, Some}
use Rattle.brc_count.specs.law.world.Holding.{Headline, live_count}
use Rattle.brc_count.specs.law.world.Runs.{IsReached}
use Rattle.brc_count.specs.law.declared.rule.view.View.{View}
use Rattle.brc_count.specs.law.rule.Logs.{Run, own_of, lives_of, world, IsLegal}
use Rattle.brc_report.specs.declared.content.Content.{Content}
use Rattle.brc_report.specs.declared.content.Remain.{Remain}
use Rattle.brc_report.specs.declared.report.Ledger.{Ledger}
use Rattle.brc_report.specs.declared.report.Report.{Report}
use Rattle.brc_report.specs.Cycles.{holder_in, AreCycles}
use Rattle.brc_report.specs.Holding.{remains_of}
use Rattle.brc_report.specs.Reports.{IsReport}
use Rattle.brc_report.specs.Running.{entries_of_first, RunsInto, IsHolder}
use Rattle.brc_count.specs.table.Seated.{TableSeen, RootSeen}
use Rattle.brc_thread.specs.Counting.{registrations, gatherings, births_of_all, frees_of_all, in_u32}
use Rattle.brc_thread.specs.Emptied.{AllGathered}
use Rattle.brc_heap.specs.Contents.{live_cells, contents_of_heap}
use Rattle.brc_heap.specs.declared.closing.CloseFault.{CloseFault}
use Rattle.brc_heap.specs.declared.closing.CloseFault.TheVariants.{Missing, Memory}

module _ {A : Type 0} where
  -- What was done on the heap is one run, of which the root knows its own part and that of each thread. All threads are
  -- gathered in the world that it leads to, where counts are references. The report is of that world: its ledger is
  -- what all registrations did, also those whose numbers were used again, and births less frees are the live objects;
  -- the contents are those that were put home last in the globals and in each live mortal cell; the remains are exactly
  -- these mortal cells; and all cycles of theirs are named.
  pub record IsReportOfEnd (n limit : ℕ) (root : View) (report : Report A) : Type 0 where
    pub run : Run
    pub legal : IsLegal n limit run
    pub root_did : own_of 0 run ≡ root.log
    pub lives_did : root.gathered ≡ lives_of run
    pub reached : IsReached (world n limit run)
    pub headline : Headline (world n limit run)
    pub everyone : AllGathered (world n limit run)
    pub allocs : report.ledger.allocs ≡ births_of_all root.gathered
    pub frees : report.ledger.frees ≡ frees_of_all root.gathered
    pub all_allocs : report.ledger.allocs
        ≡ (world n limit run).past_allocs + sum_by (λ row. row.allocs) (world n limit run).rows
    pub all_frees : report.ledger.frees
        ≡ (world n limit run).past_frees + sum_by (λ row. row.frees) (world n limit run).rows
    pub live : report.live ≡ live_count (world n limit run)
    pub balance : report.ledger.allocs ≡ report.ledger.frees + report.live
    pub remain : report.live ≡ length report.remains.items
    pub contents : report.contents.items ≡ contents_of_heap (world n limit run) run n
    pub remains : remains_of report.contents.items ≡ Some report.remains.items
    pub remain_cells : map (λ (remain : Remain). remain.cell) report.remains.items ≡ live_cells (world n limit run) n
    pub cycles : AreCycles report.remains.items report.cycles.items
    -- each remain is held by the globals or by a remain; where the globals hold nothing, each walk along the holders
    -- runs into a cycle
    pub held : (cell holder : ℕ) → holder_in report.remains.items cell ≡ Some holder
        → IsHolder report.remains.items holder
    pub walks : entries_of_first report.contents.items ≡ [] → (from holder : ℕ)
        → holder_in report.remains.items from ≡ Some holder
        → RunsInto report.remains.items report.cycles.items from
    -- `check_report` says so of it
    pub right : IsReport report.remains.items report.cycles.items report.contents.items

module _ {A : Type 0} where
  -- the report has this ledger and these contents; as many live as remain
  pub record Reports (ledger : Ledger) (contents : List (Content A)) (report : Report A) : Type 0 where
    pub ledger_is : report.ledger ≡ ledger
    pub contents_are : report.contents.items ≡ contents
    pub remains : remains_of contents ≡ Some report.remains.items
    pub live : report.live ≡ length report.remains.items
    pub cycles : AreCycles report.remains.items report.cycles.items

-- A heap stays open if it has another number of registrations than of gathered threads, and both are told; or memory
-- was missing.
abbrev pub StaysOpen : {A : Type 0} → TableSeen → RootSeen → CloseFault A → Type 0
StaysOpen heap root (Missing registered gathered same_heap same_root) =
    (registrations root.view ≢ gatherings root.view)
    × (registered ≡ registrations root.view) × (gathered ≡ in_u32 (gatherings root.view))
    × (same_heap ≡ heap) × (same_root ≡ root)
StaysOpen heap root Memory = registrations root.view ≡ gatherings root.view
