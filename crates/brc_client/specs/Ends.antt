-- What is seen of a thread from its registration to its end, and of a heap from its opening to its report.
use Rattle.std.specs.Prelude.{◌≡◌, ◌<◌, ◌⊎◌, ℕ, List, [], Option, Some, None, MatchOption, length}
use Rattle.std.specs.declared.alloc.Global.{Global}
use Rattle.brc_words.specs.declared.fault.Fault.TheVariants as faults
use Rattle.brc_report.specs.Texts.{report_text}
use Rattle.brc_count.specs.declared.ledger.Ledger.{Ledger}
use Rattle.brc_count.specs.law.steps.Joining.{gathering}
use Rattle.brc_count.specs.table.Seated.{TableSeen, view_of}
use Rattle.brc_count.specs.Frames.{FrameSeen, Turns, ledger_seen}
use Rattle.brc_count.specs.Polling.{Polled}
use Rattle.brc_count.specs.Closing.{GoesOut, TurnsLeaving}
use Rattle.brc_handles.specs.Handles.{filled, IsBare}
use Rattle.brc_thread.specs.Threads.{RetiredSeen, ledger_of}
use Rattle.brc_heap.specs.Desk.{SightSeen}
use Rattle.brc_heap.specs.Lasting.{LastReportSeen}
use Rattle.brc_heap.specs.declared.shared.RootCounts.{RootCounts}
use Rattle.brc_heap.specs.declared.shared.NotRegistered.{NotRegistered}
use Rattle.brc_heap.specs.declared.shared.NotRegistered.TheVariants as refusals
use Rattle.brc_heap.specs.Shared.{IsOf, CountsOf, RegistersHere, ClaimsApart, HasRegistered, HasNoNumber, ClosesAs}
use Rattle.brc_heap.specs.Shared.{HasGatheredAll, LacksThreads}
use Rattle.brc_client.specs.declared.status.Status.{Status}
use Rattle.brc_client.specs.declared.status.Status.TheVariants as statuses
use Rattle.brc_client.specs.declared.thread.Stage.{Stage}
use Rattle.brc_client.specs.declared.thread.Stage.TheVariants as stages
use Rattle.brc_client.specs.declared.owner.OwnerStage.{OwnerStage}
use Rattle.brc_client.specs.declared.owner.OwnerStage.TheVariants as owners
use Rattle.brc_client.specs.declared.owner.Left.{Left}
use Rattle.brc_client.specs.Desks.{DeskSeen}
use Rattle.brc_client.specs.Numbers.{IsStamped}
use Rattle.brc_client.specs.Clients.{ClientSeen, KeptGoes, SameClient}

-- ---- a thread

-- the client of a thread that hasn't left
abbrev pub client_of : Stage → Option ClientSeen
client_of (stages.Works client) = Some client
client_of _ = None

-- the heap of a thread that isn't gathered yet
abbrev pub heap_of : Stage → Option TableSeen
heap_of (stages.Works client) = Some client.frame.heap
heap_of (stages.Leaves left) = Some left.heap
heap_of (stages.Ends done) = Some done.heap
heap_of _ = None

-- the one at which a thread was registered that hasn't left
abbrev pub desk_of : Stage → Option DeskSeen
desk_of (stages.Works client) = Some (record { heap = client.frame.heap; first = client.numbers.of.first })
desk_of _ = None

-- A thread of this very heap was registered by the heap's root, as that was found. It works, and has no reference yet. The
-- stamp of its numbers is that of its registration. Its claims begin with its own part of the heap.
pub record IsRegistered (desk : DeskSeen) (made : Stage) : Type 0 where
  pub client : ClientSeen
  pub works : made ≡ stages.Works client
  pub bare : IsBare client.handles
  pub heap : client.frame.heap ≡ desk.heap
  pub idle : client.frame.works ≡ []
  pub first : client.numbers.of.first ≡ desk.first
  pub stamp : IsStamped client.numbers.stamp client.numbers.of
  pub registered : RegistersHere desk.heap client.frame client.numbers.of.registration
  pub claims : ClaimsApart client.frame

-- the same where there is a heap; where there is none, nothing is registered
abbrev pub RegistersAt : Option DeskSeen → Stage → Type 0
RegistersAt desk made = MatchOption desk ⊥ (λ d. IsRegistered d made)

-- the heap's root, as it was seen, had just registered a thread
abbrev pub RegisteredAt : Option DeskSeen → Option SightSeen → Type 0
RegisteredAt desk seen = MatchOption desk ⊥ (λ d. MatchOption seen ⊥ (HasRegistered d.heap))

-- why nobody was registered at a heap, and what was seen of its root
abbrev pub RefusedAt : TableSeen → Option SightSeen → Status → Type 0
RefusedAt heap seen (statuses.Fault faults.Busy) = Unit {0}
RefusedAt heap seen (statuses.Fault faults.TooManyThreads) = MatchOption seen ⊥ (HasNoNumber heap)
RefusedAt heap seen (statuses.Fault faults.OutOfMemory) = Unit {0}
RefusedAt heap seen _ = ⊥

-- Why nobody was registered: Gone only where there is no heap. There it is Gone; or there was no memory for the thread.
abbrev pub RegisterRefused : Option DeskSeen → Option SightSeen → Status → Type 0
RegisterRefused desk seen status =
    MatchOption desk ((status ≡ statuses.Gone) ⊎ (status ≡ statuses.Fault faults.OutOfMemory))
    (λ d. RefusedAt d.heap seen status)

-- what a refusal at the desk saw of the root
abbrev pub seen_in : NotRegistered → Option SightSeen
seen_in (refusals.TooManyThreads seen) = Some seen
seen_in _ = None

-- what a thread that hasn't left saw of its heap's root when it forked last
abbrev pub seen_at : Stage → Option SightSeen
seen_at (stages.Works client) = client.seen
seen_at _ = None

-- the same thread, whatever it saw of its heap's root
abbrev pub SameStage : Stage → Stage → Type 0
SameStage (stages.Works was) new = MatchOption (client_of new) ⊥ (SameClient was)
SameStage old new = new ≡ old

-- the thread works, and has a reference
abbrev pub HasReference : Stage → Type 0
HasReference (stages.Works client) = 0 < filled client.handles
HasReference _ = ⊥

-- the thread had no reference, and is of the same heap still
pub record StaysAt (old new : Stage) : Type 0 where
  pub bare : HasReference old → ⊥
  pub heap : TableSeen
  pub was : heap_of old ≡ Some heap
  pub is : heap_of new ≡ Some heap

-- the thread is gathered, or never was
abbrev pub IsOver : Stage → Type 0
IsOver (stages.Gathered seen) = Unit {0}
IsOver stages.Gone = Unit {0}
IsOver _ = ⊥

-- The root of its heap, as it was found then, has taken in what the thread did, as the last that it did.
pub record GatheredAs (done : RetiredSeen Global) (new : Stage) : Type 0 where
  pub seen : SightSeen
  pub over : new ≡ stages.Gathered seen
  pub of_heap : IsOf done.heap seen
  pub took : seen.left.view ≡ gathering seen.found.view (view_of done.seat)

-- the thread dealt with what was left, and was gathered
pub record FinishedAs (left : FrameSeen Global) (new : Stage) : Type 0 where
  pub retired : RetiredSeen Global
  pub turns : ℕ
  pub done : FrameSeen Global
  pub works : TurnsLeaving left turns done
  pub seat : retired.seat ≡ done.seat
  pub heap : retired.heap ≡ left.heap
  pub thread : retired.seat.thread ≡ left.seat.thread
  pub gathered : GatheredAs retired new

-- the client's thread polled, took dead objects apart, and let its handle to None go; then it left its heap, and was
-- gathered
pub record LeftAs (client : ClientSeen) (new : Stage) : Type 0 where
  pub told : ℕ
  pub polled : FrameSeen Global
  pub polls : Polled client.frame polled told
  pub turns : ℕ
  pub idle : FrameSeen Global
  pub works : Turns polled turns idle
  pub bare : FrameSeen Global
  pub lets_go : KeptGoes idle client.none bare
  pub left : FrameSeen Global
  pub goes : GoesOut bare left
  pub heap : left.heap ≡ client.frame.heap
  pub thread : left.seat.thread ≡ client.frame.seat.thread
  pub gathered : FinishedAs left new

-- how a thread is gathered, at each stage on its way out
abbrev pub LeavesAs : Stage → Stage → Type 0
LeavesAs (stages.Works client) new = LeftAs client new
LeavesAs (stages.Leaves left) new = FinishedAs left new
LeavesAs (stages.Ends done) new = GatheredAs done new
LeavesAs _ new = ⊥

-- Why a thread isn't gathered: it was already; it has a reference, and is as it was; or it is to be called again.
abbrev pub LeaveRefused : Stage → Stage → Status → Type 0
LeaveRefused old new statuses.Gone = IsOver old × (new ≡ old)
LeaveRefused old new (statuses.Fault faults.NotIdle) = HasReference old × (new ≡ old)
LeaveRefused old new (statuses.Fault faults.Busy) = StaysAt old new
LeaveRefused old new (statuses.Fault faults.OutOfMemory) = StaysAt old new
LeaveRefused old new _ = ⊥

-- what a thread that isn't gathered has made and given back
abbrev pub LedgerOf : Stage → Ledger → Type 0
LedgerOf (stages.Works client) ledger = ledger ≡ ledger_seen client.frame
LedgerOf (stages.Leaves left) ledger = ledger ≡ ledger_seen left
LedgerOf (stages.Ends done) ledger = ledger ≡ ledger_of done.heap.cells done.seat.log
LedgerOf _ ledger = ⊥

-- ---- a heap

abbrev pub open_at : OwnerStage → Option DeskSeen
open_at (owners.Open opened) = Some opened.desk
open_at _ = None

abbrev pub seen_by : OwnerStage → Option SightSeen
seen_by (owners.Open opened) = opened.seen
seen_by (owners.Closed last) = None
seen_by (owners.Gone seen) = seen

abbrev pub report_of : OwnerStage → Option (LastReportSeen)
report_of (owners.Closed last) = Some last
report_of _ = None

-- the same heap, whatever was seen of its root
abbrev pub SameOwner : OwnerStage → OwnerStage → Type 0
SameOwner old new = MatchOption (open_at old) (new ≡ old) (λ desk. open_at new ≡ Some desk)

-- an open heap of these sizes
abbrev pub OpensWith : ℕ → ℕ → ℕ → OwnerStage → Type 0
OpensWith cells local_limit first owner = MatchOption (open_at owner) ⊥
    (λ desk. (desk.heap.cells ≡ cells) × (desk.heap.local_limit ≡ local_limit) × (desk.first ≡ first))

-- what the heap's root had counted, as it was seen
abbrev pub CountsAt : Option DeskSeen → Option SightSeen → RootCounts → Type 0
CountsAt desk seen counts = MatchOption desk ⊥ (λ d. MatchOption seen ⊥ (λ root. CountsOf d.heap root counts))

-- why it isn't counted: Gone just where there is no heap
abbrev pub CountsRefused : Option DeskSeen → Status → Type 0
CountsRefused desk status = MatchOption desk (status ≡ statuses.Gone) (λ d. status ≡ statuses.Fault faults.Busy)

-- a report of the heap's last state; or the one that was there
abbrev pub ReportsOn : OwnerStage → LastReportSeen → Type 0
ReportsOn (owners.Open opened) last = ClosesAs opened.desk.heap last
ReportsOn (owners.Closed was) last = last ≡ was
ReportsOn (owners.Gone seen) last = ⊥

abbrev pub ClosedAs : OwnerStage → OwnerStage → Type 0
ClosedAs old new = MatchOption (report_of new) ⊥ (ReportsOn old)

-- it has ended without a report
abbrev pub IsSpent : OwnerStage → Type 0
IsSpent (owners.Gone seen) = Unit {0}
IsSpent _ = ⊥

-- it has ended without a report, and its root, as it was seen, has gathered all
abbrev pub SpentAs : TableSeen → OwnerStage → Type 0
SpentAs heap (owners.Gone seen) = MatchOption seen ⊥ (HasGatheredAll heap)
SpentAs heap _ = ⊥

-- Why a heap isn't closed: it has ended; it is to be tried again; so many threads aren't gathered. Or it has ended now,
-- and memory for its report was missing.
abbrev pub CloseRefused : OwnerStage → OwnerStage → Status → Type 0
CloseRefused old new statuses.Gone = IsSpent old × (new ≡ old)
CloseRefused old new (statuses.Fault faults.Busy) = MatchOption (open_at old) ⊥ (λ desk. open_at new ≡ Some desk)
CloseRefused old new (statuses.Fault (faults.Missing registered gathered)) =
    MatchOption (open_at old) ⊥ (λ desk. (open_at new ≡ Some desk)
    × MatchOption (seen_by new) ⊥ (LacksThreads desk.heap registered gathered))
CloseRefused old new (statuses.Fault faults.OutOfMemory) = MatchOption (open_at old) ⊥ (λ desk. SpentAs desk.heap new)
CloseRefused old new _ = ⊥

-- a report as a text, and the text once it is written
abbrev pub text_in : LastReportSeen → List ℕ
text_in last =
    report_text last.report.ledger last.report.live last.report.remains.items last.report.cycles.items

-- why a report isn't shown
abbrev pub ReportRefused : OwnerStage → Status → Type 0
ReportRefused (owners.Open opened) status = status ≡ statuses.Fault faults.NotIdle
ReportRefused (owners.Closed last) status = status ≡ statuses.Fault faults.OutOfMemory
ReportRefused (owners.Gone seen) status = status ≡ statuses.Gone

-- the numbers of a report
pub record Shows (last : LastReportSeen) (left : Left) : Type 0 where
  pub allocs : left.allocs ≡ last.report.ledger.allocs
  pub frees : left.frees ≡ last.report.ledger.frees
  pub live : left.live ≡ last.report.live
  pub cycles : left.cycles ≡ length last.report.cycles.items
