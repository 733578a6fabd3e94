-- What an export on a whole thread or heap comes to.
use Rattle.std.specs.Prelude.{◌≡◌, ◌↔◌, ◌⊎◌, ⊤, ℕ, List, Option, Result, Ok, Err, IfOk, IfErr, IfSome, OnOk, OnErr}
use Rattle.std.specs.Prelude.{Some, MatchOption, length}
use Rattle.brc_words.specs.declared.fault.Fault.TheVariants as faults
use Rattle.brc_count.specs.declared.ledger.Ledger.{Ledger}
use Rattle.brc_count.specs.law.world.Heap.{AreOptions}
use Rattle.brc_heap.specs.Desk.{SightSeen}
use Rattle.brc_heap.specs.declared.shared.RootCounts.{RootCounts}
use Rattle.brc_client.specs.declared.status.Status.{Status}
use Rattle.brc_client.specs.declared.status.Status.TheVariants as statuses
use Rattle.brc_client.specs.declared.thread.Stage.{Stage}
use Rattle.brc_client.specs.declared.owner.OwnerStage.{OwnerStage}
use Rattle.brc_client.specs.declared.owner.Left.{Left}
use Rattle.brc_client.specs.Desks.{DeskSeen}
use Rattle.brc_client.specs.Ends.{OpensWith, RegistersAt, RegisteredAt, RegisterRefused, HasReference}
use Rattle.brc_client.specs.Ends.{LeavesAs, LeaveRefused, IsOver, LedgerOf, open_at, seen_by, SameOwner}
use Rattle.brc_client.specs.Ends.{CountsAt, CountsRefused, ClosedAs, CloseRefused, report_of, Shows, text_in}
use Rattle.brc_client.specs.Ends.{ReportRefused}
use Rattle.brc_things.specs.Looking.{shown_from}
use Rattle.brc_c.specs.declared.held.Held.{Held}
use Rattle.brc_c.specs.Exports.{code_of}

-- ---- threads

-- A thread was registered at the heap, by its root, which the variable saw; or it wasn't.
module _ {S : Type 0} where
  pub record RegistersThread (heap : S → Option DeskSeen) (seen : S → Option SightSeen) (Same : S → S → Type 0)
      (old new : S) (answer : Result Stage Status) : Type 0 where
    pub registers : IfOk answer (RegistersAt (heap old))
    pub registered : OnOk answer (RegisteredAt (heap old) (seen new))
    pub refused : IfErr answer (RegisterRefused (heap old) (seen new))
    pub same : Same old new

-- C's variable has the thread that was registered
abbrev pub FillsRoom : Option Held → Result Stage Status → Type 0
FillsRoom room (Ok thread) = MatchOption room ⊥ (λ held. held.thread ≡ thread)
FillsRoom room (Err status) = ⊤

-- the thread had no reference, and is gathered; or it isn't yet
pub record Leaves (old new : Stage) (answer : Result (Unit {0}) Status) : Type 0 where
  pub gathered : OnOk answer (LeavesAs old new)
  pub bare : OnOk answer (HasReference old → ⊥)
  pub refused : IfErr answer (LeaveRefused old new)

-- what the thread has made and given back; or it is gathered
pub record TellsLedger (old new : Stage) (answer : Result Ledger Status) : Type 0 where
  pub ledger : IfOk answer (LedgerOf old)
  pub gone : OnErr answer (IsOver old)
  pub refused : IfErr answer (λ status. status ≡ statuses.Gone)
  pub same : new ≡ old

abbrev pub WritesLedger : ℕ → ℕ → ℕ → ℕ → Result Ledger Status → Type 0
WritesLedger allocs_was allocs frees_was frees (Ok ledger) = (allocs ≡ ledger.allocs) × (frees ≡ ledger.frees)
WritesLedger allocs_was allocs frees_was frees (Err status) = (allocs ≡ allocs_was) × (frees ≡ frees_was)

-- ---- heaps

-- a heap was opened with these sizes, and C's variable has it; or it wasn't
pub record OpensHeap (cells local_limit first : ℕ) (room : Option OwnerStage) (code : ℕ) : Type 0 where
  pub answer : Result OwnerStage Status
  pub opened : IfOk answer (OpensWith cells local_limit first)
  pub options : (answer ≡ Err (statuses.Fault faults.BadOptions)) ↔ ¬ (AreOptions cells local_limit)
  pub refused : IfErr answer (λ status. (status ≡ statuses.Fault faults.BadOptions)
      ⊎ (status ≡ statuses.Fault faults.OutOfMemory))
  pub told : code ≡ code_of answer
  pub filled : IfOk answer (λ owner. room ≡ Some owner)

-- what the heap's root has counted
pub record TellsCounts (old new : OwnerStage) (answer : Result RootCounts Status) : Type 0 where
  pub counts : IfOk answer (CountsAt (open_at old) (seen_by new))
  pub refused : IfErr answer (CountsRefused (open_at old))
  pub same : SameOwner old new

abbrev pub WritesCounts : ℕ → ℕ → ℕ → ℕ → Result RootCounts Status → Type 0
WritesCounts registered gathered allocs frees (Ok counts) = (registered ≡ counts.registered)
    × (gathered ≡ counts.gathered) × (allocs ≡ counts.ledger.allocs) × (frees ≡ counts.ledger.frees)
WritesCounts registered gathered allocs frees (Err status) = ⊤

-- the heap is closed, with this report; or it isn't
pub record Closes (old new : OwnerStage) (answer : Result Left Status) : Type 0 where
  pub closed : OnOk answer (ClosedAs old new)
  pub left : IfOk answer (λ left. IfSome (report_of new) (λ last. Shows last left))
  pub refused : IfErr answer (CloseRefused old new)

abbrev pub WritesLeft : ℕ → ℕ → Result Left Status → Type 0
WritesLeft live cycles (Ok left) = (live ≡ left.live) × (cycles ≡ left.cycles)
WritesLeft live cycles (Err status) = ⊤

-- the report's text from a byte on, as much as there is room for
pub record ShowsReport (start : ℕ) (room to : List ℕ) (old new : OwnerStage) (answer : Result ℕ Status) : Type 0 where
  pub same : new ≡ old
  pub len : IfOk answer (λ len. IfSome (report_of old) (λ report. len ≡ length (text_in report)))
  pub shown : OnOk answer (IfSome (report_of old) (λ report. to ≡ shown_from (text_in report) start room))
  pub refused : IfErr answer (ReportRefused old)
  pub unchanged : OnErr answer (to ≡ room)
