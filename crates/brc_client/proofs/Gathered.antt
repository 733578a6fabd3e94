-- A thread that is gathered, at each stage on its way out; and one that isn't registered.
use Rattle.std.proofs.Common.{◌≡◌, ℕ, Option, Some, Result, Ok, Err, refl, sym, subst, ap, ◌∙◌}
use Rattle.std.specs.Result.{OnOk}
use Rattle.std.specs.declared.alloc.Global.{Global}
use Rattle.brc_count.specs.table.Seated.{TableSeen, SeatSeen}
use Rattle.brc_count.specs.Frames.{FrameSeen, KeepsHandles, Turns}
use Rattle.brc_count.specs.Polling.{Polled}
use Rattle.brc_count.specs.Closing.{GoesOut, TurnsLeaving}
use Rattle.brc_thread.specs.Threads.{RetiredSeen}
use Rattle.brc_heap.specs.declared.shared.RootCounts.{RootCounts}
use Rattle.brc_heap.specs.declared.shared.NotRegistered.{NotRegistered}
use Rattle.brc_heap.specs.declared.shared.NotRegistered.TheVariants.{Busy, TooManyThreads, OutOfMemory}
use Rattle.brc_heap.specs.Desk.{InnerSeen, SightSeen}
use Rattle.brc_heap.specs.Shared.{GathersHere, RefusesHere, IsOf, fault_of}
use Rattle.brc_client.specs.declared.status.Status.{Status}
use Rattle.brc_client.specs.declared.status.Status.TheVariants as statuses
use Rattle.brc_client.specs.Clients.{ClientSeen, KeptGoes}
use Rattle.brc_client.specs.declared.thread.Stage.{Stage}
use Rattle.brc_client.specs.declared.thread.Stage.TheVariants as stages
use Rattle.brc_client.specs.Ends.{LeavesAs, StaysAt, RefusedAt, seen_in}

-- the desk's root took it in
pub done_gathered : (heap : TableSeen) (done : RetiredSeen Global) (seen : SightSeen) (counts : RootCounts)
    → done.heap ≡ heap → GathersHere heap done seen counts → LeavesAs (stages.Ends done) (stages.Gathered seen)
done_gathered heap done seen counts same took = record {
  seen = seen;
  over = refl;
  of_heap = subst (λ (h : TableSeen). IsOf h seen) (sym same) took.of_heap;
  took = took.took;
}

-- nothing was left to do
pub left_gathered : (left done : FrameSeen Global) (retired : RetiredSeen Global) (n : ℕ) (new : Stage)
    → KeepsHandles left done → TurnsLeaving left n done → retired.seat ≡ done.seat → retired.heap ≡ done.heap
    → LeavesAs (stages.Ends retired) new → LeavesAs (stages.Leaves left) new
left_gathered left done retired n new keeps turns seat heap gathered = record {
  retired = retired;
  turns = n;
  done = done;
  works = turns;
  seat = seat;
  heap = heap ∙ keeps.heap;
  thread = ap (λ (s : SeatSeen Global). s.thread) seat ∙ keeps.thread;
  gathered = gathered;
}

-- the client left
pub client_gathered : (client : ClientSeen) (polled idle bare left : FrameSeen Global) (told turns : ℕ) (new : Stage)
    → Polled client.frame polled told → Turns polled turns idle → KeptGoes idle client.none bare → GoesOut bare left
    → left.heap ≡ client.frame.heap → left.seat.thread ≡ client.frame.seat.thread
    → LeavesAs (stages.Leaves left) new → LeavesAs (stages.Works client) new
client_gathered client polled idle bare left told turns new polls works lets_go goes heap thread gathered = record {
  told = told;
  polled = polled;
  polls = polls;
  turns = turns;
  idle = idle;
  works = works;
  bare = bare;
  lets_go = lets_go;
  left = left;
  goes = goes;
  heap = heap;
  thread = thread;
  gathered = gathered;
}

-- ---- a thread that isn't gathered yet

pub done_stays : (done back : RetiredSeen Global) → back.heap ≡ done.heap
    → StaysAt (stages.Ends done) (stages.Ends back)
done_stays done back same = record {
  bare = λ has. has;
  heap = done.heap;
  was = refl;
  is = ap (λ (h : TableSeen). Some h) same;
}

pub left_stays : (left back : FrameSeen Global) → back.heap ≡ left.heap
    → StaysAt (stages.Leaves left) (stages.Leaves back)
left_stays left back same = record {
  bare = λ has. has;
  heap = left.heap;
  was = refl;
  is = ap (λ (h : TableSeen). Some h) same;
}

-- ---- at the desk

told_as : (shared : InnerSeen) (refused : NotRegistered) → RefusesHere shared refused
    → RefusedAt shared.heap (seen_in refused) (statuses.Fault (fault_of refused))
told_as shared Busy why = tt
told_as shared (TooManyThreads seen) why = why.1
told_as shared OutOfMemory why = tt

-- a refusal is told by its status, with what was seen
pub told_at : (shared : InnerSeen) (refused : NotRegistered) (seen : Option SightSeen) (status : Status)
    → RefusesHere shared refused → status ≡ statuses.Fault (fault_of refused) → seen ≡ seen_in refused
    → RefusedAt shared.heap seen status
told_at shared refused seen status why is told =
    subst (λ (o : Option SightSeen). RefusedAt shared.heap o status) (sym told)
    (subst (λ (s : Status). RefusedAt shared.heap (seen_in refused) s) (sym is) (told_as shared refused why))

-- what an answer brings with it
pub on_ok : {T E P Q : Type 0} (result : Result T E) → OnOk result P → (P → Q) → OnOk result Q
on_ok (Ok answer) had step = step had
on_ok (Err refused) had step = tt
