-- How a thread without handles ends: what it does from its last call as a mutator until the root can gather it.
use Rattle.std.specs.Prelude.{◌≡◌, ◌≤◌, ◌<◌, ℕ, length}
use Rattle.brc_count.specs.law.steps.Joining.{gathering}
use Rattle.brc_count.specs.table.Seated.{RootSeen, view_of}
use Rattle.brc_count.specs.declared.ledger.Ledger.{Ledger}
use Rattle.brc_count.specs.Frames.{FrameSeen, IsUnlocked, Turns}
use Rattle.brc_count.specs.Closing.{GoesOut, TurnsLeaving}
use Rattle.brc_thread.specs.Settling.{Settles}
use Rattle.brc_thread.specs.Threads.{RetiredSeen, ledger_of}

module _ {A : Type 0} where
  -- A thread that has left deals with what is popped and takes its dead blocks apart, until nothing is left; its seat
  -- is that with which it ended.
  pub record Finishes (left : FrameSeen A) (retired : RetiredSeen A) : Type 0 where
    pub turns : ℕ
    pub done : FrameSeen A
    pub works : TurnsLeaving left turns done
    pub seat : retired.seat ≡ done.seat
    pub heap : retired.heap ≡ left.heap
    pub thread : retired.seat.thread ≡ left.seat.thread

  -- The thread settles, hands over what it owns, closes all its queue words, by rising number, and finishes.
  pub record RetiresAs (mutator : FrameSeen A) (retired : RetiredSeen A) : Type 0 where
    pub settled : FrameSeen A
    pub settles : Settles mutator settled
    pub left : FrameSeen A
    pub goes : GoesOut settled left
    pub finishes : Finishes left retired
    pub heap : retired.heap ≡ mutator.heap
    pub thread : retired.seat.thread ≡ mutator.seat.thread

  -- so, and the root takes in what it did, which the ledger counts
  pub record EndsThread (mutator : FrameSeen A) (old new : RootSeen) (ledger : Ledger) : Type 0 where
    pub retired : RetiredSeen A
    pub retires : RetiresAs mutator retired
    pub gathers : new.view ≡ gathering old.view (view_of retired.seat)
    pub counted : ledger ≡ ledger_of retired.heap.cells retired.seat.log

  -- The thread does some turns of work on dead blocks, at most so many, hands over, and closes all its queue words: it
  -- neither polls nor waits.
  pub record Departs (budget : ℕ) (mutator left : FrameSeen A) : Type 0 where
    pub turns : ℕ
    pub few : turns ≤ budget
    pub worked : FrameSeen A
    pub works : Turns mutator turns worked
    pub goes : GoesOut worked left
    pub heap : left.heap ≡ mutator.heap
    pub thread : left.seat.thread ≡ mutator.seat.thread

  -- so many turns were done, and a dead block is left
  pub record StaysFor (budget : ℕ) (mutator same : FrameSeen A) : Type 0 where
    pub works : Turns mutator budget same
    pub left : 0 < length same.works
    pub bare : same.len ≡ 0
    pub unlocked : IsUnlocked same
    pub heap : same.heap ≡ mutator.heap
    pub thread : same.seat.thread ≡ mutator.seat.thread
