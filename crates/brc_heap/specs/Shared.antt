-- What a call on a shared heap says of the root that it found at the desk. Another may have that root at once, so what it
-- had done is what it had done at one moment. Each `seen` below is a `Sight` that the call hands out: the root as the call
-- found it and left it, by a seat that the desk's rule speaks of.
use Rattle.std.specs.Prelude.{◌≡◌, ◌≢◌, ℕ, true, Option, MatchOption}
use Rattle.std.specs.declared.alloc.Global.{Global}
use Rattle.brc_words.specs.declared.fault.Fault.{Fault}
use Rattle.brc_words.specs.declared.fault.Fault.TheVariants as faults
use Rattle.brc_count.specs.law.declared.rule.view.View.{View}
use Rattle.brc_count.specs.law.steps.Joining.{next_thread, registering, gathering}
use Rattle.brc_count.specs.table.Seated.{TableSeen, view_of}
use Rattle.brc_count.specs.Closing.{BeginsBy}
use Rattle.brc_count.specs.Frames.{FrameSeen, word_asked}
use Rattle.brc_thread.specs.Apart.{first_of_part}
use Rattle.brc_thread.specs.Counting.{registrations, gatherings, in_u32, Counts}
use Rattle.brc_thread.specs.Threads.{RefusesThread, RetiredSeen}
use Rattle.brc_heap.specs.Closing.{IsReportOfEnd}
use Rattle.brc_heap.specs.Lasting.{LastReportSeen}
use Rattle.brc_heap.specs.Desk.{InnerSeen, SightSeen}
use Rattle.brc_heap.specs.declared.shared.RootCounts.{RootCounts}
use Rattle.brc_heap.specs.declared.shared.NotClosed.{NotClosed}
use Rattle.brc_heap.specs.declared.shared.NotClosed.TheVariants as reasons
use Rattle.brc_heap.specs.declared.shared.NotRegistered.{NotRegistered}
use Rattle.brc_heap.specs.declared.shared.NotRegistered.TheVariants.{Busy, TooManyThreads, OutOfMemory}
use Rattle.brc_heap.specs.declared.shared.Stays.{Stays}
use Rattle.brc_heap.specs.declared.shared.Stays.TheVariants.{Open, Memory}

-- the numbers are what a root counts that has done this
abbrev pub HasCounted : View → RootCounts → Type 0
HasCounted view counts = Counts view counts.registered counts.gathered counts.ledger

-- it was seen at this very desk
abbrev pub IsSeenAt : InnerSeen → SightSeen → Type 0
IsSeenAt shared seen = (seen.desk ≡ shared.desk) × (seen.heap ≡ shared.heap)

-- the root that was seen is this heap's
pub record IsOf (heap : TableSeen) (seen : SightSeen) : Type 0 where
  pub heap_is : seen.heap ≡ heap
  pub found_of : seen.found.table ≡ heap.table
  pub left_of : seen.left.table ≡ heap.table

-- the root was seen, and had counted so much
pub record CountsOf (heap : TableSeen) (seen : SightSeen) (counts : RootCounts) : Type 0 where
  pub of_heap : IsOf heap seen
  pub looked : seen.left ≡ seen.found
  pub counted : HasCounted seen.left.view counts

-- The heap's root, as it was found, gave the thread the lowest number that nobody had, and the log that such a thread
-- begins with. It was left with this registration as the last that it did.
pub record RegistersHere (heap : TableSeen) (mutator : FrameSeen Global) (seen : SightSeen) : Type 0 where
  pub of_heap : IsOf heap seen
  pub thread : mutator.seat.thread ≡ next_thread seen.found.view
  pub begins : BeginsBy heap.cells seen.found.view mutator.seat.log
  pub registers : seen.left.view ≡ registering seen.found.view

-- A thread's claims begin with its own part of the heap, and each later one near its last. So threads that make objects at
-- the same time meet in a free word only once a part is full.
pub record ClaimsApart (mutator : FrameSeen Global) : Type 0 where
  pub begins : mutator.from ≡ word_asked mutator.heap.cells (first_of_part mutator.heap.cells mutator.seat.thread)
  pub near : mutator.near ≡ true

-- the heap's root, as it was seen, has registered a thread as the last that it did
pub record HasRegistered (heap : TableSeen) (seen : SightSeen) : Type 0 where
  pub of_heap : IsOf heap seen
  pub before : View
  pub registers : seen.left.view ≡ registering before

-- the heap's root, as it was seen, has no number for a thread more
pub record HasNoNumber (heap : TableSeen) (seen : SightSeen) : Type 0 where
  pub of_heap : IsOf heap seen
  pub none : RefusesThread seen.left faults.TooManyThreads

-- Nobody is registered: another call had the root, or the heap's root, as it was seen, has no number for a thread more, or
-- memory was missing.
abbrev pub RefusesHere : InnerSeen → NotRegistered → Type 0
RefusesHere shared Busy = Unit {0}
RefusesHere shared (TooManyThreads seen) = IsSeenAt shared seen × HasNoNumber shared.heap seen
RefusesHere shared OutOfMemory = Unit {0}

abbrev pub fault_of : NotRegistered → Fault
fault_of Busy = faults.Busy
fault_of (TooManyThreads seen) = faults.TooManyThreads
fault_of OutOfMemory = faults.OutOfMemory

-- The heap's root, as it was found, has taken in what the thread did, as the last that it did; and had counted so much
-- then.
pub record GathersHere (heap : TableSeen) (retired : RetiredSeen Global) (seen : SightSeen) (counts : RootCounts)
    : Type 0 where
  pub of_heap : IsOf heap seen
  pub took : seen.left.view ≡ gathering seen.found.view (view_of retired.seat)
  pub counted : HasCounted seen.left.view counts

-- The report was made of this very heap as it ended, with the root that it had then. It is of the last state of the one run
-- of all threads, each of which that root registered and gathered.
pub record ClosesAs (heap : TableSeen) (last : LastReportSeen) : Type 0 where
  pub same : last.heap ≡ heap
  pub of_heap : last.root.table ≡ heap.table
  pub all : registrations last.root.view ≡ gatherings last.root.view
  pub closes : IsReportOfEnd heap.cells heap.local_limit last.root.view last.report

-- the heap's root, as it was seen, has gathered each thread that it registered
pub record HasGatheredAll (heap : TableSeen) (seen : SightSeen) : Type 0 where
  pub of_heap : IsOf heap seen
  pub all : registrations seen.left.view ≡ gatherings seen.left.view

-- the heap's root, as it was seen, has gathered another number of threads than it registered, and both are told
pub record LacksThreads (heap : TableSeen) (registered gathered : ℕ) (seen : SightSeen) : Type 0 where
  pub of_heap : IsOf heap seen
  pub lacks : registrations seen.left.view ≢ gatherings seen.left.view
  pub told : registered ≡ registrations seen.left.view
  pub told_gathered : gathered ≡ in_u32 (gatherings seen.left.view)

-- Why a heap is open still: another call had the root; or the heap's root has gathered another number of threads than it
-- registered, and both are told; or it has gathered all, and others lead to the heap.
abbrev pub IsOpenBy : InnerSeen → NotClosed → Option SightSeen → Type 0
IsOpenBy shared reasons.Busy seen = Unit {0}
IsOpenBy shared (reasons.Missing registered gathered) seen =
    MatchOption seen ⊥ (λ s. IsSeenAt shared s × LacksThreads shared.heap registered gathered s)
IsOpenBy shared reasons.Held seen = MatchOption seen ⊥ (λ s. IsSeenAt shared s × HasGatheredAll shared.heap s)

-- the same heap is handed back, with the reason; or all were gathered, and memory for the report was missing
abbrev pub StaysAs : InnerSeen → Stays → Type 0
StaysAs shared (Open back why seen) = (back ≡ shared) × IsOpenBy shared why seen
StaysAs shared (Memory seen) = IsSeenAt shared seen × HasGatheredAll shared.heap seen
