-- A replay from bytes to bytes.
use Rattle.std.specs.Prelude.{◌≡◌, ◌⊎◌, ℕ, ◌+◌, Bool, List, [], ◌++◌, reverse, Option, Result, Ok, Err, IfSome, nat_lt}
use Rattle.std.specs.Io.KnownBytes.{Appends, Keeps}
use Rattle.brc_words.specs.declared.fault.Fault.{Fault}
use Rattle.brc_words.specs.declared.fault.Fault.TheVariants as faults
use Rattle.brc_words.specs.declared.fault.Reason.{Reason}
use Rattle.brc_words.specs.declared.fault.Reason.TheVariants as reasons
use Rattle.law.specs.declared.world.event.Event.{Event}
use Rattle.law.specs.world.Heap.{Heap, opening_in}
use Rattle.law.specs.world.Runs.{IsRun, world_after}
use Rattle.law.specs.world.Holding.{live_count}
use Rattle.brc_core.specs.Replays.{IsFirstNotEnabled}
use Rattle.brc_trace.specs.Traces.{Listing, first_number, trace_at}
use Rattle.brc_trace.specs.Worlds.{world_text}

-- the bytes spell a trace, its events are a run, and the world is the one that the run leads to
pub record IsReplayed (bytes : List ℕ) (world : Heap) : Type 0 where
  pub trace : Listing
  pub spelled : trace_at bytes ≡ Ok trace
  pub run : IsRun (opening_in trace.edition trace.cells trace.local_limit) (reverse trace.events)
  pub leads : world ≡ world_after (opening_in trace.edition trace.cells trace.local_limit) (reverse trace.events)

-- the bytes spell a trace, and the line is that of its first event that isn't enabled
pub record IsNotEnabled (bytes : List ℕ) (line : ℕ) : Type 0 where
  pub trace : Listing
  pub spelled : trace_at bytes ≡ Ok trace
  pub at : ℕ
  pub first : IsFirstNotEnabled (opening_in trace.edition trace.cells trace.local_limit) trace.events at
  pub counted : line ≡ at + first_number trace.edition

-- ---- from line to line

-- the lines are read as events, these are a run from one world, and lead to another
pub record AreMade (start : Heap) (read : Result (List Event) ℕ) (world : Heap) : Type 0 where
  pub events : List Event
  pub spelled : read ≡ Ok events
  pub run : IsRun start (reverse events)
  pub leads : world ≡ world_after start (reverse events)

-- the lines, of which the first has this number, are read as events, and the line is that of the first that isn't
-- enabled
pub record AreRefused (start : Heap) (number : ℕ) (read : Result (List Event) ℕ) (line : ℕ) : Type 0 where
  pub events : List Event
  pub spelled : read ≡ Ok events
  pub at : ℕ
  pub first : IsFirstNotEnabled start events at
  pub counted : line ≡ at + number

-- what is told of an event that isn't enabled, by the lines behind it: a bad one is told before it
abbrev pub told : ℕ → Result (List Event) ℕ → Fault
told refused (Ok later) = faults.BadTrace refused reasons.NotEnabled
told refused (Err bad) = faults.BadTrace bad reasons.NotALine

-- what becomes of a world by lines of events, of which the first has this number, by the answer
abbrev pub ReplaysLines : Result (Unit {0}) Fault → Heap → Heap → ℕ → Result (List Event) ℕ → Type 0
ReplaysLines (Ok u) old new number read = AreMade old read new
ReplaysLines (Err faults.OutOfMemory) old new number read = Unit {0}
ReplaysLines (Err (faults.BadTrace line reasons.NotALine)) old new number read = read ≡ Err line
ReplaysLines (Err (faults.BadTrace line reasons.NotEnabled)) old new number read = AreRefused old number read line
ReplaysLines (Err _) old new number read = ⊥

-- ---- the whole

-- why a line is bad
abbrev pub IsBad : Reason → ℕ → List ℕ → Type 0
IsBad reasons.NotALine line bytes = trace_at bytes ≡ Err line
IsBad reasons.NotEnabled line bytes = IsNotEnabled bytes line

-- why bytes lead to no world: a bad line, or want of memory
abbrev pub LeadsNowhere : Fault → List ℕ → Type 0
LeadsNowhere faults.OutOfMemory bytes = Unit {0}
LeadsNowhere (faults.BadTrace line reason) bytes = IsBad reason line bytes
LeadsNowhere _ bytes = ⊥

-- the world's whole text is written, and live says whether an object lives in it
pub record IsWritten (input old new : Option (List ℕ)) (live : Bool) : Type 0 where
  pub world : Heap
  pub replayed : IfSome input (λ bytes. IsReplayed bytes world)
  pub written : Appends old new (world_text world)
  pub lives : live ≡ nat_lt 0 (live_count world)

-- the world's text is written up to what is left of it
pub record IsHalfWritten (input : Option (List ℕ)) (front : List ℕ) : Type 0 where
  pub world : Heap
  pub replayed : IfSome input (λ bytes. IsReplayed bytes world)
  pub left : List ℕ
  pub text : world_text world ≡ front ++ left

-- What a replay does, by its answer. Nothing is written unless the whole trace was replayed; a read or a write that
-- fails ends it, the write after a front of the text.
abbrev pub Replays : Option (List ℕ) → Option (List ℕ) → Option (List ℕ) → Result Bool Fault → Type 0
Replays input old new (Ok live) = IsWritten input old new live
Replays input old new (Err (faults.BadTrace line reason)) = Keeps old new × IfSome input (IsBad reason line)
Replays input old new (Err faults.OutOfMemory) = Keeps old new
Replays input old new (Err faults.Io) = (front : List ℕ) × Appends old new front
    × ((front ≡ []) ⊎ IsHalfWritten input front)
Replays input old new (Err _) = ⊥
