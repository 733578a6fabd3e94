-- Why a replay refuses a text.
use Rattle.std.specs.Prelude.{◌≡◌, ◌<◌, ℕ, ◌+◌, true, List, length, take, reverse, Option, Some, None, is_some}
use Rattle.std.specs.Prelude.{Result, Ok, Err, IfSome}
use Rattle.brc_words.specs.declared.limits.TheConstants.{MOST_INPUT}
use Rattle.law.specs.declared.world.event.Event.{Event}
use Rattle.law.specs.world.Heap.{Heap, opening_in}
use Rattle.law.specs.world.Runs.{IsRun, world_after}
use Rattle.brc_core.specs.Replays.{IsFirstNotEnabled}
use Rattle.brc_state.specs.Refusals.{refusal_of}
use Rattle.brc_trace.specs.Causes.{IsCause, edition_at, piece_at}
use Rattle.brc_trace.specs.Finer.{IsFinerSo, has_parts, finer_of}
use Rattle.brc_trace.specs.Replaying.{IsBad}
use Rattle.brc_trace.specs.Standing.{seen}
use Rattle.brc_trace.specs.Traces.{Listing, first_number, trace_at}
use Rattle.brc_words.specs.declared.fault.Fault.{Fault}
use Rattle.brc_words.specs.declared.fault.Fault.TheVariants as faults
use Rattle.brc_words.specs.declared.fault.Reason.TheVariants as reasons
use Rattle.brc_trace.specs.declared.explaining.Refused.{Refused}
use Rattle.brc_trace.specs.declared.explaining.Unreplayed.{Unreplayed}
use Rattle.brc_trace.specs.declared.explaining.Why.{Why}
use Rattle.brc_trace.specs.declared.explaining.Why.TheVariants as whys

-- The event on this line is refused in this world for what is told, and what is said to stand there does. Of a condition
-- that has several parts it is told which fails, and that is so.
pub record WhyRefused (world : Heap) (event : Event) (line : ℕ) (told : Refused) : Type 0 where
  pub line_is : told.line ≡ line
  pub event_is : told.event ≡ event
  pub refusal_is : refusal_of world event ≡ Some told.refusal
  pub standing_is : told.standing ≡ seen world event
  pub finer_is : told.finer ≡ finer_of world event told.refusal
  pub finer_so : IfSome told.finer (IsFinerSo world event)
  pub finer_told : has_parts told.refusal ≡ true → is_some told.finer ≡ true

-- the events before are a run, the next one isn't enabled where they lead, and it is told why; the first has this line
pub record IsRefusedAt (start : Heap) (number : ℕ) (events : List Event) (told : Refused) : Type 0 where
  pub at : ℕ
  pub first : IsFirstNotEnabled start events at
  pub why : WhyRefused (world_after start (reverse (take at events))) first.event (at + number) told

-- what is told of events: none where they are a run
abbrev pub ExplainsEvents : Heap → ℕ → List Event → Option Refused → Type 0
ExplainsEvents start number events None = IsRun start (reverse events)
ExplainsEvents start number events (Some told) = IsRefusedAt start number events told

-- what is told of the bytes' trace
pub record ExplainsTrace (bytes : List ℕ) (told : Option Refused) : Type 0 where
  pub trace : Listing
  pub spelled : trace_at bytes ≡ Ok trace
  pub events : ExplainsEvents (opening_in trace.edition trace.cells trace.local_limit) (first_number trace.edition)
      trace.events told

-- What is told of bytes: that they are too many, their least bad line and what is wrong with it, the first event that
-- isn't enabled and why, or nothing where they are a trace whose events are a run.
abbrev pub Explains : List ℕ → Option Why → Type 0
Explains bytes (Some whys.TooLong) = MOST_INPUT < length bytes
Explains bytes (Some (whys.Bad line cause)) = (trace_at bytes ≡ Err line) × IsCause (edition_at bytes) cause line
    (piece_at line bytes)
Explains bytes (Some (whys.Refused told)) = ExplainsTrace bytes (Some told)
Explains bytes None = ExplainsTrace bytes None

-- what is answered, without why
abbrev pub without_why : {T : Type 0} → Result T Unreplayed → Result T Fault
without_why (Ok found) = Ok found
without_why (Err told) = Err told.fault

-- the fault that a replay answers for this reason
abbrev pub fault_of_why : Why → Fault
fault_of_why whys.TooLong = faults.BadTrace 0 reasons.NotALine
fault_of_why (whys.Bad line cause) = faults.BadTrace line reasons.NotALine
fault_of_why (whys.Refused told) = faults.BadTrace told.line reasons.NotEnabled

-- what is told of a fault is of that fault, if the fault is right; of one that isn't of the trace nothing is told
abbrev pub Agrees : List ℕ → Fault → Option Why → Type 0
Agrees bytes fault None = Unit {0}
Agrees bytes (faults.BadTrace line reason) (Some why) = IsBad reason line bytes
    → faults.BadTrace line reason ≡ fault_of_why why
Agrees bytes _ (Some why) = ⊥
