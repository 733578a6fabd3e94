-- From the cause of an instruction's want to that of a section's.
use Rattle.std.proofs.Common.{arith, ◌≡◌, ◌≢◌, ◌≤◌, ℕ, true, List, Option, Some, Result, Ok, Err, IfErr}
use Rattle.std.proofs.Common.{IfSome, sym, ap, subst}
use Rattle.brc_words.specs.Faults.{number_of}
use Rattle.brc_words.specs.declared.fault.Fault.{Fault}
use Rattle.brc_words.specs.declared.fault.Fault.TheVariants as faults
use Rattle.brc_words.specs.declared.limits.TheConstants.{MOST_BIRTHS}
use Rattle.brc_script.specs.declared.script.Section.{Section}
use Rattle.brc_script.specs.Scripts.{is_private}
use Rattle.brc_meaning.specs.Sections.{written_out}
use Rattle.brc_count.specs.Frames.{FrameSeen, KeepsHandles, Turns, ledger_seen}
use Rattle.brc_count.specs.Polling.{Polled}
use Rattle.brc_count.proofs.Quiet.{turns_quietly, polled_quietly}
use Rattle.brc_count.specs.law.living.Later.{IsLater}
use Rattle.brc_count.specs.law.living.Quiet.{Quietly}
use Rattle.brc_count.proofs.law.living.Earlier.{later_both, quietly_later}
use Rattle.brc_instructions.specs.declared.shown.Shown.{Shown}
use Rattle.brc_instructions.specs.Causes.{NoneWasFree, WantsNoRoom, Caused}
use Rattle.brc_instructions.proofs.Causes_Of.{uncaused, uncaused_memory, caused_from, caused_on, none_quietly, born_quietly}
use Rattle.brc_section.specs.declared.running.Halt.{Halt}
use Rattle.brc_section.specs.Running.{AreOwn, NotesShown, HaltOf, FaultOf}
use Rattle.brc_section.specs.Wants.{HaltsForCause, CauseLeft}
use Rattle.brc_section.proofs.Plainly.{own_section, halt_told}

abbrev fault_in : Result (Unit {0}) Fault → Fault → Fault
fault_in (Ok done) else = else
fault_in (Err fault) else = fault

module _ {A : Type 0} where
  -- ---- one line

  module _ (old mid polled : FrameSeen A) (told : ℕ) (later : IsLater old.seat.log mid.seat.log)
      (polls : Polled mid polled told) where
    pub later_polled : IsLater old.seat.log polled.seat.log
    later_polled = later_both old.seat.log mid.seat.log polled.seat.log later
        (quietly_later mid.seat.log polled.seat.log (polled_quietly mid polled told polls))

    pub later_worked : (new : FrameSeen A) (turns : ℕ) → Turns polled turns new → IsLater old.seat.log new.seat.log
    later_worked new turns worked = later_both old.seat.log polled.seat.log new.seat.log later_polled
        (quietly_later polled.seat.log new.seat.log (turns_quietly polled turns new worked))

    -- the line was refused
    pub caused_polled : (fault : Fault) → KeepsHandles mid polled → Caused old mid fault → Caused old polled fault
    caused_polled fault keeps caused =
        caused_on old mid polled fault keeps.heap keeps.len (polled_quietly mid polled told polls) caused

  -- what it shows couldn't be read, or noted
  pub caused_noted : (old new : FrameSeen A) (had has : List ℕ) (read : Result (Shown A) Fault) (fault : Fault)
      → IfErr read WantsNoRoom → NotesShown read had has (Err fault) → Caused old new fault
  caused_noted old new had has (Ok shown) fault room notes = uncaused_memory old new fault notes.0
  caused_noted old new had has (Err own_fault) fault room notes =
      let same : own_fault ≡ fault = sym (ap (λ (r : Result (Unit {0}) Fault). fault_in r fault) notes.0)
      in subst (Caused old new) same (uncaused old new own_fault room)

  -- ---- lines after lines

  pub goes_one : {old new : FrameSeen A} → IsLater old.seat.log new.seat.log → HaltsForCause old new (Ok tt)
  goes_one later = record { later = later; caused = tt }

  pub halts_one : {old new : FrameSeen A} (halt : Halt) → IsLater old.seat.log new.seat.log
      → Caused old new halt.fault
      → HaltsForCause old new (Err halt)
  halts_one halt later caused = record { later = later; caused = caused }

  module _ (old mid new : FrameSeen A) (heap : mid.heap ≡ old.heap) (later : IsLater old.seat.log mid.seat.log) where
    pub goes_next : HaltsForCause mid new (Ok tt) → IsLater old.seat.log new.seat.log
    goes_next goes = later_both old.seat.log mid.seat.log new.seat.log later goes.later

    pub halts_next : (halt : Halt) → HaltsForCause mid new (Err halt) → HaltsForCause old new (Err halt)
    halts_next halt goes = record {
      later = later_both old.seat.log mid.seat.log new.seat.log later goes.later;
      caused = caused_from old mid new halt.fault heap later goes.caused;
    }

  -- ---- registers released

  cause_left : (old mid new : FrameSeen A) (fault : Fault) → mid.len ≤ 16 → new.heap ≡ mid.heap
      → Quietly mid.seat.log new.seat.log
      → Caused old mid fault → CauseLeft old new fault
  cause_left old mid new faults.HeapFull few heap quiet caused = none_quietly old mid new quiet caused
  cause_left old mid new faults.FrameFull few heap quiet caused = omega (arith, few, caused)
  cause_left old mid new faults.LedgerFull few heap quiet caused = born_quietly mid new heap quiet caused
  cause_left old mid new _ few heap quiet caused = tt

  pub left_of : (old mid new : FrameSeen A) (ran : Result (Unit {0}) Halt) (result : Option Halt) → HaltOf ran result
      → mid.len ≤ 16 → new.heap ≡ mid.heap → Quietly mid.seat.log new.seat.log → HaltsForCause old mid ran
      → IfSome result (λ halt. CauseLeft old new halt.fault)
  left_of old mid new (Ok done) result is few heap quiet goes =
      subst (λ (r : Option Halt). IfSome r (λ halt. CauseLeft old new halt.fault)) (sym is) tt
  left_of old mid new (Err halt) result is few heap quiet goes =
      subst (λ (r : Option Halt). IfSome r (λ halt. CauseLeft old new halt.fault)) (sym is)
      (cause_left old mid new halt.fault few heap quiet goes.caused)

  pub left_memory : (old new : FrameSeen A) (fault : Fault) → fault ≡ faults.OutOfMemory → CauseLeft old new fault
  left_memory old new fault is = subst (CauseLeft old new) (sym is) tt

  -- ---- by the fault's number

  heap_full_by : (old new : FrameSeen A) (fault : Fault) → number_of fault ≡ number_of faults.HeapFull
      → CauseLeft old new fault → NoneWasFree old.heap.cells old.seat.log new.seat.log
  heap_full_by old new faults.HeapFull same left = left
  heap_full_by old new fault same left = absurd (omega (arith, same))

  no_frame_full_by : (old new : FrameSeen A) (fault : Fault) → number_of fault ≡ number_of faults.FrameFull
      → CauseLeft old new fault → ⊥
  no_frame_full_by old new faults.FrameFull same left = left
  no_frame_full_by old new fault same left = absurd (omega (arith, same))

  ledger_full_by : (old new : FrameSeen A) (fault : Fault) → number_of fault ≡ number_of faults.LedgerFull
      → CauseLeft old new fault → MOST_BIRTHS ≤ (ledger_seen new).allocs
  ledger_full_by old new faults.LedgerFull same left = left
  ledger_full_by old new fault same left = absurd (omega (arith, same))

  -- ---- the section

  module _ (section : Section A) (old began ran new : FrameSeen A) (halt : Option Halt) (met : Option (ℕ × ℕ))
      (same : began ≡ old)
      (left : AreOwn (written_out section.pieces) → IfSome halt (λ h. CauseLeft began ran h.fault))
      (heap : new.heap ≡ ran.heap) (quiet : Quietly ran.seat.log new.seat.log) (told : FaultOf halt met)
      (private : is_private section ≡ true) (line : ℕ) where
    left_since : IfSome halt (λ h. CauseLeft old ran h.fault)
    left_since = subst (λ (f : FrameSeen A). IfSome halt (λ h. CauseLeft f ran h.fault)) same
        (left (own_section section private))

    pub heap_full : met ≡ Some (number_of faults.HeapFull, line)
        → NoneWasFree old.heap.cells old.seat.log new.seat.log
    heap_full is =
        let at = halt_told (λ fault line. CauseLeft old ran fault) halt met (number_of faults.HeapFull) line told is
        left_since
        in none_quietly old ran new quiet (heap_full_by old ran at.0 at.1 at.2)

    pub no_frame_full : met ≢ Some (number_of faults.FrameFull, line)
    no_frame_full is =
        let at = halt_told (λ fault line. CauseLeft old ran fault) halt met (number_of faults.FrameFull) line told is
        left_since
        in no_frame_full_by old ran at.0 at.1 at.2

    pub ledger_full : met ≡ Some (number_of faults.LedgerFull, line) → MOST_BIRTHS ≤ (ledger_seen new).allocs
    ledger_full is =
        let at = halt_told (λ fault line. CauseLeft old ran fault) halt met (number_of faults.LedgerFull) line told is
        left_since
        in born_quietly ran new heap quiet (ledger_full_by old ran at.0 at.1 at.2)
