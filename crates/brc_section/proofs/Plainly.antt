-- From lines to the section: what it printed is its plain meaning, or a front of it.
use Rattle.std.proofs.Common.{arith, ◌≡◌, ◌∙◌, ℕ, ◌+◌, Bool, true, false, List, [], length, Option}
use Rattle.std.proofs.Common.{Some, None, is_some, Result, Ok, Err, IfErr, IfSome, refl, sym, ap, subst, true≢false}
use Rattle.std.proofs.lemmas.List.{append-nil}
use Rattle.brc_words.specs.Faults.{number_of}
use Rattle.brc_words.specs.declared.fault.Fault.{Fault}
use Rattle.brc_words.specs.declared.fault.Fault.TheVariants as faults
use Rattle.brc_script.specs.declared.script.Section.{Section}
use Rattle.brc_script.specs.Instructions.{NumberedLine}
use Rattle.brc_script.specs.Scripts.{is_private}
use Rattle.brc_count.specs.table.Seated.{TableSeen}
use Rattle.brc_count.specs.Frames.{FrameSeen, HandleSeen, ledger_seen}
use Rattle.brc_handles.specs.Handles.{IsBare}
use Rattle.brc_meaning.specs.declared.state.State.{State}
use Rattle.brc_meaning.specs.States.{start}
use Rattle.brc_meaning.specs.Sections.{SectionStop, Meaning, lines_after, written_out, told, meaning}
use Rattle.brc_meaning.specs.Wholes.{ended}
use Rattle.brc_meaning.proofs.WrittenOut.{section_written_out}
use Rattle.law_means.specs.Fronts.{IsFront}
use Rattle.law_means.proofs.Fronts_Law.{front_meant}
use Rattle.law_means.proofs.Private_Lines.{private_lines}
use Rattle.brc_count.specs.law.living.Living.{OwnLog}
use Rattle.brc_count.specs.law.living.Quiet.{Quietly}
use Rattle.brc_count.proofs.law.living.Earlier.{own_before}
use Rattle.law_isolation.specs.Means.{Means, SIXTEEN}
use Rattle.law_isolation.specs.Goes.{is_machines}
use Rattle.law_isolation.specs.Lines.{At, WentOn, BrokeOff, Stopped, Faulted}
use Rattle.law_isolation.proofs.Quiet_Lives.{allocs_quietly}
use Rattle.law_isolation.proofs.Registers_Kept.{means_begins}
use Rattle.brc_section.specs.declared.running.Halt.{Halt}
use Rattle.brc_section.specs.Isolation.{is_own_end, PrintsPlainly}
use Rattle.brc_section.specs.Running.{AreOwn, Ran, HaltOf, FaultOf, Bore, MetFault, SectionEnded}
use Rattle.brc_section.proofs.Runs.{all_own}

-- a fault of a section's own is none of the machine's
own_fault : (fault : Fault) (line : ℕ) → is_own_end (Some (number_of fault, line)) ≡ true → is_machines fault ≡ false
own_fault faults.OutOfMemory line own = absurd (true≢false (sym own))
own_fault faults.HeapFull line own = absurd (true≢false (sym own))
own_fault faults.FrameFull line own = absurd (true≢false (sym own))
own_fault faults.Busy line own = absurd (true≢false (sym own))
own_fault faults.WrongKind line own = refl
own_fault faults.NoSuchPlace line own = refl
own_fault faults.NoSuchKey line own = refl
own_fault faults.Full line own = refl
own_fault faults.TooManyThreads line own = refl
own_fault faults.NotIdle line own = refl
own_fault (faults.Missing registered gathered) line own = refl
own_fault (faults.BadTrace line reason) at own = refl
own_fault (faults.BadScript line) at own = refl
own_fault faults.BadOptions line own = refl
own_fault faults.Io line own = refl
own_fault faults.Overflow line own = refl
own_fault faults.LedgerFull line own = absurd (true≢false (sym own))

whole_front : (lines : List ℕ) → IsFront lines lines
whole_front lines = ([], sym (append-nil lines))

sum_of : (n : ℕ) → n ≡ n + 0
sum_of n = omega arith

module _ {A : Type 0} where
  pub own_section : (section : Section A) → is_private section ≡ true → AreOwn (written_out section.pieces)
  own_section section private = all_own (written_out section.pieces) (private_lines section private)

  -- ---- registers made and released

  -- a section begins where frame and registers mean nothing yet
  pub begins_at : (frame : FrameSeen A) (registers : List (Option HandleSeen)) (printed : List ℕ) → IsBare registers
      → length registers ≡ SIXTEEN
      → printed ≡ [] → At (ledger_seen frame).allocs frame registers printed start
  begins_at frame registers printed bare size none = record {
    means = λ own. means_begins frame registers bare size;
    same = sym none;
  }

  -- nothing is born as registers are released
  pub same_allocs : (frame new : FrameSeen A) → new.heap ≡ frame.heap → Quietly frame.seat.log new.seat.log
      → (ledger_seen new).allocs ≡ (ledger_seen frame).allocs
  same_allocs frame new heap quiet =
      allocs_quietly new.heap.cells frame.seat.log new.seat.log quiet
      ∙ ap (λ (h : TableSeen). (ledger_seen (record frame { heap = h })).allocs) heap

  -- what was born is told by the log before the registers were released
  bore_before : (base : ℕ) (frame new : FrameSeen A) (registers : List (Option HandleSeen)) (s : State A)
      → new.heap ≡ frame.heap
      → Quietly frame.seat.log new.seat.log → (OwnLog frame.heap.cells frame.seat.log → Means base frame registers s)
      → Bore base new s
  bore_before base frame new registers s heap quiet means own =
      let before : OwnLog new.heap.cells frame.seat.log =
      own_before new.heap.cells frame.seat.log new.seat.log quiet own
      in let meant : Means base frame registers s =
      means (subst (λ (h : TableSeen). OwnLog h.cells frame.seat.log) heap before)
      in same_allocs frame new heap quiet ∙ meant.shows.made

  pub ended_all : (base : ℕ) (frame new : FrameSeen A) (registers : List (Option HandleSeen)) (printed : List ℕ)
      (lines : List (NumberedLine A))
      → new.heap ≡ frame.heap → Quietly frame.seat.log new.seat.log → WentOn base frame registers printed start lines
      → SectionEnded base new printed lines None
  ended_all base frame new registers printed lines heap quiet went = record {
    next = went.next;
    meant = went.meant;
    same = went.here.same;
    bore = bore_before base frame new registers went.next heap quiet went.here.means;
  }

  pub ended_early : (base : ℕ) (frame new : FrameSeen A) (registers : List (Option HandleSeen)) (printed : List ℕ)
      (lines : List (NumberedLine A)) (halt : Halt)
      → new.heap ≡ frame.heap → Quietly frame.seat.log new.seat.log
      → Stopped base frame registers printed start lines halt.fault halt.line
      → SectionEnded base new printed lines (Some halt)
  ended_early base frame new registers printed lines halt heap quiet stopped = (
    stopped.broke,
    λ own.
        let faulted : Faulted base frame registers printed start lines halt.fault halt.line = stopped.faulted own
        in record {
          next = faulted.next;
          meant = faulted.meant;
          same = faulted.here.same;
          bore = bore_before base frame new registers faulted.next heap quiet faulted.here.means;
        },
  )

  -- ---- the section

  module _ (section : Section A) (base : ℕ) (frame : FrameSeen A) (after : ℕ) (printed : List ℕ)
      (own : OwnLog frame.heap.cells frame.seat.log) (same : after ≡ (ledger_seen frame).allocs) where
    pub prints_all : SectionEnded base frame printed (written_out section.pieces) None
        → PrintsPlainly section base after printed None
    prints_all ran =
        let meant = section_written_out section ∙ ap told ran.meant
        in record {
          prints = record {
            front = subst (IsFront printed) (sym ran.same ∙ sym (ap (λ (m : Meaning). m.lines) meant))
                (whole_front printed);
            lines = λ _. sym ran.same ∙ sym (ap (λ (m : Meaning). m.lines) meant);
            fault = λ _. sym (ap (λ (m : Meaning). m.fault) meant);
          };
          births = λ _. same ∙ ran.bore own ∙ ap (λ (n : ℕ). base + n) (sym (ap (λ (m : Meaning). m.made) meant));
        }

    -- what the last line before the halt had printed is a front of all
    broke_front : (halt : Halt) → BrokeOff printed start (written_out section.pieces)
        → IsFront printed (meaning section).lines
    broke_front halt off =
        subst (λ (lines : List ℕ). IsFront lines (meaning section).lines)
        (ap (λ (r : Result (State A) (SectionStop A)). (ended r).printed) off.meant ∙ off.same)
        (front_meant section off.front off.later off.whole).lines

    fault_meant : (halt : Halt) → MetFault base frame printed (written_out section.pieces) halt.fault halt.line
        → PrintsPlainly section base after printed (Some (number_of halt.fault, halt.line))
    fault_meant halt met =
        let meant = section_written_out section ∙ ap told met.meant
        in record {
          prints = record {
            front = subst (IsFront printed) (sym met.same ∙ sym (ap (λ (m : Meaning). m.lines) meant))
                (whole_front printed);
            lines = λ _. sym met.same ∙ sym (ap (λ (m : Meaning). m.lines) meant);
            fault = λ _. sym (ap (λ (m : Meaning). m.fault) meant);
          };
          births = λ _. same ∙ met.bore own ∙ ap (λ (n : ℕ). base + n) (sym (ap (λ (m : Meaning). m.made) meant));
        }

    by_machines : (halt : Halt) (b : Bool) → is_machines halt.fault ≡ b
        → SectionEnded base frame printed (written_out section.pieces) (Some halt)
        → PrintsPlainly section base after printed (Some (number_of halt.fault, halt.line))
    by_machines halt true is ends =
        let no_own : is_own_end (Some (number_of halt.fault, halt.line)) ≡ true → ⊥
        = λ claims. true≢false (sym is ∙ own_fault halt.fault halt.line claims)
        in record {
          prints = record {
            front = broke_front halt (ends.0 is);
            lines = λ claims. absurd (no_own claims);
            fault = λ claims. absurd (no_own claims);
          };
          births = λ claims. absurd (no_own claims);
        }
    by_machines halt false is ends = fault_meant halt (ends.1 is)

    pub prints_met : (halt : Halt) → SectionEnded base frame printed (written_out section.pieces) (Some halt)
        → PrintsPlainly section base after printed (Some (number_of halt.fault, halt.line))
    prints_met halt ends = by_machines halt (is_machines halt.fault) refl ends

    -- by the fault that is told of it
    pub prints_of : (halt : Option Halt) (met : Option (ℕ × ℕ)) → FaultOf halt met
        → SectionEnded base frame printed (written_out section.pieces) halt
        → PrintsPlainly section base after printed met
    prints_of None met is ran = subst (PrintsPlainly section base after printed) (sym is) (prints_all ran)
    prints_of (Some halt) met is ends = subst (PrintsPlainly section base after printed) (sym is) (prints_met halt ends)

  -- ---- what the lines came to

  pub ended_of : (base : ℕ) (frame new : FrameSeen A) (registers : List (Option HandleSeen)) (printed : List ℕ)
      (lines : List (NumberedLine A))
      (ran : Result (Unit {0}) Halt) (result : Option Halt) → HaltOf ran result → new.heap ≡ frame.heap
      → Quietly frame.seat.log new.seat.log
      → Ran base frame registers printed start lines ran → SectionEnded base new printed lines result
  ended_of base frame new registers printed lines (Ok done) result is heap quiet went =
      subst (SectionEnded base new printed lines) (sym is)
      (ended_all base frame new registers printed lines heap quiet went)
  ended_of base frame new registers printed lines (Err halt) result is heap quiet stopped =
      subst (SectionEnded base new printed lines) (sym is)
      (ended_early base frame new registers printed lines halt heap quiet stopped)

  -- memory for the registers was missing, at the first line
  pub ended_first : (base : ℕ) (frame : FrameSeen A) (printed : List ℕ) (lines : List (NumberedLine A)) (halt : Halt)
      → printed ≡ []
      → is_machines halt.fault ≡ true → SectionEnded base frame printed lines (Some halt)
  ended_first base frame printed lines halt none machines = (
    λ _. record { front = []; later = lines; whole = refl; next = start; meant = refl; same = sym none },
    λ own. absurd (true≢false (sym machines ∙ own)),
  )

  -- there is no line
  pub ended_without : (frame : FrameSeen A) (printed : List ℕ) (lines : List (NumberedLine A)) → printed ≡ []
      → lines ≡ []
      → SectionEnded (ledger_seen frame).allocs frame printed lines None
  ended_without frame printed lines none is = record {
    next = start;
    meant = ap (λ (these : List (NumberedLine A)). lines_after these start) is;
    same = sym none;
    bore = λ own. sum_of (ledger_seen frame).allocs;
  }

-- what holds of a halt holds of the halt that lines came to
pub halt_holds : (P : Halt → Type 0) (ran : Result (Unit {0}) Halt) (result : Option Halt) → HaltOf ran result
    → IfErr ran P → IfSome result P
halt_holds P (Ok done) result is holds = subst (λ (r : Option Halt). IfSome r P) (sym is) tt
halt_holds P (Err halt) result is holds = subst (λ (r : Option Halt). IfSome r P) (sym is) holds

-- what holds of a halt's line holds of the line that is told
pub line_told : (P : ℕ → Type 0) (halt : Option Halt) (met : Option (ℕ × ℕ)) → FaultOf halt met
    → IfSome halt (λ h. P h.line) → IfSome met (λ fault. P fault.1)
line_told P None met is holds = subst (λ (m : Option (ℕ × ℕ)). IfSome m (λ fault. P fault.1)) (sym is) tt
line_told P (Some h) met is holds = subst (λ (m : Option (ℕ × ℕ)). IfSome m (λ fault. P fault.1)) (sym is) holds

abbrev number_in : Option (ℕ × ℕ) → ℕ
number_in None = 0
number_in (Some fault) = fault.0

abbrev line_in : Option (ℕ × ℕ) → ℕ
line_in None = 0
line_in (Some fault) = fault.1

-- the halt that is told of by this number and this line
pub halt_told : (P : Fault → ℕ → Type 0) (halt : Option Halt) (met : Option (ℕ × ℕ)) (number line : ℕ)
    → FaultOf halt met
    → met ≡ Some (number, line) → IfSome halt (λ h. P h.fault h.line)
    → (fault : Fault) × (number_of fault ≡ number) × P fault line
halt_told P None met number line is says holds = absurd (true≢false (sym (ap is_some (sym is ∙ says))))
halt_told P (Some h) met number line is says holds =
    let same : Some (number_of h.fault, h.line) ≡ Some (number, line) = sym is ∙ says
    in (h.fault, ap number_in same, subst (P h.fault) (ap line_in same) holds)

busy_by : (fault : Fault) → number_of fault ≡ number_of faults.Busy → fault ≡ faults.Busy
busy_by faults.Busy same = refl
busy_by fault same = absurd (omega (arith, same))

pub busy_told : (P : ℕ → Type 0) (halt : Option Halt) (met : Option (ℕ × ℕ)) (line : ℕ) → FaultOf halt met
    → met ≡ Some (number_of faults.Busy, line) → IfSome halt (λ h. h.fault ≡ faults.Busy → P h.line) → P line
busy_told P halt met line is says holds =
    let at = halt_told (λ fault line. fault ≡ faults.Busy → P line) halt met (number_of faults.Busy) line is says holds
    in at.2 (busy_by at.0 at.1)

module _ {A : Type 0} where
  -- a section from its first line to its thread's rest: `began` is the frame that its lines began with, `ran` the one
  -- they left
  pub plainly : (section : Section A) (old began ran new : FrameSeen A) (none printed : List ℕ)
      (halt : Option Halt) (met : Option (ℕ × ℕ))
      → began ≡ old → none ≡ []
      → (none ≡ [] → AreOwn (written_out section.pieces) → SectionEnded (ledger_seen began).allocs ran printed
      (written_out section.pieces) halt)
      → OwnLog ran.heap.cells ran.seat.log → new.heap ≡ ran.heap → Quietly ran.seat.log new.seat.log → FaultOf halt met
      → is_private section ≡ true → PrintsPlainly section (ledger_seen old).allocs (ledger_seen new).allocs printed met
  plainly section old began ran new none printed halt met same empty ends own heap quiet told private =
      let ended : SectionEnded (ledger_seen began).allocs ran printed (written_out section.pieces) halt =
      ends empty (own_section section private)
      in prints_of section (ledger_seen old).allocs ran (ledger_seen new).allocs printed own
      (same_allocs ran new heap quiet) halt met told
      (subst (λ (f : FrameSeen A). SectionEnded (ledger_seen f).allocs ran printed (written_out section.pieces) halt)
      same ended)
