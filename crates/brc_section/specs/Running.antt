-- What running a line, or lines, comes to, by their plain meaning.
use Rattle.std.specs.Prelude.{◌≡◌, ℕ, ◌+◌, true, false, List, [], ◌∷◌, ◌++◌, length, Option, Some, None, Result, Ok, Err}
use Rattle.std.specs.Prelude.{MatchResult, MatchOption}
use Rattle.brc_words.specs.Faults.{number_of}
use Rattle.brc_words.specs.declared.fault.Fault.{Fault}
use Rattle.brc_words.specs.declared.fault.Fault.TheVariants as faults
use Rattle.brc_script.specs.Instructions.{NumberedLine, is_shared}
use Rattle.brc_count.specs.Frames.{FrameSeen, HandleSeen, ledger_seen}
use Rattle.brc_meaning.specs.declared.state.State.{State}
use Rattle.brc_meaning.specs.States.{start}
use Rattle.brc_meaning.specs.Sections.{lines_after}
use Rattle.brc_count.specs.law.living.Living.{OwnLog}
use Rattle.law_isolation.specs.Goes.{is_want, is_machines}
use Rattle.law_isolation.specs.Lines.{At, WentOn, BrokeOff, Stopped}
use Rattle.brc_instructions.specs.declared.shown.Shown.{Shown}
use Rattle.brc_instructions.specs.Printing.{text_shown}
use Rattle.brc_section.specs.declared.running.Halt.{Halt}

module _ {A : Type 0} where
  -- no line looks into the globals, or changes them
  abbrev pub AreOwn : List (NumberedLine A) → Type 0
  AreOwn [] = Unit {0}
  AreOwn (line ∷ lines) = (is_shared line.instruction ≡ false) × AreOwn lines

  -- What was shown is noted; or memory for it was missing, and nothing is. A fault stays a fault.
  abbrev pub NotesShown : Result (Shown A) Fault → List ℕ → List ℕ → Result (Unit {0}) Fault → Type 0
  NotesShown read had has result = MatchResult read
      (λ shown. MatchResult result (λ _. has ≡ had ++ (text_shown shown ++ 10 ∷ []))
      (λ fault. (fault ≡ faults.OutOfMemory) × (has ≡ had)))
      (λ fault. (result ≡ Err fault) × (has ≡ had))

  -- The line's instruction led where it is meant to lead; or it was refused as it is meant to be, unless something was
  -- wanting. Nothing more was printed then.
  abbrev pub Did : ℕ → FrameSeen A → List (Option HandleSeen) → List ℕ → State A → Result (State A) Fault
      → Result (Unit {0}) Fault → Type 0
  Did base frame registers printed s meant result = MatchResult result
      (λ _. (next : State A) × (meant ≡ Ok next) × At base frame registers printed next)
      (λ fault. (s.printed ≡ printed) × (is_want fault ≡ false
      → (meant ≡ Err fault) × At base frame registers printed s))

  -- the lines were all run, or stopped at a fault
  abbrev pub Ran : ℕ → FrameSeen A → List (Option HandleSeen) → List ℕ → State A → List (NumberedLine A)
      → Result (Unit {0}) Halt → Type 0
  Ran base frame registers printed s lines result = MatchResult result
      (λ _. WentOn base frame registers printed s lines)
      (λ halt. Stopped base frame registers printed s lines halt.fault halt.line)

  -- so from any state at which frame, registers and lines were, of lines that share nothing
  abbrev pub RunsOn : FrameSeen A → List (Option HandleSeen) → List ℕ → FrameSeen A → List (Option HandleSeen) → List ℕ
      → List (NumberedLine A) → Result (Unit {0}) Halt → Type 0
  RunsOn old before had new registers printed lines result =
      (base : ℕ) (s : State A) → AreOwn lines → At base old before had s → Ran base new registers printed s lines result

  -- so far these lines were run, of lines that share nothing
  abbrev pub HasRun : FrameSeen A → List (Option HandleSeen) → List ℕ → FrameSeen A → List (Option HandleSeen) → List ℕ
      → List (NumberedLine A) → List (NumberedLine A) → Type 0
  HasRun old before had frame registers printed whole lines =
      (base : ℕ) (s : State A) → AreOwn whole → At base old before had s → WentOn base frame registers printed s lines

  -- what the log tells at the thread's next poll: it bore as many objects since as were made
  abbrev pub Bore : ℕ → FrameSeen A → State A → Type 0
  Bore base frame s = OwnLog frame.heap.cells frame.seat.log → (ledger_seen frame).allocs ≡ base + length s.objects

  -- all lines were run
  pub record RanAll (base : ℕ) (frame : FrameSeen A) (printed : List ℕ) (lines : List (NumberedLine A)) : Type 0 where
    pub next : State A
    pub meant : lines_after lines start ≡ Ok next
    pub same : next.printed ≡ printed
    pub bore : Bore base frame next

  -- a line met the fault that it is meant to meet
  pub record MetFault (base : ℕ) (frame : FrameSeen A) (printed : List ℕ) (lines : List (NumberedLine A))
      (fault : Fault) (line : ℕ) : Type 0 where
    pub next : State A
    pub meant : lines_after lines start ≡ Err (record { state = next; fault = fault; line = line })
    pub same : next.printed ≡ printed
    pub bore : Bore base frame next

  -- a section's lines were all run; or one of the machine's faults broke them off; or a line met its own
  abbrev pub SectionEnded : ℕ → FrameSeen A → List ℕ → List (NumberedLine A) → Option Halt → Type 0
  SectionEnded base frame printed lines result = MatchOption result
      (RanAll base frame printed lines)
      (λ halt. (is_machines halt.fault ≡ true → BrokeOff printed start lines)
      × (is_machines halt.fault ≡ false → MetFault base frame printed lines halt.fault halt.line))

-- the halt, where the lines came to one
abbrev pub HaltOf : Result (Unit {0}) Halt → Option Halt → Type 0
HaltOf ran result = MatchResult ran (λ _. result ≡ None) (λ halt. result ≡ Some halt)

-- the number of its fault, and its line
abbrev pub FaultOf : Option Halt → Option (ℕ × ℕ) → Type 0
FaultOf halt met = MatchOption halt (met ≡ None) (λ (h : Halt). met ≡ Some (number_of h.fault, h.line))
