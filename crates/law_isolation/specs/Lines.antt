-- How lines of a running section stand to their plain meaning.
use Rattle.std.specs.Prelude.{◌≡◌, ℕ, true, false, List, ◌++◌, Option, Ok, Err}
use Rattle.brc_words.specs.declared.fault.Fault.{Fault}
use Rattle.brc_count.specs.Frames.{FrameSeen, HandleSeen}
use Rattle.brc_script.specs.Instructions.{NumberedLine}
use Rattle.brc_meaning.specs.declared.state.State.{State}
use Rattle.brc_meaning.specs.Sections.{lines_after}
use Rattle.brc_count.specs.law.living.Living.{OwnLog}
use Rattle.law_isolation.specs.Means.{Means}
use Rattle.law_isolation.specs.Goes.{is_machines}

module _ {A : Type 0} where
  -- Frame, registers and what was printed are at this state: what the log tells is known at the thread's next poll.
  pub record At (base : ℕ) (frame : FrameSeen A) (registers : List (Option HandleSeen)) (printed : List ℕ)
      (s : State A) : Type 0 where
    pub means : OwnLog frame.heap.cells frame.seat.log → Means base frame registers s
    pub same : s.printed ≡ printed

  -- all lines were run, and led here
  pub record WentOn (base : ℕ) (frame : FrameSeen A) (registers : List (Option HandleSeen)) (printed : List ℕ)
      (s : State A) (lines : List (NumberedLine A)) : Type 0 where
    pub next : State A
    pub meant : lines_after lines s ≡ Ok next
    pub here : At base frame registers printed next

  -- the first lines were run, and printed this
  pub record BrokeOff (printed : List ℕ) (s : State A) (lines : List (NumberedLine A)) : Type 0 where
    pub front : List (NumberedLine A)
    pub later : List (NumberedLine A)
    pub whole : lines ≡ front ++ later
    pub next : State A
    pub meant : lines_after front s ≡ Ok next
    pub same : next.printed ≡ printed

  -- a line met the fault that it is meant to meet, and nothing was run after it
  pub record Faulted (base : ℕ) (frame : FrameSeen A) (registers : List (Option HandleSeen)) (printed : List ℕ)
      (s : State A) (lines : List (NumberedLine A)) (fault : Fault) (line : ℕ) : Type 0 where
    pub next : State A
    pub meant : lines_after lines s ≡ Err (record { state = next; fault = fault; line = line })
    pub here : At base frame registers printed next

  -- A line met a fault: one of the machine's, and the lines broke off there; or its own.
  pub record Stopped (base : ℕ) (frame : FrameSeen A) (registers : List (Option HandleSeen)) (printed : List ℕ)
      (s : State A) (lines : List (NumberedLine A)) (fault : Fault) (line : ℕ) : Type 0 where
    pub broke : is_machines fault ≡ true → BrokeOff printed s lines
    pub faulted : is_machines fault ≡ false → Faulted base frame registers printed s lines fault line
