-- How an instruction of a running section stands to its plain meaning.
use Rattle.std.specs.Prelude.{◌≡◌, ℕ, Bool, true, false, List, Option, Result, Ok, Err, MatchResult}
use Rattle.brc_words.specs.declared.fault.Fault.{Fault}
use Rattle.brc_words.specs.declared.fault.Fault.TheVariants as faults
use Rattle.brc_count.specs.Frames.{FrameSeen, HandleSeen}
use Rattle.brc_meaning.specs.declared.state.State.{State}
use Rattle.law_isolation.specs.Means.{Means}

-- a fault of the machine's: want of memory, of a cell, of a place, or of a birth more
abbrev pub is_want : Fault → Bool
is_want faults.OutOfMemory = true
is_want faults.HeapFull = true
is_want faults.FrameFull = true
is_want faults.LedgerFull = true
is_want _ = false

module _ {A : Type 0} where
  -- The instruction led where its plain meaning leads; or it was refused as that is, and nothing changed, unless
  -- something was wanting.
  abbrev pub LedAsMeant : ℕ → FrameSeen A → List (Option HandleSeen) → State A → Result (State A) Fault
      → Result (Unit {0}) Fault → Type 0
  LedAsMeant base frame registers s meant answer = MatchResult answer
      (λ _. (next : State A) × (meant ≡ Ok next) × Means base frame registers next)
      (λ fault. is_want fault ≡ false → (meant ≡ Err fault) × Means base frame registers s)

-- a fault that a section's plain meaning never has: one of the machine's, or that the gate let a line not through
abbrev pub is_machines : Fault → Bool
is_machines faults.Busy = true
is_machines fault = is_want fault
