-- The names of faults by their numbers.
use Rattle.std.specs.Prelude.{ℕ, List, [], ◌∷◌, Option, Some, None, ◌==◌, find}
use Rattle.brc_words.specs.declared.fault.Fault.{Fault}
use Rattle.brc_words.specs.declared.fault.Fault.TheVariants as faults
use Rattle.brc_words.specs.declared.fault.Reason.TheVariants as reasons
use Rattle.brc_words.specs.Faults.{number_of, name_of}

-- a fault of each number, from 1 on
abbrev pub one_of_each : List Fault
one_of_each =
    faults.OutOfMemory ∷ faults.HeapFull ∷ faults.FrameFull ∷ faults.Busy ∷ faults.WrongKind ∷ faults.NoSuchPlace
    ∷ faults.NoSuchKey ∷ faults.Full ∷ faults.TooManyThreads ∷ faults.NotIdle ∷ faults.Missing 0 0
    ∷ faults.BadTrace 0 reasons.NotALine ∷ faults.BadScript 0 ∷ faults.BadOptions ∷ faults.Io ∷ faults.Overflow
    ∷ faults.LedgerFull ∷ []

-- a fault with this number
abbrev pub fault_at : ℕ → Option Fault
fault_at number = find (λ fault. number_of fault == number) one_of_each

abbrev pub name_of_some : Option Fault → List ℕ
name_of_some None = []
name_of_some (Some fault) = name_of fault

-- the name of a fault with this number; nothing where no fault has it
abbrev pub fault_name : ℕ → List ℕ
fault_name number = name_of_some (fault_at number)
