use Rattle.std.specs.Prelude.{ℕ, List, codes}
use Rattle.brc_words.specs.declared.fault.Fault.{Fault}
use Rattle.brc_words.specs.declared.fault.Fault.TheVariants as faults

-- the faults by number
abbrev pub number_of : Fault → ℕ
number_of faults.OutOfMemory = 1
number_of faults.HeapFull = 2
number_of faults.FrameFull = 3
number_of faults.Busy = 4
number_of faults.WrongKind = 5
number_of faults.NoSuchPlace = 6
number_of faults.NoSuchKey = 7
number_of faults.Full = 8
number_of faults.TooManyThreads = 9
number_of faults.NotIdle = 10
number_of (faults.Missing registered gathered) = 11
number_of (faults.BadTrace line reason) = 12
number_of (faults.BadScript line) = 13
number_of faults.BadOptions = 14
number_of faults.Io = 15
number_of faults.Overflow = 16
number_of faults.LedgerFull = 17

-- the faults by name
abbrev pub name_of : Fault → List ℕ
name_of faults.OutOfMemory = codes "OutOfMemory"
name_of faults.HeapFull = codes "HeapFull"
name_of faults.FrameFull = codes "FrameFull"
name_of faults.Busy = codes "Busy"
name_of faults.WrongKind = codes "WrongKind"
name_of faults.NoSuchPlace = codes "NoSuchPlace"
name_of faults.NoSuchKey = codes "NoSuchKey"
name_of faults.Full = codes "Full"
name_of faults.TooManyThreads = codes "TooManyThreads"
name_of faults.NotIdle = codes "NotIdle"
name_of (faults.Missing registered gathered) = codes "Missing"
name_of (faults.BadTrace line reason) = codes "BadTrace"
name_of (faults.BadScript line) = codes "BadScript"
name_of faults.BadOptions = codes "BadOptions"
name_of faults.Io = codes "Io"
name_of faults.Overflow = codes "Overflow"
name_of faults.LedgerFull = codes "LedgerFull"
