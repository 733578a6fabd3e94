-- No status has the number 0.
use Rattle.std.proofs.Common.{arith, ◌<◌}
use Rattle.brc_words.specs.declared.fault.Fault.{Fault}
use Rattle.brc_words.specs.declared.fault.Fault.TheVariants as faults
use Rattle.brc_words.specs.Faults.{number_of}
use Rattle.brc_client.specs.declared.status.Status.{Status}
use Rattle.brc_client.specs.declared.status.Status.TheVariants as statuses
use Rattle.brc_client.specs.Numbers.{status_number}

pub fault_above : (fault : Fault) → 0 < number_of fault
fault_above faults.OutOfMemory = omega arith
fault_above faults.HeapFull = omega arith
fault_above faults.FrameFull = omega arith
fault_above faults.Busy = omega arith
fault_above faults.WrongKind = omega arith
fault_above faults.NoSuchPlace = omega arith
fault_above faults.NoSuchKey = omega arith
fault_above faults.Full = omega arith
fault_above faults.TooManyThreads = omega arith
fault_above faults.NotIdle = omega arith
fault_above (faults.Missing registered gathered) = omega arith
fault_above (faults.BadTrace line reason) = omega arith
fault_above (faults.BadScript line) = omega arith
fault_above faults.BadOptions = omega arith
fault_above faults.Io = omega arith
fault_above faults.Overflow = omega arith
fault_above faults.LedgerFull = omega arith

pub above : (status : Status) → 0 < status_number status
above (statuses.Fault fault) = fault_above fault
above statuses.Stale = omega arith
above statuses.Foreign = omega arith
above statuses.Same = omega arith
above statuses.Gone = omega arith
above statuses.NotText = omega arith
above statuses.NotValue = omega arith
