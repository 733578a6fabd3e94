-- The status that the program ends with once it is told what failed.
use Rattle.std.specs.Prelude.{ℕ}
use Rattle.brc_words.specs.declared.fault.Fault.{Fault}
use Rattle.brc_words.specs.declared.fault.Fault.TheVariants as faults
use Rattle.brc_program.specs.declared.failed.Failed.{Failed}
use Rattle.brc_program.specs.declared.failed.Failed.TheVariants as fails

-- a bad command line 2, a bad text 3, a stream that fails 5, and each other one 4
abbrev pub status_of : Fault → ℕ
status_of faults.BadOptions = 2
status_of (faults.BadTrace line reason) = 3
status_of (faults.BadScript line) = 3
status_of faults.Io = 5
status_of _ = 4

-- a text without a graph is a bad text, and so is one that is no script
abbrev pub status_of_failed : Failed → ℕ
status_of_failed (fails.Fault unreplayed) = status_of unreplayed.fault
status_of_failed (fails.NoGraph line) = 3
status_of_failed (fails.NoScript line mistake) = 3
status_of_failed (fails.NoCommand unread) = 2
