use Rattle.std.proofs.Common.{◌≡◌, length}
use Rattle.brc_script.specs.Walks.{lines_of, is_closed}
use Rattle.brc_script.proofs.lines.is_closed.Given as goal

abbrev pub invariant-loop-rest : goal.invariant-loop-rest
invariant-loop-rest l = is_closed (lines_of l.rest) ≡ is_closed (lines_of l.text)

abbrev pub decreases-loop-rest : goal.decreases-loop-rest
decreases-loop-rest l = length l.rest
