use Rattle.std.proofs.Common.{◌≡◌, None}
use Rattle.brc_trace.specs.Lowest.{lowest}
use Rattle.brc_trace.proofs.lowest.lowest.Given as goal

abbrev pub invariant-loop-number : goal.invariant-loop-number
invariant-loop-number g l = lowest l.world l.thread l.sought l.number ≡ None
