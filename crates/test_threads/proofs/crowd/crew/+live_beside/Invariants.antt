use Rattle.std.proofs.Common.{length}
use Rattle.std.specs.Vec.Iter.{into_iter_items}
use Rattle.test_threads.proofs.crowd.crew.+live_beside.Given as goal

abbrev pub decreases-live_beside : goal.decreases-live_beside
decreases-live_beside g l = length (into_iter_items l.crew)
