use Rattle.std.proofs.Common.{◌≡◌, ◌++◌, IfSome, length}
use Rattle.brc_thread.specs.Emptied.{blocks_in}
use Rattle.brc_heap.specs.Contents.{contents_in}
use Rattle.brc_heap.proofs.collecting.collect.Given as goal

abbrev pub invariant-loop-block : goal.invariant-loop-block
invariant-loop-block g l = IfSome l.found (λ contents. contents.items ++ contents_in (blocks_in l.rest) ≡ contents_in
    (blocks_in l.fn.rest))

abbrev pub decreases-loop-block : goal.decreases-loop-block
decreases-loop-block g l = length l.rest
